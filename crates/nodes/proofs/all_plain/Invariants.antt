-- `all_plain`: the floats before i are plain where `all` says so.
use mathlib.Core.Path.{◌≡◌}
use mathlib.Core.Bool.{true}
use Prim.Native.Nat.{◌≤◌}
use Rattle.nodes.specs.Plain.{AllPlain}
use Rattle.nodes.proofs.all_plain.Given as goal

abbrev pub invariant-loop-i : goal.invariant-loop-i
invariant-loop-i l = (l.a ≤ l.i) × (l.i ≤ l.e) × (l.all ≡ true → AllPlain l.hi l.flag l.floats l.a l.i)
