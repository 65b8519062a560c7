-- `text::find_from` meets its contract.
use Prim.Native.Nat.{◌+◌}
use mathlib.Core.Path.{◌≡◌}
use lib.ListN.{drop}
use Rattle.text.specs.Parts.{up_to}
use Rattle.text.proofs.find_from.Given as goal

abbrev pub invariant-loop-i : goal.invariant-loop-i
invariant-loop-i l = l.i + up_to l.c (drop l.i l.s) ≡ l.a + up_to l.c (drop l.a l.s)
