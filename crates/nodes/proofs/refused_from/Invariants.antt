-- `refused_from`: none from a up to j is refused.
use mathlib.Core.Path.{◌≡◌}
use mathlib.Core.Bool.{false}
use Prim.Native.Nat.{ℕ, ◌≤◌, ◌<◌}
use lib.Ieee.{nan}
use lib.ListN.{get_or}
use Rattle.nodes.specs.Load.{refused_float}
use Rattle.nodes.proofs.refused_from.Given as goal

abbrev pub invariant-loop-j : goal.invariant-loop-j
invariant-loop-j l = (l.a ≤ l.j) × (l.j ≤ l.e) × ((k : ℕ) → l.a ≤ k → k < l.j → refused_float l.q l.flag (get_or l.floats k nan) ≡ false)
