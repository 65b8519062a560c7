-- `region::first_free` meets its contract. The loop's invariant: rectangles hold all of the rows from south up to below y.
use Prim.Native.Nat.{ℕ, ◌≤◌, ◌<◌, ◌-◌, ◌+◌}
use mathlib.Core.Path.{◌≡◌}
use mathlib.Core.Bool.{false}
use Rattle.region.specs.Free.{free}
use Rattle.region.proofs.first_free.Given as goal

abbrev pub invariant-loop-y : goal.invariant-loop-y
invariant-loop-y l =
    (l.a.south ≤ l.y) × ((k j : ℕ) → l.a.west ≤ k → k ≤ l.a.east → l.a.south ≤ j → j < l.y → free l.rs k j ≡ false)

abbrev pub decreases-loop-y : goal.decreases-loop-y
decreases-loop-y l = l.a.north + 1 - l.y
