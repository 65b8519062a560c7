-- `region::first_in_row` meets its contract. The loop's invariant: rectangles hold all from west up to below x, in each row from y to top,
-- and of those walked through none holds x.
use Prim.Native.Nat.{◌≤◌, ◌-◌, ◌+◌, ◌*◌}
use mathlib.Core.Path.{◌≡◌}
use Rattle.region.specs.Free.{rect_count}
use Rattle.region.proofs.FreeLaws.{Shut-to, Walked}
use Rattle.region.proofs.first_in_row.Given as goal

abbrev pub invariant-loop-i : goal.invariant-loop-i
invariant-loop-i l =
    (l.n ≡ rect_count l.rs) × (l.i ≤ l.n) × (l.a.west ≤ l.x) × (l.x ≤ l.a.east) × (l.y ≤ l.top) × Shut-to l.rs l.a.west l.y l.x l.top × Walked l.rs l.x l.y l.i l.ahead

abbrev pub decreases-loop-i : goal.decreases-loop-i
decreases-loop-i l = (l.a.east - l.x) * (l.n + 1) + (l.n - l.i)
