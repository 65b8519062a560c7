-- `scan_grids` meets its contract: each turn takes one grid more.
use Prim.Native.Nat.{◌≤◌}
use mathlib.Core.Path.{◌≡◌}
use lib.ListN.{length}
use Rattle.abi.specs.Abi.{group_of_words}
use Rattle.judge.specs.Rules.{Scanned}
use Rattle.judge.proofs.scan_grids.Given as goal

abbrev pub invariant-loop-i : goal.invariant-loop-i
invariant-loop-i l =
    (l.i ≤ l.n) × (length l.fours ≡ length l.initial.fours) × (length l.keys ≡ length l.initial.keys) × (length l.sides ≡ length l.initial.sides) × (length l.ranks ≡ length l.initial.ranks)
    × (length l.frames ≡ length l.initial.frames) × Scanned (group_of_words l.words) l.np l.i l.edge l.fours l.keys l.sides l.ranks l.frames
