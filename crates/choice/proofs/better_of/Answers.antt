-- `choice::better_of` meets its contract.
use mathlib.Core.Path.{sym}
use Rattle.choice.proofs.Turn.{grid_out, grid_taken, grid_kept}
use Rattle.choice.proofs.better_of.Goals as goal
use Rattle.choice.proofs.better_of.Goals.{else-turn_holds-via-then-turn_holds+else-is_blocker, else-turn_holds-via-else-turn_holds}

pub returns-then-is_blocker : goal.returns-then-is_blocker
returns-then-is_blocker c = grid_taken _ _ _ _ (sym c.if-turn_holds.ensures) (sym c.if-is_blocker.ensures)

pub returns-else-turn_holds : goal.returns-else-turn_holds
returns-else-turn_holds c =
    elim c.else-turn_holds.branch [
      | else-turn_holds-via-then-turn_holds+else-is_blocker w ↦ grid_kept _ _ _ _ (sym w.if-turn_holds.ensures) (sym w.if-is_blocker.ensures)
      | else-turn_holds-via-else-turn_holds w ↦ grid_out _ _ _ _ (sym w.if-turn_holds.ensures)
    ]
