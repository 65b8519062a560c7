-- `choice::turn_holds` meets its contract.
use Rattle.choice.proofs.TurnHolds.{turn_holds_tests}
use Rattle.choice.proofs.turn_holds.Goals as goal

pub returns : goal.returns
returns c = turn_holds_tests _ _ _ _ _ c.rect_holds-here.ensures c.rect_holds-east.ensures c.rect_holds-west.ensures
