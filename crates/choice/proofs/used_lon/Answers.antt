-- `choice::used_lon` meets its contract.
use mathlib.Core.Path.{sym}
use Rattle.choice.proofs.TurnHolds.{used_here, used_east, used_west}
use Rattle.choice.proofs.used_lon.Goals as goal

pub returns-then-rect_holds : goal.returns-then-rect_holds
returns-then-rect_holds c = used_here _ _ _ _ _ (sym c.if-rect_holds.ensures)

pub returns-then-rect_holds-2 : goal.returns-then-rect_holds-2
returns-then-rect_holds-2 c = used_east _ _ _ _ _ (sym c.if-rect_holds.ensures) (sym c.if-rect_holds-2.ensures)

pub returns : goal.returns
returns c = used_west _ _ _ _ _ (sym c.if-rect_holds.ensures) (sym c.if-rect_holds-2.ensures)
