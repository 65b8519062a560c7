-- `choice::rect_holds` meets its contract.
use mathlib.Core.Path.{refl}
use Rattle.choice.specs.Rect.{rect_holds}
use Rattle.choice.proofs.rect_holds.Goals as goal

pub returns : goal.returns
unfolding rect_holds
returns c = refl
