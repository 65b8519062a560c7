-- `region::reaches` meets its contract.
use mathlib.Core.Path.{refl}
use Rattle.region.specs.Free.{reaches}
use Rattle.region.proofs.reaches.Goals as goal

pub returns : goal.returns
unfolding reaches
returns c = refl
