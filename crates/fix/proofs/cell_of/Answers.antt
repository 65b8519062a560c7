-- `cell_of` meets its contract.
use mathlib.Core.Path.{refl}
use Rattle.fix.specs.Fix.{cell_of}
use Rattle.fix.proofs.OffsetLaws.{distances}
use Rattle.fix.proofs.cell_of.Goals as goal

pub weights_at-weights-requires : goal.weights_at-weights-requires
weights_at-weights-requires c = rw (c.cell_along-x.ensures, c.cell_along-y.ensures) (distances c.requires)

pub returns : goal.returns
unfolding cell_of
returns c = rw (c.weights_at-weights.ensures, c.cell_along-x.ensures, c.cell_along-y.ensures) refl
