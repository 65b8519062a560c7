-- `nearest_shifted_32`: half a step more, cut off.
use Rattle.numbers.proofs.Nearest.{half_added}
use Rattle.numbers.proofs.nearest_shifted_32.Goals as goal

pub returns : goal.returns
returns c = half_added c.args.n
