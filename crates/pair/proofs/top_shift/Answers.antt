-- `top_shift`: as many places as there are zeros in front.
use lib.Count.{count_leading_zeros, leading_top}
use Rattle.pair.proofs.ScaleLaws.{to_the_top}
use Rattle.pair.proofs.top_shift.Goals as goal

pub returns : goal.returns
returns c =
    let d = c.args.d in
    let t = leading_top 64 d c.requires c.ranges.d.fits in
    to_the_top d t.0 (count_leading_zeros 64 d) t.1 t.2 t.3
