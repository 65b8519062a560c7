-- `lat_at` meets its contract: the latitude is the distance less that of 0.
use mir.Syntax.{w64}
use mir.Val.{SFits}
use mir.Facts.{to_z-of_z}
use Rattle.numbers.proofs.Diff.{less_of}
use Rattle.group.specs.Numbers.{lat_zero}
use Rattle.inforce.proofs.lat_at.Goals as goal

pub returns : goal.returns
returns c =
    let r = c.lowered in
    let fits : SFits w64 r.result = record { sfits = r.type_inv } in
    rw (to_z-of_z fits) (less_of r.result c.args.y lat_zero r.ensures)
