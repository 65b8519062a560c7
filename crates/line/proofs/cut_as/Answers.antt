-- `line::cut_as` meets its contract.
use native.Mathlib.Omega.{arith}
use Rattle.text.proofs.PartLaws.{some_split}
use Rattle.line.proofs.cut_as.Goals as goal

pub cut_field-requires : goal.cut_field-requires
cut_field-requires c =
    let line = c.args.line.now in
    (omega arith, c.cut_fields-n.ensures.cuts 0 (some_split 9 line) (omega arith))
