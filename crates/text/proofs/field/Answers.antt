-- `text::field` meets its contract.
use native.Mathlib.Omega.{arith}
use lib.ListN.{drop, length-drop}
use Rattle.text.proofs.PartLaws.{start_of_le, up_to_le}
use Rattle.text.proofs.field.Goals as goal

pub slice_bounds-result-end : goal.slice_bounds-result-end
slice_bounds-result-end c =
    let a = c.args in
    let s = a.line.now in
    let b = c.part_start-a.result in
    omega (arith, up_to_le 9 (drop b s), length-drop b s, start_of_le 9 s a.number)
