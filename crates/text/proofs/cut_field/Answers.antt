-- `text::cut_field` meets its contract.
use native.Mathlib.Omega.{arith}
use lib.ListN.{drop, length-drop}
use Rattle.text.specs.Parts.{start_of}
use Rattle.text.proofs.PartLaws.{start_of_le, up_to_le}
use Rattle.text.proofs.cut_field.Goals as goal

pub slice_bounds-result-end : goal.slice_bounds-result-end
slice_bounds-result-end c =
    let a = c.args in
    let s = a.line.now in
    let b = start_of 9 s a.number in
    omega (arith, c.requires.1.starts, c.requires.1.ends, up_to_le 9 (drop b s), length-drop b s, start_of_le 9 s a.number)
