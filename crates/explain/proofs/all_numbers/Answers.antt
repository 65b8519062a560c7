-- `all_numbers` meets its contract.
use mathlib.Core.Path.{refl, ap, ◌∙◌}
use mathlib.Core.List.{[]}
use native.Mathlib.Omega.{arith}
use lib.IntN.{pos}
use lib.ListN.{replicate}
use mir.Syntax.{w64}
use mir.ValLaws.{to_z-of_z}
use Rattle.explain.specs.Explain.{pieces_at, worked_numbers, cell_numbers, explanation_words}
use Rattle.explain.specs.Flat.{parameters_numbers}
use Rattle.explain.proofs.StoreLaws.{stored_three}
use Rattle.explain.proofs.all_numbers.Goals as goal

pub returns : goal.returns
unfolding cell_numbers parameters_numbers worked_numbers
returns c =
    let a = c.args in let factor = to_z-of_z w64 a.factor c.ranges.factor in
    stored_three (replicate explanation_words (pos 0)) (cell_numbers (pieces_at a.c a.lon a.l [] a.factor (λ k. 0))) (parameters_numbers a.l a.nodes.now a.factor) a.others.now 18 42
    (omega arith) refl refl
    (c.cell_numbers-cell.ensures ∙ (λ i. cell_numbers (pieces_at a.c (to_z-of_z w64 a.lon c.ranges.lon i) a.l [] (factor i) (λ k. 0))))
    (c.parameters_numbers-parameters.ensures ∙ ap (parameters_numbers a.l a.nodes.now) factor) refl
    c.store_numbers.ensures c.store_numbers-2.ensures c.store_numbers-3.ensures
