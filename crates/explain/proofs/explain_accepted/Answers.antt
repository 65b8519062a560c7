-- `explain_accepted` meets its contract: what the lookup finds is explained.
use mathlib.Core.Path.{◌≡◌, sym, ap, ◌∙◌, subst}
use lib.IntN.{ℤ}
use mir.Syntax.{w64}
use mir.ValLaws.{to_z-of_z}
use Rattle.std.specs.Prelude.{Ok}
use Rattle.std.proofs.lemmas.Result.{err_from_is_err_and}
use Rattle.abi.specs.Abi.{group_of_words}
use Rattle.lookup.specs.Lookup.{looked_in}
use Rattle.lookup.proofs.StageLaws.{looked_accepted}
use Rattle.explain.specs.Explain.{pieces_of, pieces_numbers}
use Rattle.explain.specs.Flat.{Explainable}
use Rattle.explain.proofs.ExplainLaws.{by_refusal, by_fix, explainable}
use Rattle.explain.proofs.explain_accepted.Goals as goal
use Rattle.explain.proofs.explain_accepted.Goals.{In_ok-fix}

found : (c : In_ok-fix) → let a = c.args in looked_in (group_of_words a.words.now) a.nodes.now a.point a.day ≡ Ok c.in_ok-fix.fix
found c =
    let a = c.args in
    ap (looked_in (group_of_words a.words.now) a.nodes.now a.point) (sym (to_z-of_z w64 a.day c.ranges.day)) ∙ sym c.in_ok-fix.ensures

pub returns-in_err-fix : goal.returns-in_err-fix
returns-in_err-fix c =
    let a = c.args in let g = group_of_words a.words.now in
    let p = err_from_is_err_and c.from_residual.result c.from_residual.ensures.1 in
    rw (p.1, p.2)
    (by_refusal g a.nodes.now a.point a.day _
    (ap (looked_in g a.nodes.now a.point) (sym (to_z-of_z w64 a.day c.ranges.day)) ∙ sym c.in_err-fix.ensures))

pub found_numbers-requires : goal.found_numbers-requires
found_numbers-requires c =
    let a = c.args in let g = group_of_words a.words.now in let q = goal.at.found_numbers-requires c in (
      subst (λ (t : ℤ). Explainable g a.nodes.now a.point t c.in_ok-fix.fix.grid) (sym (to_z-of_z w64 a.day c.ranges.day))
          (explainable g a.nodes.now a.point a.day c.in_ok-fix.fix (looked_accepted g a.nodes.now a.point a.day c.requires.0 ∙ found q.In_ok-fix)),
      c.requires.1,
    )

pub returns : goal.returns
returns c =
    let a = c.args in let g = group_of_words a.words.now in let q = goal.at.returns c in
    by_fix g a.nodes.now a.point a.day c.in_ok-fix.fix (found q.In_ok-fix)
    (c.found_numbers.ensures ∙ ap (λ (t : ℤ). pieces_numbers (pieces_of g a.nodes.now a.point t c.in_ok-fix.fix.grid)) (to_z-of_z w64 a.day c.ranges.day))
