-- `judge_area` meets its contract, refusal by refusal.
use mathlib.Core.Path.{◌∙◌, sym}
use Rattle.std.proofs.lemmas.Result.{err_from_is_err_and}
use Rattle.group.proofs.RefusalLaws.{no_acceptance}
use Rattle.inforce.proofs.StageLaws.{area_group, area_10, area_accepted}
use Rattle.inforce.proofs.judge_area.Goals as goal

pub returns-in_err-judge_into : goal.returns-in_err-judge_into
returns-in_err-judge_into c =
    let p = err_from_is_err_and c.from_residual.result c.from_residual.ensures.1 in
    rw (p.1, p.2) (sym (area_group _ _ _ (sym c.in_err-judge_into.ensures.0)), λ q. absurd (no_acceptance _ q))

pub returns-then-not-area_fits : goal.returns-then-not-area_fits
returns-then-not-area_fits c = (
  sym (area_10 _ _ (sym c.in_ok-judge_into.ensures.0) (sym c.area_fits.ensures ∙ c.if-not-area_fits.true)),
  λ q. absurd (no_acceptance _ q),
)

pub returns : goal.returns
returns c =
    let j = c.judge_into.ensures in let e = sym c.in_ok-judge_into.ensures.0 in
    (sym (area_accepted _ _ e (sym c.area_fits.ensures ∙ c.if-not-area_fits.false)), λ q. (j.1 (j.0 ∙ e)).sided)
