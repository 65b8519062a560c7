-- `force_words` meets its contract, refusal by refusal.
use mathlib.Core.Path.{◌∙◌, sym, ap}
use native.Mathlib.Omega.{arith}
use Rattle.std.specs.Prelude.{Ok}
use Rattle.std.proofs.lemmas.Result.{err_from_is_err_and}
use Rattle.inforce.proofs.StageLaws.{in_force_refused, in_force_listed}
use Rattle.inforce.proofs.force_words.Goals as goal

pub list_in-requires : goal.list_in-requires
list_in-requires c =
    let j = c.judge_area in let e = sym c.in_ok-judge_area.ensures.0 in
    record {
      accepted = e;
      sided = j.ensures.1 (j.ensures.0 ∙ e);
      room = record { few = omega arith; sides_room = omega (arith, j.auto.sides); ranks_room = omega (arith, j.auto.ranks) };
    }

pub returns-in_err-judge_area : goal.returns-in_err-judge_area
returns-in_err-judge_area c =
    let p = err_from_is_err_and c.from_residual.result c.from_residual.ensures.1 in
    rw (p.1, p.2) (sym (in_force_refused _ _ _ (sym c.in_err-judge_area.ensures.0)))

pub returns : goal.returns
returns c = ap Ok c.list_in.ensures ∙ sym (in_force_listed _ _ (sym c.in_ok-judge_area.ensures.0))
