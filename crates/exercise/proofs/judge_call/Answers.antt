-- `judge_call` meets its contract.
use mathlib.Core.Path.{◌≡◌, sym, ◌∙◌}
use Rattle.std.specs.Prelude.{Ok}
use Rattle.std.proofs.lemmas.Result.{err_from_is_err_and}
use Rattle.abi.specs.Abi.{group_of_words}
use Rattle.judge.specs.Judge.{judged}
use Rattle.exercise.proofs.StageLaws.{many_group, many_accepted}
use Rattle.exercise.proofs.judge_call.Goals as goal
use Rattle.exercise.proofs.judge_call.Goals.{In_ok-judge_into}

accepted : (c : In_ok-judge_into) → judged (group_of_words c.args.words.now) ≡ Ok tt
accepted c = sym c.in_ok-judge_into.ensures.0

pub returns-in_err-judge_into : goal.returns-in_err-judge_into
returns-in_err-judge_into c =
    let p = err_from_is_err_and c.from_residual.result c.from_residual.ensures.1 in
    rw (p.1, p.2) (many_group (group_of_words c.args.words.now) c.args.nodes c.args.agree _ (sym c.in_err-judge_into.ensures.0))

pub returns-in_err-judge_rest : goal.returns-in_err-judge_rest
returns-in_err-judge_rest c =
    let g = group_of_words c.args.words.now in
    let q = goal.at.returns-in_err-judge_rest c in
    let p = err_from_is_err_and c.from_residual-in_err-judge_rest.result c.from_residual-in_err-judge_rest.ensures.1 in
    rw (p.1, p.2) (many_accepted g c.args.nodes c.args.agree (accepted q.In_ok-judge_into) ∙ sym c.in_err-judge_rest.ensures)

pub returns : goal.returns
returns c =
    let g = group_of_words c.args.words.now in
    let q = goal.at.returns c in
    (many_accepted g c.args.nodes c.args.agree (accepted q.In_ok-judge_into) ∙ sym c.in_ok-judge_rest.ensures, c.fill_tables.ensures)
