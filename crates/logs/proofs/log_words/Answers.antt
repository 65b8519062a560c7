-- `log_words` meets its contract.
use mathlib.Core.Path.{ap, ◌∙◌}
use lib.ListN.{length}
use Rattle.std.specs.Prelude.{Ok}
use Rattle.std.proofs.lemmas.Result.{err_from_is_err_and}
use Rattle.abi.specs.Abi.{group_of_words}
use Rattle.exercise.proofs.CallLaws.{call_ready}
use Rattle.logs.proofs.LoopLaws.{call_refused, call_accepted}
use Rattle.logs.proofs.log_words.Goals as goal

pub returns-in_err-judge_call : goal.returns-in_err-judge_call
returns-in_err-judge_call c =
    let a = c.args in
    let p = err_from_is_err_and c.from_residual.result c.from_residual.ensures.1 in
    rw (p.1, p.2) (call_refused (group_of_words a.words.now) a.nodes.now a.log.now _ c.in_err-judge_call.ensures)

pub judge_lines-requires : goal.judge_lines-requires
judge_lines-requires c =
    let e = c.in_ok-judge_call.ensures in
    call_ready (group_of_words c.args.words.now) (length c.args.nodes.now) _ e.0 _ e.1

pub returns : goal.returns
returns c =
    let a = c.args in
    ap Ok c.judge_lines.ensures ∙ call_accepted (group_of_words a.words.now) a.nodes.now a.log.now c.in_ok-judge_call.ensures.0
