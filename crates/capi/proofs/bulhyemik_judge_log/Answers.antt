-- `bulhyemik_judge_log` meets its contract.
use Rattle.capi.proofs.AnswerLaws.{log_told}
use Rattle.capi.proofs.bulhyemik_judge_log.Goals as goal

pub returns : goal.returns
returns c =
    let s = c.args in
    log_told s.group.now s.nodes.now s.log.now _ _ _ _ c.log_words-judged.ensures c.told.ensures c.fault_numbers.ensures
