-- `bulhyemik_judge` meets its contract.
use Rattle.capi.proofs.AnswerLaws.{judge_told}
use Rattle.capi.proofs.bulhyemik_judge.Goals as goal

pub returns : goal.returns
returns c = judge_told c.args.group.now _ _ _ c.judge_words.ensures c.told.ensures
