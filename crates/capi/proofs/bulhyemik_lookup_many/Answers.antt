-- `bulhyemik_lookup_many` meets its contract.
use Rattle.capi.proofs.AnswerLaws.{many_told}
use Rattle.capi.proofs.bulhyemik_lookup_many.Goals as goal

pub returns : goal.returns
returns c =
    let s = c.args in
    let m = c.many_words.ensures in
    many_told s.group.now s.nodes.now s.points.now s.results.now _ _ _ _ m.0 m.1 c.told.ensures
