-- `bulhyemik_write_header` meets its contract.
use Rattle.capi.proofs.AnswerLaws.{write_told}
use Rattle.capi.proofs.bulhyemik_write_header.Goals as goal

pub returns : goal.returns
returns c =
    let s = c.args in
    let w = c.write_words-written.ensures in
    write_told s.group.now s.out.now _ _ _ _ _ w.answer w.bytes c.told.ensures c.written_count.ensures
