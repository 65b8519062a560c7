-- `bulhyemik_screen_record` meets its contract.
use mathlib.Core.Path.{ap, ◌∙◌}
use mir.Facts.{to_z-of_z}
use Rattle.numbers.specs.Order.{count_of}
use Rattle.capi.proofs.AnswerLaws.{record_told}
use Rattle.capi.proofs.bulhyemik_screen_record.Goals as goal

pub returns : goal.returns
returns c =
    let s = c.args in
    let q = c.count_of-q.ensures ∙ ap count_of (to_z-of_z c.ranges.quantum) in
    let np = c.count_of-np.ensures ∙ ap count_of (to_z-of_z c.ranges.parameters) in
    record_told s.quantum s.parameters s.number s.at s.fix.now _ _ _ q np c.lookup_of.ensures s.lon s.lat _ _ _ _ _ _ (to_z-of_z c.ranges.lon)
    (to_z-of_z c.ranges.lat) c.screen_answer-shown.ensures c.told.ensures c.record_of-r.ensures
