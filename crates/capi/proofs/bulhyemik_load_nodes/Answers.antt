-- `bulhyemik_load_nodes` meets its contract.
use mathlib.Core.Path.{ap, ◌∙◌}
use mir.Facts.{to_z-of_z}
use Rattle.numbers.specs.Order.{count_of}
use Rattle.capi.proofs.AnswerLaws.{load_told}
use Rattle.capi.proofs.bulhyemik_load_nodes.Goals as goal

pub returns : goal.returns
returns c =
    let s = c.args in
    let l = c.load_nodes.ensures in
    load_told s.quantum s.flag s.floats.now s.nodes.now _ _ _ _ _ (c.count_of-q.ensures ∙ ap count_of (to_z-of_z c.ranges.quantum)) l.value
    l.nodes_after c.told.ensures
