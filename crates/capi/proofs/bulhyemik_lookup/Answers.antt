-- `bulhyemik_lookup` meets its contract.
use mathlib.Core.Path.{◌≡◌, ◌∙◌}
use mathlib.Core.List.{[], ◌∷◌}
use borrow.Author.Rules.{rules}
use mir.Facts.{to_z-of_z}
use mir.Syntax.{w64}
use mir.Val.{to_z, of_z}
use Rattle.capi.specs.Answers.{left}
use Rattle.capi.proofs.AnswerLaws.{lookup_told}
use Rattle.capi.proofs.bulhyemik_lookup.Goals as goal

pub returns : goal.returns
returns c =
    let s = c.args in
    let a = c.answer_of-a.result in
    let grid : to_z w64 (of_z w64 a.grid) ≡ a.grid = search rules in
    let first : to_z w64 (of_z w64 a.first) ≡ a.first = search rules in
    let second : to_z w64 (of_z w64 a.second) ≡ a.second = search rules in
    let third : to_z w64 (of_z w64 a.third) ≡ a.third = search rules in
    (λ i. left a.number a.place (grid i ∷ first i ∷ second i ∷ third i ∷ []))
    ∙ lookup_told s.group.now s.nodes.now s.lon s.lat s.day _ _ _ _ a (to_z-of_z c.ranges.lon) (to_z-of_z c.ranges.lat) (to_z-of_z c.ranges.day)
    c.look_words.ensures c.answer_of-a.ensures
