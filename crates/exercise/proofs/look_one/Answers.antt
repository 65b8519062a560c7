-- `look_one` meets its contract.
use mathlib.Core.Path.{◌≡◌, sym, ap, ◌∙◌}
use Rattle.group.specs.declared.Group.{Group}
use Rattle.abi.specs.Abi.{group_of_words}
use Rattle.lookup.specs.Answer.{answer_record}
use Rattle.lookup.specs.Lookup.{looked}
use Rattle.lookup.proofs.AnswerLaws.{answer_stored}
use Rattle.exercise.specs.declared.Scale.{Scale}
use Rattle.exercise.specs.Exercise.{point_at, answer_at}
use Rattle.exercise.specs.Tables.{scale_for}
use Rattle.exercise.proofs.ScaleLaws.{scale_day}
use Rattle.exercise.proofs.look_one.Goals as goal

pub look_ready-requires : goal.look_ready-requires
look_ready-requires c =
    let g : Group = group_of_words c.args.words.now in
    let day : c.args.scale.day ≡ c.args.position.day = ap (λ (z : Scale). z.day) c.requires.1 ∙ scale_day g c.args.position.day in
    (c.requires.0, c.requires.1 ∙ ap (scale_for (g)) (sym (day)))

pub returns : goal.returns
unfolding answer_at
returns c =
    let g : Group = group_of_words c.args.words.now in
    let day : c.args.scale.day ≡ c.args.position.day = ap (λ (z : Scale). z.day) c.requires.1 ∙ scale_day g c.args.position.day in
    let a = c.args in let found = c.look_ready.ensures in
    c.answer_of.ensures
    ∙ answer_stored (g) a.nodes.now _ a.scale.day c.look_ready.result found
    ∙ ap answer_record (found ∙ ap (looked (g) a.nodes.now (point_at a.position)) (day))
