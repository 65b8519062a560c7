-- `lookup_many` meets its contract: a record that is stored as numbers is answered as it was.
use mathlib.Core.Path.{ap, ◌∙◌}
use mathlib.Core.List.{List}
use lib.Dec.{eqb}
use lib.IntN.{ℤ}
use lib.ListN.{length}
use Rattle.abi.specs.Abi.{group_of_words}
use Rattle.abi.proofs.ShapeLaws.{machine_shaped}
use Rattle.exercise.specs.Exercise.{many_verdict, results_after}
use Rattle.exercise.proofs.CallLaws.{many_stored, results_stored}
use Rattle.exercise.proofs.lookup_many.Goals as goal

pub returns : goal.returns
returns c =
    let a = c.args in let h = machine_shaped a.group _ c.well_formed.0 in
    let agree = eqb (length a.points.now) (length a.results.now) in
    let e = c.many_words.ensures in let n = c.numbers_of-words.ensures in (
      e.0 ∙ ap (λ (ns : List ℤ). many_verdict (group_of_words ns) (length a.nodes.now) agree) n ∙ many_stored a.group h (length a.nodes.now) agree,
      e.1 ∙ ap (λ (ns : List ℤ). results_after (group_of_words ns) a.nodes.now a.points.now a.results.now) n ∙ results_stored a.group h a.nodes.now a.points.now a.results.now,
    )
