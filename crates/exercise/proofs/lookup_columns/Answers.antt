-- `lookup_columns` meets its contract: a record that is stored as numbers is answered as it was.
use mathlib.Core.Path.{ap, ◌∙◌}
use mathlib.Core.List.{List}
use lib.IntN.{ℤ}
use lib.ListN.{length}
use Rattle.abi.specs.Abi.{group_of_words}
use Rattle.abi.proofs.ShapeLaws.{machine_shaped}
use Rattle.exercise.specs.Exercise.{many_verdict, columns_agree, columns_after}
use Rattle.exercise.proofs.CallLaws.{many_stored, columns_stored}
use Rattle.exercise.proofs.lookup_columns.Goals as goal

pub returns : goal.returns
returns c =
    let a = c.args in let h = machine_shaped a.group _ c.well_formed.0 in
    let agree = columns_agree (length a.lons.now) (length a.lats.now) (length a.days.now) (length a.results.now) in
    let e = c.columns_words.ensures in let n = c.numbers_of-words.ensures in (
      e.0 ∙ ap (λ (ns : List ℤ). many_verdict (group_of_words ns) (length a.nodes.now) agree) n ∙ many_stored a.group h (length a.nodes.now) agree,
      e.1 ∙ ap (λ (ns : List ℤ). columns_after (group_of_words ns) a.nodes.now a.lons.now a.lats.now a.days.now a.results.now) n
          ∙ columns_stored a.group h a.nodes.now a.lons.now a.lats.now a.days.now a.results.now,
    )
