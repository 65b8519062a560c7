-- `many_words`: the first i results are the answers at the first i points, and the scale is that of its day.
use mathlib.Core.Path.{◌≡◌}
use mathlib.Core.List.{map}
use Rattle.abi.specs.Abi.{group_of_words}
use Rattle.exercise.specs.Exercise.{answer_at}
use Rattle.exercise.specs.Tables.{scale_for}
use Rattle.exercise.proofs.FilledLaws.{filled}
use Rattle.exercise.proofs.many_words.Given as goal

abbrev pub invariant-loop-i : goal.invariant-loop-i
invariant-loop-i l =
    record {
      written : l.results ≡ filled (map (answer_at (group_of_words l.words) l.nodes) l.points) l.initial.results l.i;
      scaled : l.scale ≡ scale_for (group_of_words l.words) l.scale.day;
    }
