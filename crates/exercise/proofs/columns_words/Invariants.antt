-- `columns_words`: the numbers of the first i answers are stored, and the scale is that of its day.
use lib.ListN.{length}
use mathlib.Core.Path.{◌≡◌}
use Rattle.abi.specs.Abi.{group_of_words}
use Rattle.abi.proofs.ListLaws.{Run}
use Rattle.exercise.specs.Exercise.{answer_numbers, answer_at, position_at}
use Rattle.exercise.specs.Tables.{scale_for}
use Rattle.exercise.proofs.columns_words.Given as goal

abbrev pub invariant-loop-i : goal.invariant-loop-i
invariant-loop-i l =
    record {
      run : Run (λ k. answer_numbers (answer_at (group_of_words l.words) l.nodes (position_at l.lons l.lats l.days k))) (length l.lons) l.initial.results 0 l.i l.results;
      scaled : l.scale ≡ scale_for (group_of_words l.words) l.scale.day;
    }
