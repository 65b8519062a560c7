-- Order 1 holds of the C functions.
use mathlib.Core.Path.{ap}
use mathlib.Core.List.{List}
use lib.Dec.{eqb}
use lib.IntN.{ℤ}
use lib.ListN.{length}
use Rattle.group.specs.declared.Position.{Position}
use Rattle.lookup.specs.declared.Answer.{Answer as Found}
use Rattle.exercise.specs.Exercise.{answer_at}
use Rattle.exercise.proofs.CallLaws.{many_told}
use Rattle.exercise.proofs.Order1.{many_points}
use Rattle.abi.specs.Abi.{group_of_words}
use Rattle.capi.specs.Answers.{found_answer, lookup_answer, many_answer}
use Rattle.capi.specs.Order1.{EachAsLookup}

pub each_as_lookup : (group nodes : List ℤ) (points : List Position) (results : List Found) → EachAsLookup group nodes points results
unfolding many_answer lookup_answer answer_at
each_as_lookup group nodes points results =
    let g = group_of_words group in
    let m = many_points g nodes points results in
    let accepted = (many_told g (length nodes) (eqb (length points) (length results))).zero in
    record {
      many = λ z. m.many (accepted z);
      each = λ z k p a h. ap found_answer (m.each (accepted z) k p a h);
    }
