-- A lookup's answer as one record: the refusal's number and place, 0 and 0 where there is none, and the grid's number and the results, which
-- are 0 beside a refusal.
use Rattle.std.specs.Prelude.{ℕ, ℤ, pos, Result}
use Rattle.fix.specs.Answers.{lookup_grid, results_of}
use Rattle.abi.specs.Abi.{stored}
use Rattle.lookup.specs.declared.Answer.{Answer}
use Rattle.group.specs.declared.Refusal.{Refusal}
use Rattle.fix.specs.declared.Fix.{Fix}
use Rattle.group.specs.Refusals.{refusal_of}

-- with the grid's number as it is written
abbrev pub record_with : (ℕ → ℤ) → Result Fix Refusal → Answer
record_with number l =
    record {
      number = (refusal_of l).number;
      place = (refusal_of l).place;
      grid = number (lookup_grid l);
      first = results_of l 0;
      second = results_of l 1;
      third = results_of l 2;
    }

abbrev pub answer_record : Result Fix Refusal → Answer
answer_record = record_with (λ n. pos n)

-- the same as the code stores it
abbrev pub stored_record : Result Fix Refusal → Answer
stored_record = record_with stored
