-- A lookup's answer as the C interface passes it to the screen, and the floats that are handed back.
use Rattle.std.specs.Prelude.{ℕ, cond, List, [], ◌∷◌, eqb, Float, ℤ, Result, Ok, Err}
use Rattle.group.specs.declared.Refusal.{Refusal}
use Rattle.group.specs.Refusals.{refusal, refusal_of}
use Rattle.screen.specs.declared.Shifts.{Shifts}
use Rattle.screen.specs.declared.ScreenRecord.{ScreenRecord}
use Rattle.screen.specs.Screen.{shifts_of, answer_of, record_of}
use Rattle.numbers.specs.Order.{count_of}
use Rattle.abi.specs.Abi.{number_at, count_at}
use Rattle.capi.specs.Answers.{Answer, point_of}
use Rattle.fix.specs.declared.Fix.{Fix}

-- the number that the lookup returned, the place that it left and the four numbers that it filled
unfoldable pub lookup_of : ℕ → ℕ → List ℤ → Result Fix Refusal
lookup_of number place fix =
    cond (eqb number 0)
    (Ok (record { grid = count_at fix 0; first = number_at fix 1; second = number_at fix 2; third = number_at fix 3 }))
    (Err (refusal number place))

-- what the screen answers for them; Q or NP below zero is outside its limit
unfoldable pub shown_of : ℤ → ℤ → ℕ → ℕ → List ℤ → Result Shifts Refusal
shown_of q np number place fix = answer_of (lookup_of number place fix) (count_of q) (count_of np)

-- the floats of a screen record
abbrev pub record_floats : ScreenRecord → List Float
record_floats r = r.longitude ∷ r.latitude ∷ r.first ∷ r.second ∷ r.third ∷ []

abbrev pub shifts_answer : Result Shifts Refusal → Answer (List Float)
shifts_answer s = record { refusal = refusal_of s; lent = shifts_of s }

abbrev pub record_answer : ℤ → ℤ → Result Shifts Refusal → Answer (List Float)
record_answer lon lat s = record { refusal = refusal_of s; lent = record_floats (record_of (point_of lon lat) s) }
