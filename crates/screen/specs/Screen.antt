-- What the screen shows, as 64-bit floats: document 01, 'Loading and showing'.
use Rattle.std.specs.Prelude.{ℕ, ◌^◌, Bool, false, cond, not, ◌&&◌, List, [], ◌∷◌, ℤ, pos, nat_le, nat_lt, Float, Result, Ok, Err}
use Rattle.std.specs.Float.{fin, binary64}
use Rattle.std.specs.Float.Ieee.{of_int, mul, div}
use Rattle.group.specs.declared.Point.{Point}
use Rattle.group.specs.declared.Refusal.{Refusal}
use Rattle.group.specs.Numbers.{mas_in_degree, quantum_most, parameters_most}
use Rattle.group.specs.Refusals.{refusal, no_refusal, in_table, refuse_if}
use Rattle.fix.specs.declared.Fix.{Fix}
use Rattle.screen.specs.declared.Shifts.{Shifts}
use Rattle.screen.specs.declared.ScreenRecord.{ScreenRecord}

abbrev pub plus_zero : Float
plus_zero = fin false 0 (pos 0)

-- 2 to the power -q
unfoldable pub neg_power : ℕ → Float
neg_power q = div binary64 (of_int binary64 (pos 1)) (of_int binary64 (pos (2 ^ q)))

-- a whole result as a float times 2 to the power -q
unfoldable pub shift_of : ℕ → ℤ → Float
shift_of q n = mul binary64 (of_int binary64 n) (neg_power q)

-- the same for parameter p, from 0, of np; a missing parameter shows +0
unfoldable pub shown_shift : ℕ → ℕ → ℕ → ℤ → Float
shown_shift q np p n = cond (nat_lt p np) (shift_of q n) plus_zero

-- milliarcseconds as degrees, by one float division
unfoldable pub degrees_of : ℤ → Float
degrees_of mas = div binary64 (of_int binary64 mas) (of_int binary64 (pos mas_in_degree))

-- the limits of Q and NP
abbrev pub admitted : ℕ → ℕ → Bool
admitted q np = nat_le q quantum_most && (nat_le 1 np && nat_le np parameters_most)

-- a lookup's refusal, handed on with its place; a number outside the table is itself outside its limit: 2 with place 0
abbrev pub handed_on : Refusal → Refusal
handed_on r = cond (in_table r.number) r (refusal 2 0)

-- a lookup's answer for the screen
unfoldable pub shown : Result Fix Refusal → ℕ → ℕ → Result Shifts Refusal
shown (Ok f) q np = Ok (record { first = shown_shift q np 0 f.first; second = shown_shift q np 1 f.second; third = shown_shift q np 2 f.third })
shown (Err r) q np = Err (handed_on r)

-- the same, with Q and NP judged first: 2 with place 0
unfoldable pub answer_of : Result Fix Refusal → ℕ → ℕ → Result Shifts Refusal
answer_of found q np =
    refuse_if Err (not (admitted q np)) 2 0
    (shown found q np)

abbrev pub shifts_of : Result Shifts Refusal → List Float
shifts_of (Ok s) = s.first ∷ s.second ∷ s.third ∷ []
shifts_of (Err r) = plus_zero ∷ plus_zero ∷ plus_zero ∷ []

-- the screen record at a point
unfoldable pub record_of : Point → Result Shifts Refusal → ScreenRecord
record_of point (Ok s) = record { longitude = degrees_of point.lon.0; latitude = degrees_of point.lat.0; first = s.first; second = s.second; third = s.third }
record_of point (Err r) = record { longitude = plus_zero; latitude = plus_zero; first = plus_zero; second = plus_zero; third = plus_zero }
