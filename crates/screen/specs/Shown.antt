-- What the screen promises of its answers: every result is shown exactly, and degrees are one rounding of the exact quotient.
use Rattle.std.specs.Prelude.{◌≡◌, ℕ, ◌^◌, ◌<◌, ◌≤◌, Bool, true, false, ℤ, pos, negsuc, slice_index_or, unsigned_abs, Float, Result}
use Rattle.std.specs.Float.{binary64}
use Rattle.std.specs.Float.Ieee.{round}
use Rattle.std.specs.Float.Ieee.Exact.{HasValue}
use Rattle.group.specs.declared.Point.{Point}
use Rattle.group.specs.declared.Refusal.{Refusal}
use Rattle.group.specs.Numbers.{mas_in_degree}
use Rattle.group.specs.Refusals.{no_refusal, refusal_of}
use Rattle.screen.specs.declared.Shifts.{Shifts}
use Rattle.screen.specs.declared.ScreenRecord.{ScreenRecord}
use Rattle.screen.specs.Screen.{plus_zero, shifts_of}

-- whether a number is below zero
abbrev pub below_zero : ℤ → Bool
below_zero (pos n) = false
below_zero (negsuc n) = true

-- x, as an exact number, times d is the whole number n: it has n's sign, +0 for 0
abbrev pub Times : Float → ℕ → ℤ → Type 0
Times x d n = HasValue x (below_zero n) (unsigned_abs n) d

-- the 64-bit float nearest to the exact quotient n / d, a tie to the even one: one rounding
abbrev pub nearest_to : ℤ → ℕ → Float
nearest_to n d = round binary64 (below_zero n) (unsigned_abs n) d

-- shift p, from 0, of a screen answer
abbrev pub shift_at : Result Shifts Refusal → ℕ → Float
shift_at s p = slice_index_or (shifts_of s) p plus_zero

-- s shows np whole results, in steps of 2 to the power -q
pub record ShowsResults (results : ℕ → ℤ) (q np : ℕ) (s : Result Shifts Refusal) : Type 0 where
  pub accepted : refusal_of s ≡ no_refusal
  -- each of the first NP shifts, as an exact number, times 2 to the power Q is the whole result
  pub exact : (p : ℕ) → p < np → Times (shift_at s p) (2 ^ q) (results p)
  -- a missing parameter shows +0
  pub missing : (p : ℕ) → np ≤ p → shift_at s p ≡ plus_zero

-- d shows a point in degrees, for every longitude and latitude of size at most 2^53, all admitted ones among them, beside the shifts of s
pub record ShowsPoint (point : Point) (s : Result Shifts Refusal) (d : ScreenRecord) : Type 0 where
  pub longitude : unsigned_abs point.lon.0 ≤ 2 ^ 53 → d.longitude ≡ nearest_to point.lon.0 mas_in_degree
  pub latitude : unsigned_abs point.lat.0 ≤ 2 ^ 53 → d.latitude ≡ nearest_to point.lat.0 mas_in_degree
  pub first : d.first ≡ shift_at s 0
  pub second : d.second ≡ shift_at s 1
  pub third : d.third ≡ shift_at s 2
