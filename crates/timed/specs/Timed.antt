-- Lists of numerators and divisors, rounded one by one.
use Rattle.std.specs.Prelude.{ℕ, ◌+◌, ◌*◌, ◌%◌, ◌^◌, ◌<◌, min, ◌≡◌, List, length}
use Rattle.numbers.specs.Round.{nearest}
use Rattle.numbers.specs.Lists.{at, Kept}

-- each of the first n numbers is what f says of its index, and what stands behind stays
pub record Rounded (f : ℕ → ℕ) (n : ℕ) (before after : List ℕ) : Type 0 where
  pub each : (k : ℕ) → k < n → at after k ≡ f k
  pub kept : Kept n before after

-- the numerator at k over its divisor, rounded
abbrev pub word : (numerators divisors : List ℕ) → ℕ → ℕ
word numerators divisors k = nearest (at numerators k) (at divisors k)

-- so each is, as far as all three lists go
abbrev pub RoundedWords : (numerators divisors before after : List ℕ) → Type 0
RoundedWords numerators divisors before = Rounded (word numerators divisors) (min (length numerators) (min (length divisors) (length before))) before

-- the low word of the two-word numerator at k over its divisor, rounded
abbrev pub low_word : (highs lows divisors : List ℕ) → ℕ → ℕ
low_word highs lows divisors k = nearest (at highs k * 2 ^ 64 + at lows k) (at divisors k) % 2 ^ 64

-- so each is, as far as all four lists go
abbrev pub RoundedPairs : (highs lows divisors before after : List ℕ) → Type 0
RoundedPairs highs lows divisors before =
    Rounded (low_word highs lows divisors) (min (length highs) (min (length lows) (min (length divisors) (length before)))) before
