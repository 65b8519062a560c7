-- Order 3: nothing that the rounding answers may change, at zero, at ties or below zero. What it answers, case by case.
use Rattle.std.specs.Prelude.{ℕ, suc, ◌+◌, ◌*◌, ◌%◌, ◌≤◌, ◌<◌, ◌≡◌, ℤ, pos, neg_ℤ, ◌+ℤ◌}
use Rattle.numbers.specs.Round.{nearest, round_z}

-- r is n over d, rounded. With k the whole number of times that d, above 0, goes into n, one of the last four cases holds
pub record Rounds (n d r : ℕ) : Type 0 where
  pub over_zero : d ≡ 0 → r ≡ 0
  pub at_zero : n ≡ 0 → r ≡ 0
  -- k times d, and less than half of d more
  pub below_half : (k : ℕ) → k * d ≤ n → 2 * n < 2 * (k * d) + d → r ≡ k
  -- a tie, half of d more: down to an even k, up from an odd one
  pub tie_down : (k : ℕ) → 0 < d → 2 * n ≡ 2 * (k * d) + d → k % 2 ≡ 0 → r ≡ k
  pub tie_up : (k : ℕ) → 0 < d → 2 * n ≡ 2 * (k * d) + d → k % 2 ≡ 1 → r ≡ suc k
  -- more than half of d more
  pub above_half : (k : ℕ) → 2 * (k * d) + d < 2 * n → n ≤ suc k * d → r ≡ suc k

-- r is z over d, rounded: below zero the mirror image of what it is above
pub record RoundsSigned (z : ℤ) (d : ℕ) (r : ℤ) : Type 0 where
  pub from_zero : (n m : ℕ) → z ≡ pos n → Rounds n d m → r ≡ pos m
  pub below_zero : (n m : ℕ) → z ≡ neg_ℤ (pos n) → Rounds n d m → r ≡ neg_ℤ (pos m)
  -- as the code of values, factors and results does it: an even number of times d is added before, and taken off behind
  pub by_shift : (k a : ℕ) → 0 < d → k % 2 ≡ 0 → z +ℤ pos (k * d) ≡ pos a → r +ℤ pos k ≡ pos (nearest a d)

pub record Order3 : Type 0 where
  -- what `nearest_even` answers is this, and nothing else is
  pub rounds : (n d : ℕ) → Rounds n d (nearest n d)
  pub only : (n d r : ℕ) → Rounds n d r → r ≡ nearest n d
  -- what values, factors, results and loaded floats are rounded to
  pub signed : (z : ℤ) (d : ℕ) → RoundsSigned z d (round_z z d)
