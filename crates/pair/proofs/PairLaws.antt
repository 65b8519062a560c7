-- Laws of the number that two words say.
use Prim.Native.Nat.{ℕ, ◌+◌, ◌-◌, ◌*◌, ◌%◌, ◌^◌, ◌<◌}
use mathlib.Core.Bool.{Bool, true, false}
use mathlib.Core.Path.{◌≡◌, sym, ◌∙◌}
use native.Mathlib.Nat.{mul-le-mul, lt_of_mul-lt-mul_right, lt_of_le_of_lt, lt_trans, mod-eq_of_lt}
use native.Mathlib.Omega.{arith}
use mir.Val.{bool_byte}
use lib.Dec.{lit<}
use lib.Arith.{digits_lt}
use lib.Pow.{low}
use Rattle.std.specs.Bool.{FalseIff}
use Rattle.pair.specs.declared.Pair.{Pair}
use Rattle.pair.specs.Pair.{pair_value}

-- the low word is the number modulo 2 to the power 64, and the number itself where one word can hold it
pub pair_low_word : (n : Pair) → n.low < 2 ^ 64 → n.low ≡ pair_value n % 2 ^ 64
unfolding pair_value
pair_low_word n h = sym (low n.high 64 h)

pub pair_low : (n : Pair) → pair_value n < 2 ^ 64 → n.low ≡ pair_value n
unfolding pair_value
pair_low n h = pair_low_word n (omega arith) ∙ mod-eq_of_lt h

-- two words hold less than 2 to the power 128, and with it what four products add to
pub pair_below : (n : Pair) → n.high < 2 ^ 64 → n.low < 2 ^ 64 → pair_value n < 2 ^ 128
unfolding pair_value
pair_below n h l = digits_lt {q = n.high} {m = 2 ^ 64} {r = n.low} {c = 2 ^ 64} h l

pub product_below : (a p : ℕ) → a < 2 ^ 64 → p < 2 ^ 32 → a * p < 2 ^ 96
product_below a p h k =
    let m = mul-le-mul {n₁ = a} {m₁ = p} {n₂ = 2 ^ 64 - 1} {m₂ = 2 ^ 32 - 1} (omega arith) (omega arith) in omega arith

pub sum_below : {n : ℕ} → n < 2 ^ 98 → n < 2 ^ 128
sum_below h = lt_trans h (lit< tt)

-- the high words of two numbers that two words hold together, and what the low ones carry
module _ (x y : Pair) (h : pair_value x + pair_value y < 2 ^ 128) where
  pub highs_fit : x.high + y.high < 2 ^ 64
  unfolding pair_value
  highs_fit = lt_of_mul-lt-mul_right (2 ^ 64) {m = x.high + y.high} {n = 2 ^ 64} (lt_of_le_of_lt (omega arith) h)

  pub carry_fits : (carry : Bool) → FalseIff carry (x.low + y.low < 2 ^ 64) → x.high + y.high + bool_byte carry < 2 ^ 64
  unfolding pair_value
  carry_fits true f = lt_of_mul-lt-mul_right (2 ^ 64) {m = x.high + y.high + 1} {n = 2 ^ 64} (lt_of_le_of_lt (omega arith) h)
  carry_fits false f = omega (arith, highs_fit)

-- a sum of two words, by its low word and its carry
pub carry_sum : (a b : ℕ) (carry : Bool) → a < 2 ^ 64 → b < 2 ^ 64 → FalseIff carry (a + b < 2 ^ 64) → bool_byte carry * 2 ^ 64 + (a + b) % 2 ^ 64 ≡ a + b
carry_sum a b true h k f = omega arith
carry_sum a b false h k f = omega arith
