-- The weighted sum of a cell's corners in its two parts.
use Prim.Native.Nat.{ℕ, ◌+◌, ◌-◌, ◌*◌, ◌/◌, ◌%◌, ◌^◌, ◌<◌}
use mathlib.Core.Path.{◌≡◌, ◌∙◌}
use native.Mathlib.Nat.{lt_of_mul-lt-mul_right, lt_of_le_of_lt}
use native.Mathlib.Omega.{arith}
use lib.IntN.{ℤ, pos, negsuc, ◌+ℤ◌, ◌*ℤ◌}
use Rattle.numbers.proofs.Diff.{Diff, diff_as, diff_≡, up_pos, dn_pos, up_negsuc, dn_negsuc, diff_+, diff_pos, diff_scale, diff_self}
use Rattle.pair.specs.declared.Pair.{Pair}
use Rattle.pair.specs.Pair.{pair_value}
use Rattle.cell.specs.declared.Weights.{Weights}
use Rattle.cell.specs.declared.Corners.{Corners}
use Rattle.cell.specs.declared.TwoParts.{TwoParts}
use Rattle.cell.specs.Cell.{weighted_sum}
use Rattle.cell.specs.Sizes.{Weighed}
use Rattle.cell.specs.TwoParts.{high_part, low_part, parts_of}
use Rattle.cell.specs.Unsigned.{corner_shift, summed}
use Rattle.cell.proofs.ValueLaws.{sum_shifted, sum_most}

-- a number of two words over 2 to the power 32
module _ (n : Pair) where
  pub pair_whole : n.high * 2 ^ 32 + n.low / 2 ^ 32 ≡ pair_value n / 2 ^ 32
  unfolding pair_value
  pair_whole = omega arith

  pub pair_rest : n.low % 2 ^ 32 ≡ pair_value n % 2 ^ 32
  unfolding pair_value
  pair_rest = omega arith

  pub pair_high : pair_value n < 2 ^ 94 → n.high < 2 ^ 30
  unfolding pair_value
  pair_high h = lt_of_mul-lt-mul_right (2 ^ 64) {m = n.high} {n = 2 ^ 30} (lt_of_le_of_lt (omega arith) h)

-- a number z that is n less m times 2 to the power 32
pub parted_is : (z : ℤ) (n m : ℕ) (r : TwoParts) → Diff z n (m * 2 ^ 32) → Diff r.high (n / 2 ^ 32) m → r.low ≡ n % 2 ^ 32 → r ≡ parts_of z
unfolding high_part low_part
parted_is (pos k) n m r d h e =
    let a = d.diff in let b = h.diff in let u = up_pos k in let v = dn_pos k in
    λ i. record { high = diff_≡ {x = r.high} {y = pos (k / 2 ^ 32)} (omega (arith, up_pos (k / 2 ^ 32), dn_pos (k / 2 ^ 32))) i; low = (e ∙ low) i }
  where
    low : n % 2 ^ 32 ≡ k % 2 ^ 32
    low = let a = d.diff in let u = up_pos k in let v = dn_pos k in omega arith
parted_is (negsuc k) n m r d h e =
    let a = d.diff in let b = h.diff in let u = up_negsuc k in let v = dn_negsuc k in
    λ i. record { high = diff_≡ {x = r.high} {y = negsuc (k / 2 ^ 32)} (omega (arith, up_negsuc (k / 2 ^ 32), dn_negsuc (k / 2 ^ 32))) i; low = (e ∙ low) i }
  where
    low : n % 2 ^ 32 ≡ 2 ^ 32 - 1 - k % 2 ^ 32
    low = let a = d.diff in let u = up_negsuc k in let v = dn_negsuc k in omega arith

-- the two parts are the number
pub parts_whole : (z : ℤ) → (pos (2 ^ 32) *ℤ high_part z) +ℤ pos (low_part z) ≡ z
unfolding high_part low_part
parts_whole (pos k) =
    let q = (diff_+ (diff_scale (2 ^ 32) (diff_pos (k / 2 ^ 32))) (diff_pos (k % 2 ^ 32))).diff in
    diff_≡ (omega (arith, up_pos k, dn_pos k))
parts_whole (negsuc k) =
    let q = (diff_+ (diff_scale (2 ^ 32) (diff_self (negsuc (k / 2 ^ 32)))) (diff_pos (2 ^ 32 - 1 - k % 2 ^ 32))).diff in
    diff_≡ (omega (arith, up_negsuc k, dn_negsuc k, up_negsuc (k / 2 ^ 32), dn_negsuc (k / 2 ^ 32)))

pub low_below : (z : ℤ) → low_part z < 2 ^ 32
unfolding low_part
low_below (pos k) = omega arith
low_below (negsuc k) = omega arith

-- the sum of the shifted corners, s, with what is added to it, t, so that the shift is a whole number of times 2 to the power 32
module _ {w : Weights} (p : Weighed w) {a b c d s t : ℕ} (es : s ≡ summed w a b c d) (et : t ≡ w.total * corner_shift) where
  pub raised_below : a < 2 ^ 32 → b < 2 ^ 32 → c < 2 ^ 32 → d < 2 ^ 32 → s + t < 2 ^ 94
  raised_below x y z u =
      let m = sum_most p 4294967295 {a = a} {b = b} {c = c} {d = d} (omega arith) (omega arith) (omega arith) (omega arith) in
      omega (arith, m, p.most)

  pub raised_sum : {v : Corners} → Diff v.v00 a corner_shift → Diff v.v10 b corner_shift → Diff v.v01 c corner_shift → Diff v.v11 d corner_shift
      → Diff (weighted_sum w v) (s + t) (w.total * 2 ^ 32)
  raised_sum {v} ha hb hc hd = diff_as (sum_shifted p {v = v} corner_shift ha hb hc hd) (omega arith)
