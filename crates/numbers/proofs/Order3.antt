-- Order 3: what the rounding answers at zero, at ties and below zero, and that nothing else is the rounding.
use Prim.Native.Nat.{ℕ, ◌+◌, ◌*◌, ◌/◌, ◌%◌, ◌<◌}
use mathlib.Core.Path.{◌≡◌, sym, ap, ◌∙◌}
use native.Mathlib.Nat.{suc-mul, div-add-mod', mod-lt}
use native.Mathlib.Decide.{dec_lt}
use native.Mathlib.Omega.{arith}
use lib.IntN.{ℤ, pos, neg_ℤ}
use Rattle.numbers.specs.Round.{nearest, round_z}
use Rattle.numbers.specs.Order3.{Rounds, RoundsSigned, Order3}
use Rattle.numbers.proofs.Nearest.{three_ways, below_half, tie_down, tie_up, above_half, nearest_0, nearest_zero}
use Rattle.numbers.proofs.RoundZ.{round_pos, round_negpos, round_biased}
use Rattle.numbers.proofs.Diff.{diff_of, of_diff}

-- ---- the rounding is so, and nothing else is
pub rounds : (n d : ℕ) → Rounds n d (nearest n d)
rounds n d =
    record {
      over_zero = λ e. ap (nearest n) e ∙ nearest_zero n;
      at_zero = λ e. ap (λ (x : ℕ). nearest x d) e ∙ nearest_0 d;
      below_half = below_half n d;
      tie_down = tie_down n d;
      tie_up = tie_up n d;
      above_half = above_half n d;
    }

pub rounds_only : (n d r : ℕ) → Rounds n d r → r ≡ nearest n d
rounds_only n d r a = go (dec_lt 0 d)
  where
    go : Dec (0 < d) → r ≡ nearest n d
    go (no h) = let z : d ≡ 0 = omega arith in a.over_zero z ∙ sym ((rounds n d).over_zero z)
    go (yes h) =
        let k = n / d in
        let e : k * d + n % d ≡ n = div-add-mod' n d in
        let l = mod-lt n h in
        let s = suc-mul k d in
        three_ways (2 * (n % d)) d
        (λ m. a.below_half k (omega arith) (omega arith) ∙ sym (below_half n d k (omega arith) (omega arith)))
        (λ m.
        three_ways (k % 2) 1
        (λ p. a.tie_down k h (omega arith) (omega arith) ∙ sym (tie_down n d k h (omega arith) (omega arith)))
        (λ p. a.tie_up k h (omega arith) p ∙ sym (tie_up n d k h (omega arith) p))
        (λ p. absurd (omega arith)))
        (λ m. a.above_half k (omega arith) (omega arith) ∙ sym (above_half n d k (omega arith) (omega arith)))

-- ---- below zero
pub rounds_signed : (z : ℤ) (d : ℕ) → RoundsSigned z d (round_z z d)
rounds_signed z d =
    record {
      from_zero = λ n m e a. ap (λ (x : ℤ). round_z x d) e ∙ round_pos n d ∙ ap pos (sym (rounds_only n d m a));
      below_zero = λ n m e a. ap (λ (x : ℤ). round_z x d) e ∙ round_negpos n d ∙ ap (λ (x : ℕ). neg_ℤ (pos x)) (sym (rounds_only n d m a));
      by_shift = λ k a h ev e. of_diff (round_z z d) (nearest a d) k (round_biased d k h ev (diff_of z a (k * d) e));
    }

pub order_3 : Order3
order_3 = record { rounds = rounds; only = rounds_only; signed = rounds_signed }
