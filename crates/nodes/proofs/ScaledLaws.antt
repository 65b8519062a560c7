-- digits · 2^up / 2^149, rounded: by how far up lies from 149.
use mathlib.Core.Path.{◌≡◌, sym, ap, ◌∙◌}
use Prim.Native.Nat.{ℕ, ◌+◌, ◌-◌, ◌*◌, ◌%◌, ◌^◌, ◌≤◌, ◌<◌}
use native.Mathlib.Nat.{lt_of_lt_of_le, mul-le-mul, mul_assoc}
use native.Mathlib.Omega.{arith}
use lib.Pow.{pow_pos, pow_mono, pow-add, shl_exact, shl_lt}
use Rattle.numbers.specs.Round.{nearest}
use Rattle.numbers.proofs.Nearest.{nearest_ge, nearest_multiple, nearest_same, nearest_small}

-- from 157 up the size is 2^31 or more
pub large : (d u : ℕ) → 2 ^ 23 ≤ d → 157 ≤ u → 2 ^ 31 ≤ nearest (d * 2 ^ u) (2 ^ 149)
large d u h k = nearest_ge (2 ^ 31) (d * 2 ^ u) (2 ^ 149) (pow_pos 149) (mul-le-mul {n₁ = 2 ^ 23} {m₁ = 2 ^ 157} h (pow_mono k))

-- from 149 up it is a product with a power of two
pub product : (d u : ℕ) → 149 ≤ u → nearest (d * 2 ^ u) (2 ^ 149) ≡ d * 2 ^ (u - 149)
product d u h =
    let e : u - 149 + 149 ≡ u = omega arith in
    ap (λ (x : ℕ). nearest x (2 ^ 149)) (ap (λ (x : ℕ). d * 2 ^ x) (sym e) ∙ ap (λ (x : ℕ). d * x) (pow-add 2 (u - 149) 149) ∙ sym (mul_assoc d (2 ^ (u - 149)) (2 ^ 149)))
    ∙ nearest_multiple (d * 2 ^ (u - 149)) (2 ^ 149) (pow_pos 149)

-- below 149 it is a quotient by a power of two
pub quotient : (d u : ℕ) → u < 149 → nearest (d * 2 ^ u) (2 ^ 149) ≡ nearest d (2 ^ (149 - u))
quotient d u h =
    let e : u + (149 - u) ≡ 149 = omega arith in
    nearest_same (d * 2 ^ u) (2 ^ 149) d (2 ^ (149 - u)) (pow_pos 149) (pow_pos (149 - u))
    (mul_assoc d (2 ^ u) (2 ^ (149 - u)) ∙ ap (λ (x : ℕ). d * x) (sym (pow-add 2 u (149 - u)) ∙ ap (λ (x : ℕ). 2 ^ x) e))

-- which is 0 where the divisor is more than twice as large as the digits can be
pub small : (d k : ℕ) → d < 2 ^ 24 → 24 < k → nearest d (2 ^ k) ≡ 0
small d k h l = let p : 2 ^ 25 ≤ 2 ^ k = pow_mono l in nearest_small d (2 ^ k) (omega arith)

pub shift_up : (d k : ℕ) → d < 2 ^ 24 → k < 8 → d * 2 ^ k % 2 ^ 64 ≡ d * 2 ^ k
shift_up d k h l = shl_exact 24 k 64 h (omega arith)

pub shift_lt : (d k : ℕ) → d < 2 ^ 24 → k < 8 → d * 2 ^ k < 2 ^ 31
shift_lt d k h l = let m : 24 + k ≤ 31 = omega arith in lt_of_lt_of_le (shl_lt 24 k h) (pow_mono m)
