-- Laws of a division whose two numbers are shifted up alike: 2 to the power k times as much.
use Prim.Native.Nat.{ℕ, suc, ◌+◌, ◌-◌, ◌*◌, ◌/◌, ◌%◌, ◌^◌, ◌≤◌, ◌<◌}
use mathlib.Core.Path.{◌≡◌, sym, ap, ◌∙◌}
use native.Mathlib.Nat.{mul-le-mul_right, mul-lt-mul_of_pos_right, lt_of_mul-lt-mul_right, mul_assoc, mul_comm, mul_right_comm, add-mul, mul-pos, div-add-mod', sub-add_cancel, mul-div-mul_right}
use mathlib.Core.Bool.{cond}
use native.Mathlib.Omega.{arith}
use lib.Dec.{ltb}
use lib.Pow.{pow_pos, pow-add, shl_lt, shr_lt}
use Rattle.numbers.specs.Round.{gain, nearest}
use Rattle.numbers.proofs.Nearest.{nearest_parts, nearest_same}
use Rattle.pair.specs.declared.Pair.{Pair}
use Rattle.pair.specs.Pair.{pair_value}

-- a number whose top bit is bit j, shifted up to bit 63
pub to_the_top : (d j k : ℕ) → k + suc j ≡ 64 → 2 ^ j ≤ d → d < 2 ^ suc j → (2 ^ 63 ≤ d * 2 ^ k) × (d * 2 ^ k < 2 ^ 64) × (k < 64)
to_the_top d j k e l h =
    let f : j + k ≡ 63 = omega arith in
    let g : suc j + k ≡ 64 = omega arith in
    let m = mul-le-mul_right (2 ^ k) l in
    let n = shl_lt {a = d} (suc j) k h in
    (omega (arith, pow-add 2 j k, ap (λ (x : ℕ). 2 ^ x) f), omega (arith, ap (λ (x : ℕ). 2 ^ x) g), omega arith)

-- a word shifted up: what leaves it, and what stays
module _ (low k : ℕ) (h : k < 64) where
  parts_of_lem : 2 ^ 64 ≡ 2 ^ (64 - k) * 2 ^ k
  parts_of_lem = ap (λ (x : ℕ). 2 ^ x) (sym (sub-add_cancel {n = 64} {m = k} (omega arith))) ∙ pow-add 2 (64 - k) k

  pub leaves : low < 2 ^ 64 → low / 2 ^ (64 - k) < 2 ^ k
  leaves f = let e : k + (64 - k) ≡ 64 = omega arith in shr_lt {n = low} k (64 - k) (omega (arith, ap (λ (x : ℕ). 2 ^ x) e))

  pub leaves_stays : low / 2 ^ (64 - k) * 2 ^ 64 + low * 2 ^ k % 2 ^ 64 ≡ low * 2 ^ k
  leaves_stays =
      ap (λ (x : ℕ). x * 2 ^ 64 + low * 2 ^ k % 2 ^ 64)
      (sym (ap (λ (x : ℕ). low * 2 ^ k / x) parts_of_lem ∙ mul-div-mul_right {m = 2 ^ k} low (2 ^ (64 - k)) (pow_pos k)))
      ∙ div-add-mod' (low * 2 ^ k) (2 ^ 64)

-- two words times any number
pub times : (high low m : ℕ) → (high * 2 ^ 64 + low) * m ≡ high * m * 2 ^ 64 + low * m
times high low m = add-mul (high * 2 ^ 64) low m ∙ ap (λ (x : ℕ). x + low * m) (mul_right_comm high (2 ^ 64) m)

-- a high word below the divisor: shifted up there is room for what leaves the low word, and it is below the divisor still
pub room_above : (r d k : ℕ) → r < d → d * 2 ^ k < 2 ^ 64 → (r + 1) * 2 ^ k ≤ 2 ^ 64
room_above r d k h f = let m = mul-le-mul_right {m = r + 1} {n = d} (2 ^ k) (omega arith) in omega arith

pub high_under : (n m : Pair) (d k : ℕ) → n.high < d → n.low < 2 ^ 64 → pair_value m ≡ pair_value n * 2 ^ k → m.high < d * 2 ^ k
unfolding pair_value
high_under n m d k h l e =
    let t : (n.high * 2 ^ 64 + n.low) * 2 ^ k < d * 2 ^ 64 * 2 ^ k = mul-lt-mul_of_pos_right (omega arith) (pow_pos k) in
    let c = mul_right_comm d (2 ^ 64) (2 ^ k) in
    lt_of_mul-lt-mul_right (2 ^ 64) {m = m.high} {n = d * 2 ^ k} (omega arith)

-- the high word divided alone, and what it left over together with the low word, m times as much
pub together : (high low d h r m q rest : ℕ) → h * d + r ≡ high → q * (d * m) + rest ≡ (r * 2 ^ 64 + low) * m
    → (h * 2 ^ 64 + q) * (d * m) + rest ≡ (high * 2 ^ 64 + low) * m
together high low d h r m q rest e f =
    let a : high * m ≡ h * (d * m) + r * m = ap (λ (x : ℕ). x * m) (sym e) ∙ add-mul (h * d) r m ∙ ap (λ (x : ℕ). x + r * m) (mul_assoc h d m) in
    omega (arith, times high low m, times r low m, times h q (d * m))

-- whether a quotient is even, its low word says
gain_low : (t d high low : ℕ) → gain t d low ≡ gain t d (high * 2 ^ 64 + low)
unfolding gain
gain_low t d high low =
    let e : low % 2 ≡ (high * 2 ^ 64 + low) % 2 = omega arith in
    ap (λ (x : ℕ). cond (ltb t d) 0 (cond (ltb d t) 1 x)) e

pub nearest_scaled : (n d m high low rest : ℕ) → 0 < d → 0 < m → (high * 2 ^ 64 + low) * (d * m) + rest ≡ n * m → rest < d * m
    → high * 2 ^ 64 + low + gain (2 * rest) (d * m) low ≡ nearest n d
nearest_scaled n d m high low rest p k e l =
    let q = high * 2 ^ 64 + low in
    ap (λ (x : ℕ). q + x) (gain_low (2 * rest) (d * m) high low) ∙ nearest_parts (n * m) (d * m) q rest e l
    ∙ nearest_same (n * m) (d * m) n d (mul-pos p k) p (mul_assoc n m d ∙ ap (λ (x : ℕ). n * x) (mul_comm m d))
