-- A shift loses nothing: the float is the whole result over 2 to the power q, exactly.
use Rattle.std.proofs.Common.{◌≡◌, ℕ, suc, ◌+◌, ◌-◌, ◌*◌, ◌^◌, ◌<◌, ◌≤◌, Bool, true, false, cond, eqb, ℤ, pos, negsuc, nat_abs, sym, refl, ap, ◌∙◌, subst, ⊎_elim, lt_of_lt_of_le, mul_assoc, mul_comm, pos_of_ne-zero, eq-or-lt_of_le, mul-pos, one-mul, zero-mul, mul-one, arith, lit<, lit≤, pow_pos, pow_mono, pow-add, shl_lt, ne_eqb}
use native.Mathlib.Nat.{mul-mul-mul_comm, eq_of_mul-eq-mul_right}
use lib.Ieee.{Float, nan, inf, fin, Format, binary64, up, down, unlike, round, of_int, mul, div, fits}
use lib.Ieee.Exact.{HasValue, round_exact}
use lib.Ieee.Back.{round_whole, whole_unique}
use lib.Ieee.Fits.{up_pos, down_pos, mul-fits}
use lib.Ieee.Scale.{round_same}
use Rattle.group.specs.Numbers.{quantum_most}
use Rattle.screen.specs.Screen.{plus_zero, neg_power, shift_of}
use Rattle.screen.specs.Shown.{below_zero, Times}

-- a product and a quotient, by any fractions that the operands equal
mul_at : (f : Format) (x y : Float) (s t : Bool) (a c b d : ℕ) → 0 < c → 0 < d → HasValue x s a c → HasValue y t b d → mul f x y ≡ round f (unlike s t) (a * b) (c * d)
unfolding mul
mul_at f nan y s t a c b d C D h k = absurd h
mul_at f (inf u) y s t a c b d C D h k = absurd h
mul_at f (fin u m e) nan s t a c b d C D h k = absurd k
mul_at f (fin u m e) (inf v) s t a c b d C D h k = absurd k
mul_at f (fin u m e) (fin v n g) s t a c b d C D h k =
    ap (λ (z : Bool). round f (unlike z v) (m * up e * (n * up g)) (down e * down g)) h.0
    ∙ ap (λ (z : Bool). round f (unlike s z) (m * up e * (n * up g)) (down e * down g)) k.0
    ∙ round_same f (unlike s t) (m * up e * (n * up g)) (down e * down g) (a * b) (c * d) (mul-pos (down_pos e) (down_pos g)) (mul-pos C D)
    (mul-mul-mul_comm (m * up e) (n * up g) c d ∙ ap (λ (z : ℕ). z * (n * up g * d)) h.1 ∙ ap (λ (z : ℕ). a * down e * z) k.1 ∙ mul-mul-mul_comm a (down e) b (down g))

-- a divisor with a value above 0 has digits
nonzero : (n u d b w : ℕ) → 0 < b → 0 < w → n * u * d ≡ b * w → n ≡ 0 → ⊥
nonzero n u d b w B W e z =
    let p : 0 < b * w = mul-pos B W in
    let q : n * u * d ≡ 0 = ap (λ (k : ℕ). k * u * d) z ∙ ap (λ (k : ℕ). k * d) (zero-mul u) ∙ zero-mul d in
    omega arith

pub div_at : (f : Format) (x y : Float) (s t : Bool) (a c b d : ℕ) → 0 < c → 0 < d → 0 < b → HasValue x s a c → HasValue y t b d → div f x y ≡ round f (unlike s t) (a * d) (c * b)
unfolding div
div_at f nan y s t a c b d C D B h k = absurd h
div_at f (inf u) y s t a c b d C D B h k = absurd h
div_at f (fin u m e) nan s t a c b d C D B h k = absurd k
div_at f (fin u m e) (inf v) s t a c b d C D B h k = absurd k
div_at f (fin u m e) (fin v n g) s t a c b d C D B h k =
    let nz : n ≡ 0 → ⊥ = nonzero n (up g) d b (down g) B (down_pos g) k.1 in
    let P : 0 < n * up g * down e = mul-pos (mul-pos (pos_of_ne-zero nz) (up_pos g)) (down_pos e) in
    ap (λ (z : Bool). cond z (cond (eqb m 0) nan (inf (unlike u v))) (round f (unlike u v) (m * up e * down g) (n * up g * down e))) (ne_eqb n 0 nz)
    ∙ ap (λ (z : Bool). round f (unlike z v) (m * up e * down g) (n * up g * down e)) h.0
    ∙ ap (λ (z : Bool). round f (unlike s z) (m * up e * down g) (n * up g * down e)) k.0
    ∙ round_same f (unlike s t) (m * up e * down g) (n * up g * down e) (a * d) (c * b) P (mul-pos C B)
    (mul-mul-mul_comm (m * up e) (down g) c b ∙ ap (λ (z : ℕ). z * (down g * b)) h.1 ∙ ap (λ (z : ℕ). a * down e * z) (mul_comm (down g) b ∙ sym k.1 ∙ mul_comm (n * up g) d) ∙ mul-mul-mul_comm a (down e) d (n * up g) ∙ ap (λ (z : ℕ). a * d * z) (mul_comm (down e) (n * up g)))

-- d · 2^i / 2^q, where the format keeps the digits d, is a value of the format
kept : (s : Bool) (d i q : ℕ) → d < 2 ^ 53 → i ≤ 53 → q ≤ 1074 → HasValue (round binary64 s (d * 2 ^ i) (2 ^ q)) s (d * 2 ^ i) (2 ^ q)
kept s d i q h l k =
    let e : i + 1074 ≡ i + (1074 - q) + q = omega arith in
    let b : 53 + (i + (1074 - q)) ≤ 1074 + 1024 = omega arith in
    round_exact binary64 s (d * 2 ^ i) (2 ^ q) d (i + (1074 - q)) (pow_pos q) h
    (lt_of_lt_of_le (shl_lt 53 (i + (1074 - q)) h) (pow_mono b))
    (mul_assoc d (2 ^ i) (2 ^ 1074)
    ∙ ap (λ (z : ℕ). d * z) (sym (pow-add 2 i 1074) ∙ ap (λ (z : ℕ). 2 ^ z) e ∙ pow-add 2 (i + (1074 - q)) q)
    ∙ sym (mul_assoc d (2 ^ (i + (1074 - q))) (2 ^ q)))

over : (s : Bool) (n q : ℕ) → n ≤ 2 ^ 53 → q ≤ 1074 → HasValue (round binary64 s n (2 ^ q)) s n (2 ^ q)
over s n q h k =
    ⊎_elim
    (λ e. subst (λ (x : ℕ). HasValue (round binary64 s x (2 ^ q)) s x (2 ^ q)) (one-mul (2 ^ 53) ∙ sym e) (kept s 1 53 q (lit< tt) (lit≤ tt) k))
    (λ l. subst (λ (x : ℕ). HasValue (round binary64 s x (2 ^ q)) s x (2 ^ q)) (mul-one n) (kept s n 0 q l (lit≤ tt) k))
    (eq-or-lt_of_le h)

power_value : (q : ℕ) → q ≤ 53 → HasValue (neg_power q) false 1 (2 ^ q)
unfolding neg_power of_int
power_value q h =
    subst (λ (x : Float). HasValue x false 1 (2 ^ q))
    (sym (div_at binary64 (of_int binary64 (pos 1)) (of_int binary64 (pos (2 ^ q))) false false 1 1 (2 ^ q) 1 (lit< tt) (lit< tt) (pow_pos q) (round_whole binary64 false 1 (lit≤ tt)) (round_whole binary64 false (2 ^ q) (pow_mono h))
    ∙ ap (round binary64 false 1) (one-mul (2 ^ q))))
    (over false 1 q (lit≤ tt) (omega arith))

-- the nearest float of a whole number of size at most 2^53 is that number: up to there the cast is exact
pub cast_exact : (z : ℤ) → nat_abs z ≤ 2 ^ 53 → Times (of_int binary64 z) 1 z
unfolding of_int
cast_exact (pos n) h = round_whole binary64 false n h
cast_exact (negsuc n) h = round_whole binary64 true (suc n) h

pub like : (s : Bool) → unlike s false ≡ s
like true = refl
like false = refl

-- The shift of a whole result n has n's sign and the exact size |n| / 2^q, for every size up to 2^53. A lookup's results are far below: they
-- are at most result_most.
pub shift_exact : (n : ℤ) (q : ℕ) → nat_abs n ≤ 2 ^ 53 → q ≤ quantum_most → Times (shift_of q n) (2 ^ q) n
unfolding shift_of
shift_exact n q h k =
    subst (λ (x : Float). HasValue x (below_zero n) (nat_abs n) (2 ^ q))
    (sym (mul_at binary64 (of_int binary64 n) (neg_power q) (below_zero n) false (nat_abs n) 1 1 (2 ^ q) (lit< tt) (pow_pos q) (cast_exact n h) (power_value q (omega arith))
    ∙ ap (λ (s : Bool). round binary64 s (nat_abs n * 1) (1 * 2 ^ q)) (like (below_zero n))
    ∙ ap (λ (a : ℕ). round binary64 (below_zero n) a (1 * 2 ^ q)) (mul-one (nat_abs n))
    ∙ ap (round binary64 (below_zero n) (nat_abs n)) (one-mul (2 ^ q))))
    (over (below_zero n) (nat_abs n) q h (omega arith))

-- 0 is 0 over any divisor
zero_over : (x : Float) (c : ℕ) → 0 < c → HasValue x false 0 c → HasValue x false 0 1
zero_over nan c h v = absurd v
zero_over (inf s) c h v = absurd v
zero_over (fin s m e) c h v =
    (v.0, mul-one (m * up e) ∙ eq_of_mul-eq-mul_right c h (m * up e) 0 (v.1 ∙ zero-mul (down e) ∙ sym (zero-mul c)) ∙ sym (zero-mul (down e)))

-- a result 0, as a lookup has it for a missing parameter, shows +0 by itself
pub shift_zero : (q : ℕ) → q ≤ quantum_most → shift_of q (pos 0) ≡ plus_zero
unfolding shift_of fits
shift_zero q k =
    whole_unique binary64 (shift_of q (pos 0)) plus_zero false 0 (mul-fits binary64 (of_int binary64 (pos 0)) (neg_power q)) tt
    (zero_over (shift_of q (pos 0)) (2 ^ q) (pow_pos q) (shift_exact (pos 0) q (lit≤ tt) k)) (refl, refl)
