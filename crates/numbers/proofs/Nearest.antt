-- Laws of `nearest`, over every positive divisor.
use Prim.Native.Nat.{ℕ, zero, suc, ◌+◌, ◌-◌, ◌*◌, ◌/◌, ◌%◌, ◌^◌, ◌≤◌, ◌<◌}
use mathlib.Core.Path.{◌≡◌, refl, sym, ap, ◌∙◌}
use native.Mathlib.Nat.{mul-le-mul_right, mul-le-mul_left, mul-pos, mul_assoc, mul_comm, suc-mul, add-mul, zero-mul, sub-add_cancel, le-mul_of_pos_right, div-add-mod', mod-lt, eq_of_mul-eq-mul_right}
use native.Mathlib.Decide.{dec_lt}
use native.Mathlib.Omega.{arith}
use borrow.Author.Tests.{lt-ltb, le-ltb}
use Rattle.numbers.specs.Round.{gain, nearest, IsNearest}

-- ---- the three ways of a gain
pub gain_0 : (t d q : ℕ) → t < d → gain t d q ≡ 0
unfolding gain
gain_0 t d q h = simp (lt-ltb t d h)

pub gain_1 : (t d q : ℕ) → d < t → gain t d q ≡ 1
unfolding gain
gain_1 t d q h = let k : d ≤ t = omega arith in simp (le-ltb t d k, lt-ltb d t h)

pub gain_tie : (t d q : ℕ) → t ≡ d → gain t d q ≡ q % 2
unfolding gain
gain_tie t d q e = let k : d ≤ t = omega arith in let l : t ≤ d = omega arith in simp (le-ltb t d k, le-ltb d t l)

-- less, equal, greater
pub three_ways {ℓ} : {C : Type ℓ} (a b : ℕ) → (a < b → C) → (a ≡ b → C) → (b < a → C) → C
three_ways {C = C} a b f g h = go (dec_lt a b) (dec_lt b a)
  where
    go : Dec (a < b) → Dec (b < a) → C
    go (yes l) _ = f l
    go (no l) (yes r) = h r
    go (no l) (no r) = g (omega arith)

-- ---- `nearest` is near

-- from the parts of a division: q·d + r ≡ n with r below d, and a gain g
pub near_parts : (n d q r g : ℕ) → q * d + r ≡ n → r < d → (2 * r < d → g ≡ 0) → (2 * r ≡ d → g ≡ q % 2) → (d < 2 * r → g ≡ 1) → IsNearest n d (q + g)
near_parts n d q r g e lt f t h = three_ways (2 * r) d less tie more
  where
    at_0 : g ≡ 0 → (q + g) * d ≡ q * d
    at_0 e0 = ap (λ (x : ℕ). x * d) (omega arith)

    at_1 : g ≡ 1 → (q + g) * d ≡ q * d + d
    at_1 e1 = ap (λ (x : ℕ). x * d) (omega arith) ∙ suc-mul q d

    less : 2 * r < d → IsNearest n d (q + g)
    less l =
        let z = f l in let m = at_0 z in
        record { above = omega arith; below = omega arith; even_above = λ p. omega arith; even_below = λ p. omega arith }

    more : d < 2 * r → IsNearest n d (q + g)
    more l =
        let z = h l in let m = at_1 z in
        record { above = omega arith; below = omega arith; even_above = λ p. omega arith; even_below = λ p. omega arith }

    tie : 2 * r ≡ d → IsNearest n d (q + g)
    tie l =
        let z = t l in
        three_ways (q % 2) 1
        (λ p.
        let m = at_0 (omega arith) in
        record { above = omega arith; below = omega arith; even_above = λ p. omega arith; even_below = λ p. omega arith })
        (λ p.
        let m = at_1 (omega arith) in
        record { above = omega arith; below = omega arith; even_above = λ p. omega arith; even_below = λ p. omega arith })
        (λ p. absurd (omega arith))

pub nearest_near : (n d : ℕ) → 0 < d → IsNearest n d (nearest n d)
unfolding nearest
nearest_near n zero h = absurd (omega arith)
nearest_near n (suc m) h =
    near_parts n (suc m) (n / suc m) (n % suc m) (gain (2 * (n % suc m)) (suc m) (n / suc m))
    (div-add-mod' n (suc m)) (mod-lt n h)
    (gain_0 _ _ _) (gain_tie _ _ _) (gain_1 _ _ _)

-- over a divisor 0
pub nearest_zero : (n : ℕ) → nearest n 0 ≡ 0
unfolding nearest
nearest_zero n = refl

-- ---- and only `nearest` is
not_below : (n d p q : ℕ) → 0 < d → IsNearest n d p → IsNearest n d q → p < q → ⊥
not_below n d p q pos-d a b h =
    let m : suc p * d ≤ q * d = mul-le-mul_right d h in
    let s = suc-mul p d in
    let a1 = a.above in let a2 = a.below in let b1 = b.above in let b2 = b.below in
    let e : suc p * d ≡ q * d = omega arith in
    let i : suc p ≡ q = eq_of_mul-eq-mul_right d pos-d (suc p) q e in
    let x : p % 2 ≡ 0 = a.even_below (omega arith) in
    let y : q % 2 ≡ 0 = b.even_above (omega arith) in
    omega arith

pub near_unique : (n d p q : ℕ) → 0 < d → IsNearest n d p → IsNearest n d q → p ≡ q
near_unique n d p q h a b = three_ways p q (λ l. absurd (not_below n d p q h a b l)) (λ e. e) (λ l. absurd (not_below n d q p h b a l))

pub near_nearest : (n d q : ℕ) → 0 < d → IsNearest n d q → q ≡ nearest n d
near_nearest n d q h a = near_unique n d q (nearest n d) h a (nearest_near n d h)

-- ---- from the parts of a division: what code computes

pub nearest_parts : (n d q r : ℕ) → q * d + r ≡ n → r < d → q + gain (2 * r) d q ≡ nearest n d
nearest_parts n d q r e lt =
    near_nearest n d (q + gain (2 * r) d q) (omega arith)
    (near_parts n d q r (gain (2 * r) d q) e lt (gain_0 _ _ _) (gain_tie _ _ _) (gain_1 _ _ _))

-- what is left over lies below the divisor, and where something is left over the quotient of a 64-bit number can grow
pub quotient_room : (n d : ℕ) → 0 < d → n < 2 ^ 64 → (n - n / d * d < d) × (0 < n - n / d * d → n / d < 2 ^ 63)
quotient_room n d h f =
    let e = div-add-mod' n d in
    let r : n - n / d * d < d = omega (arith, mod-lt n h) in
    (r, λ k. let m = mul-le-mul_left {m = 2} {n = d} (n / d) (omega arith) in omega arith)

-- ---- laws

-- at most half a step from the exact fraction
pub half_step : (n d : ℕ) → 0 < d → (2 * (nearest n d * d) ≤ 2 * n + d) × (2 * n ≤ 2 * (nearest n d * d) + d)
half_step n d h = let a = nearest_near n d h in (a.above, a.below)

-- where n lies from k·d to (k + 1)·d: below the middle
pub below_half : (n d k : ℕ) → k * d ≤ n → 2 * n < 2 * (k * d) + d → nearest n d ≡ k
below_half n d k l h =
    sym (near_nearest n d k (omega arith)
    (record { above = omega arith; below = omega arith; even_above = λ p. absurd (omega arith); even_below = λ p. absurd (omega arith) }))

-- in the middle, a tie: down to an even k
pub tie_down : (n d k : ℕ) → 0 < d → 2 * n ≡ 2 * (k * d) + d → k % 2 ≡ 0 → nearest n d ≡ k
tie_down n d k h e even =
    sym (near_nearest n d k h
    (record { above = omega arith; below = omega arith; even_above = λ p. even; even_below = λ p. even }))

-- and up from an odd one
pub tie_up : (n d k : ℕ) → 0 < d → 2 * n ≡ 2 * (k * d) + d → k % 2 ≡ 1 → nearest n d ≡ suc k
tie_up n d k h e odd =
    let s = suc-mul k d in
    sym (near_nearest n d (suc k) h
    (record { above = omega arith; below = omega arith; even_above = λ p. omega arith; even_below = λ p. omega arith }))

-- above the middle
pub above_half : (n d k : ℕ) → 2 * (k * d) + d < 2 * n → n ≤ suc k * d → nearest n d ≡ suc k
above_half n d k h l =
    let s = suc-mul k d in
    sym (near_nearest n d (suc k) (omega arith)
    (record { above = omega arith; below = omega arith; even_above = λ p. absurd (omega arith); even_below = λ p. absurd (omega arith) }))

pub nearest_multiple : (k d : ℕ) → 0 < d → nearest (k * d) d ≡ k
nearest_multiple k d h = below_half (k * d) d k (omega arith) (omega arith)

pub nearest_ge : (a n d : ℕ) → 0 < d → a * d ≤ n → a ≤ nearest n d
nearest_ge a n d h l = three_ways (nearest n d) a
    (λ p. let m = mul-le-mul_right d p in let s = suc-mul (nearest n d) d in let b = (half_step n d h).1 in absurd (omega arith))
    (λ p. omega arith) (λ p. omega arith)

pub nearest_le : (b n d : ℕ) → 0 < d → n ≤ b * d → nearest n d ≤ b
nearest_le b n d h l = three_ways b (nearest n d)
    (λ p. let m = mul-le-mul_right d p in let s = suc-mul b d in let k = (half_step n d h).0 in absurd (omega arith))
    (λ p. omega arith) (λ p. omega arith)

-- of zero
pub nearest_0 : (d : ℕ) → nearest 0 d ≡ 0
nearest_0 d = go (dec_lt 0 d)
  where
    go : Dec (0 < d) → nearest 0 d ≡ 0
    go (yes h) = ap (λ (x : ℕ). nearest x d) (sym (zero-mul d)) ∙ nearest_multiple 0 d h
    go (no h) = let e : d ≡ 0 = omega arith in ap (nearest 0) e ∙ nearest_zero 0

-- an even number of whole steps more
pub nearest_add_even : (n d k : ℕ) → 0 < d → k % 2 ≡ 0 → nearest (n + k * d) d ≡ nearest n d + k
nearest_add_even n d k h ev =
    let a = nearest_near n d h in
    let s = add-mul (nearest n d) k d in
    let x = a.above in let y = a.below in
    sym (near_nearest (n + k * d) d (nearest n d + k) h
    (record {
      above = omega arith;
      below = omega arith;
      even_above = λ p. let z = a.even_above (omega arith) in omega arith;
      even_below = λ p. let z = a.even_below (omega arith) in omega arith;
    }))

-- seen from the other side: a and m add up to an even number of whole steps
pub nearest_reflect : (a m d k : ℕ) → 0 < d → k % 2 ≡ 0 → a + m ≡ k * d → nearest a d + nearest m d ≡ k
nearest_reflect a m d k h ev e =
    let q = nearest m d in
    let b = nearest_near m d h in
    let l : q ≤ k = nearest_le k m d h (omega arith) in
    let s : (k - q) * d + q * d ≡ k * d = sym (add-mul (k - q) q d) ∙ ap (λ (x : ℕ). x * d) (sub-add_cancel l) in
    let x = b.above in let y = b.below in
    let r : k - q ≡ nearest a d = near_nearest a d (k - q) h
    (record {
      above = omega arith;
      below = omega arith;
      even_above = λ p. let z = b.even_below (omega arith) in omega arith;
      even_below = λ p. let z = b.even_above (omega arith) in omega arith;
    }) in
    omega arith

pub nearest_most : (n d : ℕ) → nearest n d ≤ n
nearest_most n d = go (dec_lt 0 d)
  where
    go : Dec (0 < d) → nearest n d ≤ n
    go (yes h) = nearest_le n n d h (le-mul_of_pos_right n h)
    go (no h) = let e : d ≡ 0 = omega arith in let f : nearest n d ≡ 0 = ap (nearest n) e ∙ nearest_zero n in omega arith

-- a fraction in other terms
nearest_scale : (n d k : ℕ) → 0 < d → 0 < k → nearest (n * k) (d * k) ≡ nearest n d
nearest_scale n d k h p =
    let a = nearest_near n d h in
    let q = nearest n d in
    let s : 2 * (q * d) * k ≡ 2 * (q * (d * k)) = mul_assoc 2 (q * d) k ∙ ap (λ (x : ℕ). 2 * x) (mul_assoc q d k) in
    let t = mul_assoc 2 n k in
    let u = add-mul (2 * n) d k in
    let v = add-mul (2 * (q * d)) d k in
    let x = mul-le-mul_right k a.above in
    let y = mul-le-mul_right k a.below in
    sym (near_nearest (n * k) (d * k) q (mul-pos h p)
    (record {
      above = omega arith;
      below = omega arith;
      even_above = λ e. a.even_above (eq_of_mul-eq-mul_right k p (2 * (q * d)) (2 * n + d) (omega arith));
      even_below = λ e. a.even_below (eq_of_mul-eq-mul_right k p (2 * n) (2 * (q * d) + d) (omega arith));
    }))

-- equal fractions round alike
pub nearest_same : (a b c d : ℕ) → 0 < b → 0 < d → a * d ≡ c * b → nearest a b ≡ nearest c d
nearest_same a b c d h k e =
    sym (nearest_scale a b d h k) ∙ ap (λ (x : ℕ). nearest x (b * d)) e ∙ ap (nearest (c * b)) (mul_comm b d) ∙ nearest_scale c d b k h

-- what lies below half rounds to 0
pub nearest_small : (n d : ℕ) → 2 * n < d → nearest n d ≡ 0
nearest_small n d h = let z = zero-mul d in below_half n d 0 (omega arith) (omega arith)

-- just below half a step more, and one more still where the quotient is odd: then cut off
pub half_added : (n : ℕ) → let q = n / 4294967296 in (n + 2147483647 + (q - (q / 2 + q / 2))) / 4294967296 ≡ nearest n (2 ^ 32)
half_added n =
    let q = n / 4294967296 in
    let r = n % 4294967296 in
    let e : q * 4294967296 + r ≡ n = omega arith in
    let l : r < 4294967296 = omega arith in
    by_gain q (gain (2 * r) 4294967296 q) (gain_0 _ _ _) (gain_tie _ _ _) (gain_1 _ _ _) refl
    ∙ nearest_parts n 4294967296 q r e l
  where
    by_gain : (q g : ℕ) → (2 * (n % 4294967296) < 4294967296 → g ≡ 0) → (2 * (n % 4294967296) ≡ 4294967296 → g ≡ q % 2) → (4294967296 < 2 * (n % 4294967296) → g ≡ 1)
        → q ≡ n / 4294967296 → (n + 2147483647 + (q - (q / 2 + q / 2))) / 4294967296 ≡ q + g
    by_gain q g f t h e =
        let o : q - (q / 2 + q / 2) ≡ q % 2 = omega arith in
        three_ways (2 * (n % 4294967296)) 4294967296
        (λ l. let z = f l in omega arith)
        (λ l. let z = t l in three_ways (q % 2) 1 (λ m. omega arith) (λ m. omega arith) (λ m. absurd (omega arith)))
        (λ l. let z = h l in omega arith)
