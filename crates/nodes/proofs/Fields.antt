-- The size of a float, in steps, by the fields of its bits.
use mathlib.Core.Path.{◌≡◌, refl, sym, ap, ◌∙◌, subst}
use mathlib.Core.Bool.{Bool, true, false, not, cond}
use Prim.Native.Nat.{ℕ, zero, suc, ◌+◌, ◌-◌, ◌*◌, ◌/◌, ◌%◌, ◌^◌, ◌<◌, min}
use native.Mathlib.Nat.{mul_right_comm, mul_assoc, mul-one}
use native.Mathlib.Omega.{arith}
use lib.Dec.{T, leb, eqb}
use lib.IntN.{ℤ}
use lib.Pow.{pow_pos, pow-add}
use lib.Ieee.{Float, nan, inf, fin, binary32, up, down, is_nan, of_fields, of_bits, odd}
use lib.Ieee.Exact.{HasValue, odd_sign}
use lib.Ieee.Fits.{down_pos}
use borrow.Author.Tests.{ne_eqb, eq-eqb}
use Rattle.numbers.specs.Round.{nearest}
use Rattle.numbers.proofs.Nearest.{nearest_same}
use Rattle.nodes.specs.Load.{steps}
use Rattle.nodes.specs.Size.{size_of}
use Rattle.nodes.proofs.Signed.{size_rounded}

-- m · 2^e times 2^q rounds as any fraction of the same value does
pub value_nearest : (m a c q : ℕ) (e : ℤ) → 0 < c → m * up e * c ≡ a * down e → nearest (m * up e * 2 ^ q) (down e) ≡ nearest (a * 2 ^ q) c
value_nearest m a c q e h v =
    nearest_same (m * up e * 2 ^ q) (down e) (a * 2 ^ q) c (down_pos e) h
    (mul_right_comm (m * up e) (2 ^ q) c ∙ ap (λ (k : ℕ). k * 2 ^ q) v ∙ mul_right_comm a (down e) (2 ^ q))

-- a finite float is as large as any fraction of the same value
pub size_value : (x : Float) (s : Bool) (a c q : ℕ) → 0 < c → HasValue x s a c → size_of q x ≡ min (nearest (a * 2 ^ q) c) (2 ^ 31)
unfolding size_of steps
size_value nan s a c q h v = absurd v
size_value (inf t) s a c q h v = absurd v
size_value (fin t m e) s a c q h v = ap (λ (n : ℕ). min n (2 ^ 31)) (size_rounded t (m * up e * 2 ^ q) (down e) ∙ value_nearest m a c q e h v.1)

-- the three kinds of exponent field
pub field_zero : (s : Bool) (x t q : ℕ) → x ≡ 0 → size_of q (of_fields binary32 s x t) ≡ min (nearest (t * 2 ^ q) (2 ^ 149)) (2 ^ 31)
unfolding of_fields
field_zero s zero t q e = size_value (odd 24 s t 0 149) s (t * 2 ^ 0) (2 ^ 149) q (pow_pos 149) (odd_sign 24 s t 0 149) ∙ rw mul-one
field_zero s (suc x) t q e = absurd (omega arith)

pub field_some : (s : Bool) (x t q : ℕ) → (x ≡ 0 → ⊥) → (x ≡ 255 → ⊥) → size_of q (of_fields binary32 s x t) ≡ min (nearest ((8388608 + t) * 2 ^ (x - 1 + q)) (2 ^ 149)) (2 ^ 31)
unfolding of_fields
field_some s zero t q n m = absurd (n refl)
field_some s (suc x) t q n m =
    ap (λ (b : Bool). size_of q (cond b (cond (eqb t 0) (inf s) nan) (odd 24 s (8388608 + t) x 149))) (ne_eqb (suc x) 255 m)
    ∙ size_value (odd 24 s (8388608 + t) x 149) s ((8388608 + t) * 2 ^ x) (2 ^ 149) q (pow_pos 149) (odd_sign 24 s (8388608 + t) x 149)
    ∙ ap (λ (k : ℕ). min (nearest k (2 ^ 149)) (2 ^ 31)) (mul_assoc (8388608 + t) (2 ^ x) (2 ^ q) ∙ ap (λ (k : ℕ). (8388608 + t) * k) (sym (pow-add 2 x q) ∙ ap (λ (k : ℕ). 2 ^ (k + q)) (omega arith)))

pub field_ones : (s : Bool) (x t q : ℕ) → x ≡ 255 → T (not (is_nan (of_fields binary32 s x t))) → size_of q (of_fields binary32 s x t) ≡ 2 ^ 31
unfolding of_fields size_of is_nan
field_ones s zero t q e h = absurd (omega arith)
field_ones s (suc x) t q e h =
    let w : eqb (suc x) 255 ≡ true = eq-eqb (suc x) 255 e in
    ap (λ (b : Bool). size_of q (cond b (cond (eqb t 0) (inf s) nan) (odd 24 s (8388608 + t) x 149))) w
    ∙ go (eqb t 0) (subst (λ (b : Bool). T (not (is_nan (cond b (cond (eqb t 0) (inf s) nan) (odd 24 s (8388608 + t) x 149))))) w h)
  where
    go : (b : Bool) → T (not (is_nan (cond b (inf s) nan))) → size_of q (cond b (inf s) nan) ≡ 2 ^ 31
    go true h = refl
    go false h = absurd h

-- the sign of a float that is no NaN
abbrev pub sign : Float → Bool
sign nan = false
sign (inf s) = s
sign (fin s m e) = s

sign_odd : (d : ℕ) (s : Bool) (n k l : ℕ) → sign (odd d s n k l) ≡ s
unfolding odd
sign_odd d s zero k l = refl
sign_odd d s (suc n) k l = refl

sign_fields : (s : Bool) (x t : ℕ) → T (not (is_nan (of_fields binary32 s x t))) → sign (of_fields binary32 s x t) ≡ s
unfolding of_fields is_nan
sign_fields s zero t h = sign_odd 24 s t 0 149
sign_fields s (suc x) t h = go (eqb (suc x) 255) (eqb t 0) h
  where
    go : (a b : Bool) → T (not (is_nan (cond a (cond b (inf s) nan) (odd 24 s (8388608 + t) x 149)))) → sign (cond a (cond b (inf s) nan) (odd 24 s (8388608 + t) x 149)) ≡ s
    go true true h = refl
    go true false h = absurd h
    go false b h = sign_odd 24 s (8388608 + t) x 149

pub sign_bits : (b : ℕ) → T (not (is_nan (of_bits binary32 b))) → sign (of_bits binary32 b) ≡ leb 2147483648 b
unfolding of_bits
sign_bits b h = sign_fields (leb 2147483648 b) (b % 2147483648 / 8388608) (b % 8388608) h
