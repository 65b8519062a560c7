-- What a plain float is: no mark, and not refused.
use mathlib.Core.Path.{◌≡◌, refl, sym, ap, ◌∙◌, subst}
use mathlib.Core.Bool.{Bool, true, false, not, cond, ◌&&◌, ◌||◌}
use mathlib.Core.Logic.{◌⊎◌, inl, inr}
use Prim.Native.Nat.{ℕ, suc, ◌+◌, ◌-◌, ◌*◌, ◌/◌, ◌%◌, ◌^◌, ◌≤◌, ◌<◌}
use native.Mathlib.Nat.{mul_assoc, mul_comm, mul_left_comm, mul-le-mul_right, le_of_mul-le-mul_right, le_trans, le_of_eq}
use native.Mathlib.Omega.{arith}
use lib.Dec.{ltb, leb, lit≤}
use lib.IntN.{ℤ, nat_abs}
use lib.Pow.{pow_pos, pow-add}
use lib.Ieee.{Float, nan, inf, fin, binary32, up, down, is_nan, fits, of_fields, of_bits, odd, le, lt, eq, ne, neg}
use lib.Ieee.Exact.{HasValue, odd_sign}
use lib.Ieee.Fits.{down_pos}
use lib.Ieee.Order.{transfer}
use borrow.Author.Tests.{ltb-true, eqb-true, ne_eqb, lt-leb, le-leb}
use Rattle.numbers.proofs.Bools.{and_left, and_right, or_none, true_false, untrue}
use Rattle.numbers.proofs.Nearest.{nearest_le}
use Rattle.numbers.proofs.OrderLaws.{within_test}
use Rattle.group.specs.Numbers.{quantum_most, value_most}
use Rattle.nodes.specs.Load.{infinite, marks, steps, refused_float}
use Rattle.nodes.specs.Plain.{greatest_bits, greatest, plain_float}
use Rattle.nodes.proofs.Signed.{size_rounded}
use Rattle.nodes.proofs.Marks.{ne_nan}
use Rattle.nodes.proofs.LoadLaws.{marks_only}

-- the greatest float that is loaded, as a fraction: 2,147,483,520 / 2^q
greatest_value : (q : ℕ) → q ≤ quantum_most → HasValue (greatest q) false (16777215 * 2 ^ (156 - q)) (2 ^ 149)
unfolding greatest of_bits
greatest_value q h =
    let b = greatest_bits - q * 8388608 in
    let x : b % 2147483648 / 8388608 ≡ suc (156 - q) = omega arith in
    let t : b % 8388608 ≡ 8388607 = omega arith in
    let s : leb 2147483648 b ≡ false = lt-leb 2147483648 b (omega arith) in
    subst (λ (r : Float). HasValue r false (16777215 * 2 ^ (156 - q)) (2 ^ 149))
    (sym (ap (λ (k : Bool). of_fields binary32 k (b % 2147483648 / 8388608) (b % 8388608)) s
    ∙ ap (λ (k : ℕ). of_fields binary32 false k (b % 8388608)) x
    ∙ ap (of_fields binary32 false (suc (156 - q))) t))
    (some (156 - q) (omega arith))
  where
    some : (k : ℕ) → k < 254 → HasValue (of_fields binary32 false (suc k) 8388607) false (16777215 * 2 ^ k) (2 ^ 149)
    some k l = subst (λ (b : Bool). HasValue (cond b nan (odd 24 false 16777215 k 149)) false (16777215 * 2 ^ k) (2 ^ 149)) (sym (ne_eqb (suc k) 255 (λ e. omega arith))) (odd_sign 24 false 16777215 k 149)

-- its steps are within the limit
greatest_within : (q : ℕ) → q ≤ quantum_most → 16777215 * 2 ^ (156 - q) * 2 ^ q ≤ value_most * 2 ^ 149
greatest_within q h =
    let e : 156 - q + q ≡ 156 = omega arith in
    le_trans
    (le_of_eq (mul_assoc 16777215 (2 ^ (156 - q)) (2 ^ q) ∙ ap (λ (k : ℕ). 16777215 * k) (sym (pow-add 2 (156 - q) q) ∙ ap (λ (k : ℕ). 2 ^ k) e)))
    (lit≤ tt)

or_le : (a b : ℕ) (t : Bool) → (t ≡ true → a ≤ b) → (ltb a b || t) ≡ true → a ≤ b
or_le a b t f h = go (ltb a b) refl h
  where
    go : (s : Bool) → ltb a b ≡ s → (s || t) ≡ true → a ≤ b
    go true e h = let l = ltb-true a b e in omega arith
    go false e h = f h

-- x is a number, and within the limit when rounded
pub record Bounded (q : ℕ) (x : Float) : Type 0 where
  pub number : is_nan x ≡ false
  pub finite : infinite x ≡ false
  pub size : nat_abs (steps q x) ≤ value_most

-- a fraction that is no more than another one, times p
scale : (p m c a d k : ℕ) → 0 < c → m * c ≤ a * d → a * p ≤ k * c → m * p ≤ k * d
scale p m c a d k h l e =
    let x : m * p * c ≡ m * c * p = simp (mul_assoc, mul_comm, mul_left_comm) in
    let y : a * d * p ≡ a * p * d = simp (mul_assoc, mul_comm, mul_left_comm) in
    let z : k * c * d ≡ k * d * c = simp (mul_assoc, mul_comm, mul_left_comm) in
    le_of_mul-le-mul_right
    (le_trans (le_of_eq x) (le_trans (mul-le-mul_right p l) (le_trans (le_of_eq y) (le_trans (mul-le-mul_right d e) (le_of_eq z))))) h

module _ (q a c : ℕ) (h : 0 < c) (k : a * 2 ^ q ≤ value_most * c) where
  -- a size that is no more than that of hi
  no_more : (s : Bool) (m n : ℕ) (e d : ℤ) → n * up d * c ≡ a * down d → m * up e * down d ≤ n * up d * down e → nat_abs (steps q (fin s m e)) ≤ value_most
  unfolding steps
  no_more s m n e d v l =
      let t : m * up e * c ≤ a * down e = transfer (m * up e) a (down e) c (m * up e) (n * up d) (down e) (down d) (down_pos e) (down_pos d) refl (sym v) l in
      let r : m * up e * 2 ^ q ≤ value_most * down e = scale (2 ^ q) (m * up e) c a (down e) value_most h t k in
      subst (λ (z : ℕ). z ≤ value_most) (sym (size_rounded s (m * up e * 2 ^ q) (down e))) (nearest_le value_most (m * up e * 2 ^ q) (down e) (down_pos e) r)

  under : (hi x : Float) → HasValue hi false a c → (le (neg hi) x && le x hi) ≡ true → Bounded q x
  unfolding le lt eq neg is_nan
  under nan x v p = absurd v
  under (inf t) x v p = absurd v
  under (fin true n d) x v p = absurd (true_false refl v.0)
  under (fin false n d) nan v p = absurd (true_false p refl)
  under (fin false n d) (inf true) v p = absurd (true_false p refl)
  under (fin false n d) (inf false) v p = absurd (true_false p refl)
  under (fin false n d) (fin false m e) v p = record {
    number = refl;
    finite = refl;
    size = no_more false m n e d v.1 (or_le _ _ _ (λ t. le_of_eq (eqb-true _ _ (and_left _ _ t))) (and_right (le (fin true n d) (fin false m e)) _ p));
  }
  under (fin false n d) (fin true m e) v p = record {
    number = refl;
    finite = refl;
    size = no_more true m n e d v.1 (or_le _ _ _ (λ t. le_of_eq (sym (eqb-true _ _ (and_left _ _ t)))) (and_left _ (le (fin true m e) (fin false n d)) p));
  }

pub plain_bounded : (q : ℕ) (flag x : Float) → q ≤ quantum_most → plain_float (greatest q) flag x ≡ true → Bounded q x
unfolding plain_float
plain_bounded q flag x h p =
    under q (16777215 * 2 ^ (156 - q)) (2 ^ 149) (pow_pos 149) (greatest_within q h) (greatest q) x (greatest_value q h) (and_left _ (ne x flag) p)

-- a plain float is not refused, marked or not
pub plain_passes : (q : ℕ) (flag x : Float) → q ≤ quantum_most → plain_float (greatest q) flag x ≡ true → refused_float q flag x ≡ false
unfolding refused_float
plain_passes q flag x h p =
    let b = plain_bounded q flag x h p in
    let v = within_test value_most (steps q x) ∙ le-leb (nat_abs (steps q x)) value_most b.size in
    untrue (refused_float q flag x) (λ t. true_false (and_right (not (marks flag x)) _ t) (or_none b.finite (ap not v)))

-- and not marked
pub plain_unmarked : (q : ℕ) (flag x : Float) → q ≤ quantum_most → fits binary32 x ≡ true → fits binary32 flag ≡ true → plain_float (greatest q) flag x ≡ true → marks flag x ≡ false
unfolding plain_float is_nan
plain_unmarked q flag x h f g p = go (marks flag x) refl
  where
    n : is_nan x ≡ false
    n = (plain_bounded q flag x h p).number

    never : (x ≡ nan) ⊎ (x ≡ flag) → ⊥
    never (inl e) = true_false (ap is_nan e) n
    never (inr e) = true_false (sym (ap (ne x) (sym e)) ∙ and_right (le (neg (greatest q)) x && le x (greatest q)) (ne x flag) p) (ne_nan x ∙ n)

    go : (b : Bool) → marks flag x ≡ b → marks flag x ≡ false
    go false e = e
    go true e = absurd (never (marks_only flag x f g e))
