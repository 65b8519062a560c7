-- Laws of a line's fields: a keyword, and numbers that are read and written again.
use Prim.Native.Nat.{ℕ, zero, suc, ◌+◌, ◌<◌, ◌≤◌}
use mathlib.Core.Path.{◌≡◌, refl, sym, ap, ◌∙◌}
use mathlib.Core.Bool.{true, false}
use mathlib.Core.List.{List, [], ◌∷◌, map}
use mathlib.Core.Option.{Option, none, some}
use Rattle.std.specs.Prelude as R
use native.Mathlib.Numerals.{add-one}
use native.Mathlib.Omega.{arith}
use lib.Dec.{eqb}
use lib.ListN.{length, get_or, drop, drop_of_length-le}
use lib.Seq.{drop-cons}
use lib.IntN.{ℤ, pos, negsuc, nat_abs}
use borrow.Author.Tests.{eqb-true, eq-eqb, ne_eqb}
use Rattle.numbers.proofs.Bools.{and_left, and_right, untrue}
use Rattle.text.specs.Parts.{split, field_of}
use Rattle.text.specs.Decimal.{read_int, int_text}
use Rattle.text.specs.Number.{number_most, clamp, number_of}
use Rattle.text.specs.Fields.{same, both, read_ints}
use Rattle.text.proofs.PartLaws.{AllFree, field_split}
use Rattle.text.proofs.DecimalLaws.{read_int_int_text, int_text_read_int, int_text_free}

-- ---- equal bytes

pub false_not_true : {A : Type 0} → false ≡ true → A
false_not_true e = let z : ◌≡◌ {A = ℕ} 0 1 = cc in absurd (omega arith)

pub same_refl : (s : List ℕ) → same s s ≡ true
same_refl [] = refl
same_refl (x ∷ xs) = rw (eq-eqb x x refl) (same_refl xs)

pub same_true : (s t : List ℕ) → same s t ≡ true → s ≡ t
same_true [] [] e = refl
same_true [] (y ∷ ys) e = false_not_true e
same_true (x ∷ xs) [] e = false_not_true e
same_true (x ∷ xs) (y ∷ ys) e =
    let h : x ≡ y = eqb-true x y (and_left (eqb x y) (same xs ys) e) in
    let t : xs ≡ ys = same_true xs ys (and_right (eqb x y) (same xs ys) e) in cc

pub same_false : (s t : List ℕ) → (s ≡ t → ⊥) → same s t ≡ false
same_false s t h = untrue (same s t) (λ e. h (same_true s t e))

pub same_unequal : (s t : List ℕ) → (length s ≡ length t → ⊥) → same s t ≡ false
same_unequal s t h = same_false s t (λ e. h (ap length e))

pub same_step : (s t : List ℕ) (i : ℕ) → i < length s → i < length t → get_or s i 0 ≡ get_or t i 0 → same (drop i s) (drop i t) ≡ same (drop (i + 1) s) (drop (i + 1) t)
same_step s t i h k e = rw (drop-cons s i 0 h, drop-cons t i 0 k, eq-eqb (get_or s i 0) (get_or t i 0) e, add-one)

pub same_differ : (s t : List ℕ) (i : ℕ) → i < length s → i < length t → (get_or s i 0 ≡ get_or t i 0 → ⊥) → same (drop i s) (drop i t) ≡ false
same_differ s t i h k e = rw (drop-cons s i 0 h, drop-cons t i 0 k, ne_eqb (get_or s i 0) (get_or t i 0) e)

pub same_end : (s t : List ℕ) (i : ℕ) → length s ≤ i → length t ≤ i → same (drop i s) (drop i t) ≡ true
same_end s t i h k = rw (drop_of_length-le s h, drop_of_length-le t k)

-- ---- the fields of a line

-- one field that is no number
pub ints_bad : (ps : List (List ℕ)) (j k : ℕ) → j ≤ k → k < length ps → read_int (get_or ps k []) ≡ none → read_ints (drop j ps) ≡ none
ints_bad [] j k l h e = absurd (omega arith)
ints_bad (p ∷ ps) zero zero l h e = rw e
ints_bad (p ∷ ps) zero (suc k) l h e = rw (ints_bad ps zero k (omega arith) (omega arith) e) (neither (read_int p))
  where
    neither : (o : Option ℤ) → both o none ≡ none
    neither none = refl
    neither (some z) = refl
ints_bad (p ∷ ps) (suc j) zero l h e = absurd (omega arith)
ints_bad (p ∷ ps) (suc j) (suc k) l h e = ints_bad ps j k (omega arith) (omega arith) e

-- fields that are numbers, from the last to the first
pub ints_end : (ps : List (List ℕ)) (k : ℕ) → length ps ≤ k → read_ints (drop k ps) ≡ some []
ints_end ps k h = rw (drop_of_length-le ps h)

pub ints_cons : (ps : List (List ℕ)) (k : ℕ) (z : ℤ) (zs : List ℤ) → k < length ps → read_int (get_or ps k []) ≡ some z → read_ints (drop (suc k) ps) ≡ some zs → read_ints (drop k ps) ≡ some (z ∷ zs)
ints_cons ps k z zs h e f = rw (drop-cons ps k [] h, e, f)

-- ---- what read_number tells

-- an answer about field k of the line
pub answer : (line : List ℕ) (k : ℕ) (f : List ℕ) (r : R.Option ℤ) → r ≡ number_of (read_int f) → f ≡ field_of line k → number_of (read_int (get_or (split 9 line) k [])) ≡ r
answer line k f r e g = sym (e ∙ ap (λ (l : List ℕ). number_of (read_int l)) (g ∙ field_split line k))

pub malformed : (o : Option ℤ) → number_of o ≡ R.None → o ≡ none
malformed none e = refl
malformed (some z) e = let q : ◌≡◌ {A = ℕ} 0 1 = cc in absurd (omega arith)

pub whole : (o : Option ℤ) (y : ℤ) → number_of o ≡ R.Some y → (z : ℤ) × ((o ≡ some z) × (clamp z ≡ y))
whole none y e = let q : ◌≡◌ {A = ℕ} 0 1 = cc in absurd (omega arith)
whole (some z) y e = (z, (refl, cc))

pub clamp_id : (z : ℤ) → nat_abs z ≤ number_most → clamp z ≡ z
clamp_id (pos n) h = ap pos (omega arith)
clamp_id (negsuc n) h = ap negsuc (omega arith)

-- ---- as many numbers as one likes

-- the fields from index k on are these numbers, as the code tells them apart
abbrev pub Numbers : List (List ℕ) → ℕ → List ℤ → Type 0
Numbers ps k [] = Unit {0}
Numbers ps k (y ∷ ys) = (number_of (read_int (get_or ps k [])) ≡ R.Some y) × Numbers ps (suc k) ys

pub numbers_read : (ps : List (List ℕ)) (k : ℕ) (ys : List ℤ) → length ps ≡ k + length ys → Numbers ps k ys → (zs : List ℤ) × ((read_ints (drop k ps) ≡ some zs) × (map clamp zs ≡ ys))
numbers_read ps k [] h n = ([], (ints_end ps k (omega arith), refl))
numbers_read ps k (y ∷ ys) h n =
    let w = whole (read_int (get_or ps k [])) y n.0 in
    let m = numbers_read ps (suc k) ys (omega arith) n.1 in
    (w.0 ∷ m.0, (ints_cons ps k w.0 m.0 (omega arith) w.1.0 m.1.0, λ i. w.1.1 i ∷ m.1.1 i))

-- ---- reading and writing

-- numbers → fields → numbers
pub ints_text : (zs : List ℤ) → read_ints (map int_text zs) ≡ some zs
ints_text [] = refl
ints_text (z ∷ zs) = rw (read_int_int_text z, ints_text zs)

both_some : (o : Option ℤ) (p : Option (List ℤ)) (zs : List ℤ) → both o p ≡ some zs → (y : ℤ) × (ys : List ℤ) × (o ≡ some y) × (p ≡ some ys) × (y ∷ ys ≡ zs)
both_some none p zs e = let q : ◌≡◌ {A = ℕ} 0 1 = cc in absurd (omega arith)
both_some (some y) none zs e = let q : ◌≡◌ {A = ℕ} 0 1 = cc in absurd (omega arith)
both_some (some y) (some ys) zs e = (y, ys, refl, refl, cc)

-- fields → numbers → fields
pub text_ints : (fs : List (List ℕ)) (zs : List ℤ) → read_ints fs ≡ some zs → map int_text zs ≡ fs
text_ints [] zs e = let q : [] ≡ zs = cc in ap (map int_text) (sym q)
text_ints (f ∷ fs) zs e =
    let b = both_some (read_int f) (read_ints fs) zs e in
    let h : int_text b.0 ≡ f = int_text_read_int f b.0 b.2 in
    let t : map int_text b.1 ≡ fs = text_ints fs b.1 b.3 in
    ap (map int_text) (sym b.4) ∙ ap (λ (l : List ℕ). l ∷ map int_text b.1) h ∙ ap (λ (l : List (List ℕ)). f ∷ l) t

pub length_ints : (fs : List (List ℕ)) (zs : List ℤ) → read_ints fs ≡ some zs → length zs ≡ length fs
length_ints [] zs e = let q : [] ≡ zs = cc in ap length (sym q)
length_ints (f ∷ fs) zs e =
    let b = both_some (read_int f) (read_ints fs) zs e in
    ap length (sym b.4) ∙ ap suc (length_ints fs b.1 b.3)

pub ints_free : (c : ℕ) (zs : List ℤ) → c < 45 → AllFree c (map int_text zs)
ints_free c [] l = tt
ints_free c (z ∷ zs) l = (int_text_free c z l, ints_free c zs l)
