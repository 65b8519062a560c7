-- Fields as numbers, one after the other.
use Prim.Native.Nat.{ℕ, suc, ◌+◌, ◌<◌, ◌≤◌}
use mathlib.Core.Path.{◌≡◌, refl, sym, ap, ◌∙◌}
use mathlib.Core.Bool.{Bool, true, false, cond}
use mathlib.Core.List.{List, [], ◌∷◌, map}
use mathlib.Core.Option as M
use mathlib.Core.Option.{none, some}
use native.Mathlib.Omega.{arith}
use lib.Dec.{eqb}
use lib.IntN.{ℤ, pos}
use lib.ListN.{length, get_or, set, take, drop, length-drop}
use lib.Seq.{get_or-take, get_or-drop, get_or-set_same, get_or-set_other, length-take-le}
use borrow.Author.Tests.{eqb-true, eq-eqb, ne_eqb}
use Rattle.numbers.proofs.Bools.{true_false}
use Rattle.numbers.proofs.Nearest.{three_ways}
use Rattle.text.specs.Decimal.{read_int}
use Rattle.text.specs.Number.{clamp, number_of}
use Rattle.text.specs.Fields.{read_ints}
use Rattle.std.specs.Bool.{then_some}
use Rattle.std.specs.Prelude as R
use Rattle.text.proofs.FieldLaws.{Numbers, numbers_read, ints_bad, length_ints, malformed}
use Rattle.line.specs.Numbers.{read_count, as_read, NumbersRead}

-- ---- n fields from `first` on

-- field j of them is number j
abbrev pub NumbersTo : List (List ℕ) → (first n : ℕ) → List ℤ → Type 0
NumbersTo ps first n ys = (j : ℕ) → j < n → number_of (read_int (get_or ps (first + j) [])) ≡ R.Some (get_or ys j (pos 0))

each_number : (ps : List (List ℕ)) (k : ℕ) (ys : List ℤ) → NumbersTo ps k (length ys) ys → Numbers ps k ys
each_number ps k [] h = tt
each_number ps k (y ∷ ys) h =
    let a : k + 0 ≡ k = omega arith in
    let b : (j : ℕ) → k + suc j ≡ suc k + j = λ j. omega arith in (
      ap (λ (i : ℕ). number_of (read_int (get_or ps i []))) (sym a) ∙ h 0 (omega arith),
      each_number ps (suc k) ys (λ j l. ap (λ (i : ℕ). number_of (read_int (get_or ps i []))) (sym (b j)) ∙ h (suc j) (omega arith)),
    )

module _ (ps : List (List ℕ)) (first n : ℕ) (h : first + n ≤ length ps) where
  abbrev taken : List (List ℕ)
  taken = take n (drop first ps)

  taken_length : length taken ≡ n
  taken_length = let d = length-drop first ps in length-take-le n (drop first ps) (omega arith)

  taken_at : (j : ℕ) → j < n → get_or taken j [] ≡ get_or ps (first + j) []
  taken_at j l = get_or-take n (drop first ps) j [] l ∙ get_or-drop first ps j []

  numbers_good : (ys : List ℤ) → length ys ≡ n → NumbersTo ps first n ys → (zs : List ℤ) × (read_ints taken ≡ some zs) × (map clamp zs ≡ ys)
  numbers_good ys l f =
      let m = taken_length in
      let w = numbers_read taken 0 ys (omega arith)
      (each_number taken 0 ys (λ j b. ap (λ (i : ℕ). number_of (read_int (get_or taken i []))) (zero_add j) ∙ ap (λ (t : List ℕ). number_of (read_int t)) (taken_at j (omega arith)) ∙ f j (omega arith))) in
      (w.0, w.1.0, w.1.1)
    where
      zero_add : (j : ℕ) → 0 + j ≡ j
      zero_add j = omega arith

  numbers_bad : (k : ℕ) → k < n → number_of (read_int (get_or ps (first + k) [])) ≡ R.None → read_ints taken ≡ none
  numbers_bad k l f =
      let m = taken_length in
      ints_bad taken 0 k (omega arith) (omega arith) (malformed (read_int (get_or taken k [])) (ap (λ (t : List ℕ). number_of (read_int t)) (taken_at k l) ∙ f))

  pub numbers_read_good : (ys : List ℤ) (k : ℕ) → length ys ≡ n → n ≤ k → NumbersTo ps first k ys → NumbersRead (read_ints taken) true ys
  numbers_read_good ys k l h f = record { good = λ e. numbers_good ys l (λ j b. f j (omega arith)); bad = λ e. absurd (true_false refl e) }

  pub numbers_read_bad : (ys : List ℤ) (k : ℕ) → k < n → number_of (read_int (get_or ps (first + k) [])) ≡ R.None → NumbersRead (read_ints taken) false ys
  numbers_read_bad ys k l f = record { good = λ e. absurd (true_false e refl); bad = λ e. numbers_bad k l f }

-- what the reading of numbers tells, as an answer
pub numbers_given : {read : M.Option (List ℤ)} {ys : List ℤ} (r : Bool) → NumbersRead read r ys → then_some r ys ≡ as_read read
numbers_given true w = let g = w.good refl in sym (ap as_read g.1 ∙ ap R.Some g.2)
numbers_given false w = sym (ap as_read (w.bad refl))

-- one number more
pub numbers_more : (ps : List (List ℕ)) (first k : ℕ) (ys : List ℤ) (y : ℤ) → k < length ys → NumbersTo ps first k ys
    → number_of (read_int (get_or ps (first + k) [])) ≡ R.Some y → NumbersTo ps first (k + 1) (set ys k y)
numbers_more ps first k ys y l f e j h =
    three_ways j k
    (λ b. f j b ∙ ap R.Some (sym (get_or-set_other ys k j y (pos 0) (λ q. omega arith))))
    (λ q. ap (λ (i : ℕ). number_of (read_int (get_or ps (first + i) []))) q ∙ e ∙ ap R.Some (sym (get_or-set_same ys k y (pos 0) l) ∙ ap (λ (i : ℕ). get_or (set ys k y) i (pos 0)) (sym q)))
    (λ b. absurd (omega arith))

-- ---- all fields

module _ (n : ℕ) (fs : List (List ℕ)) where
  pub count_other : (length fs ≡ n → ⊥) → R.None ≡ as_read (read_count n fs)
  count_other h = sym (ap (λ (t : Bool). as_read (cond t (read_ints fs) none)) (ne_eqb (length fs) n h))

  pub count_same : length fs ≡ n → read_ints fs ≡ read_count n fs
  count_same e = sym (ap (λ (t : Bool). cond t (read_ints fs) none) (eq-eqb (length fs) n e))

  pub count_length : (zs : List ℤ) → read_count n fs ≡ some zs → length zs ≡ n
  count_length zs e = go (eqb (length fs) n) refl e
    where
      go : (t : Bool) → eqb (length fs) n ≡ t → cond t (read_ints fs) none ≡ some zs → length zs ≡ n
      go true p q = length_ints fs zs q ∙ eqb-true (length fs) n p
      go false p q = let x : ◌≡◌ {A = ℕ} 0 1 = cc in absurd (omega arith)
