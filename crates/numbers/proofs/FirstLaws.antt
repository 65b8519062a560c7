-- What a loop that looks for the first index shows, once for every test.
use Prim.Native.Nat.{ℕ, zero, suc, ◌+◌, ◌<◌, ◌≤◌, zero-le, suc-le-suc}
use mathlib.Core.Path.{◌≡◌, refl, sym, ◌∙◌, ap, subst}
use mathlib.Core.Bool.{Bool, true, false, cond, not, ◌&&◌, ◌||◌, and-false}
use native.Mathlib.Omega.{arith}
use native.Mathlib.Nat.{le_of_suc-le-suc, not-suc-le-zero}
use borrow.Author.Count.{below_more, below_none}
use lib.Dec.{ltb, eqb}
use native.Mathlib.Decide.{dec_lt}
use borrow.Author.Tests.{leb-true, ltb-true, ltb-false, not-false, lt-ltb, le-ltb, le-leb, eq-eqb, ne_eqb}
use Rattle.numbers.proofs.Bools.{and_left, and_right, both, same_test, true_false}
use Rattle.numbers.specs.First.{first, every, some}

-- none of the indices below i passes, and i is at most n
pub record Passed (p : ℕ → Bool) (n i : ℕ) : Type 0 where
  pub bound : i ≤ n
  pub clear : (k : ℕ) → k < i → p k ≡ false

pub first_none : (p : ℕ → Bool) (n : ℕ) → ((k : ℕ) → k < n → p k ≡ false) → first p n ≡ n
unfolding first
first_none p zero h = refl
first_none p (suc n) h =
    rw (h zero (suc-le-suc zero-le)) (ap suc (first_none (λ i. p (suc i)) n (λ k l. h (suc k) (suc-le-suc l))))

pub first_at : (p : ℕ → Bool) (n i : ℕ) → i < n → ((k : ℕ) → k < i → p k ≡ false) → p i ≡ true → first p n ≡ i
unfolding first
first_at p zero i l h t = absurd (not-suc-le-zero l)
first_at p (suc n) zero l h t = rw t
first_at p (suc n) (suc i) l h t =
    rw (h zero (suc-le-suc zero-le)) (ap suc (first_at (λ i. p (suc i)) n i (le_of_suc-le-suc l) (λ k m. h (suc k) (suc-le-suc m)) t))

-- tests that agree have the same first index
pub first_same : (p q : ℕ → Bool) (n : ℕ) → ((k : ℕ) → k < n → p k ≡ q k) → first p n ≡ first q n
unfolding first
first_same p q zero h = refl
first_same p q (suc n) h =
    rw (h zero (suc-le-suc zero-le), first_same (λ i. p (suc i)) (λ i. q (suc i)) n (λ k l. h (suc k) (suc-le-suc l)))

-- the loop: where it starts, after a turn, where it ends and where it finds
module _ (p : ℕ → Bool) (n : ℕ) where
  pub passed_none : Passed p n 0
  passed_none = record { bound = zero-le; clear = below_none (λ k. p k ≡ false) }

  pub passed_more : (i : ℕ) → Passed p n i → i < n → p i ≡ false → Passed p n (i + 1)
  passed_more i a l e = record { bound = omega arith; clear = below_more (λ k. p k ≡ false) i a.clear e }

  pub passed_end : (i : ℕ) → Passed p n i → n ≤ i → i ≡ first p n
  passed_end i a l =
      let e : i ≡ n = let b = a.bound in omega arith in
      e ∙ sym (first_none p n (λ k m. a.clear k (omega arith)))

  pub passed_found : (i : ℕ) → Passed p n i → i < n → p i ≡ true → i ≡ first p n
  passed_found i a l t = sym (first_at p n i l a.clear t)

-- what the answer says
module _ (b : Bool) (m : ℕ) where
  le_step : (n : ℕ) → m ≤ n → cond b zero (suc m) ≤ suc n
  le_step n h = pick b
    where
      pick : (b : Bool) → cond b zero (suc m) ≤ suc n
      pick true = zero-le
      pick false = suc-le-suc h

pub first_le : (p : ℕ → Bool) (n : ℕ) → first p n ≤ n
unfolding first
first_le p zero = zero-le
first_le p (suc n) = le_step (p zero) (first (λ i. p (suc i)) n) n (first_le (λ i. p (suc i)) n)

-- an index before the first does not pass
before_step : (p : ℕ → Bool) (m : ℕ) (b : Bool) → p zero ≡ b → ((k : ℕ) → k < m → p (suc k) ≡ false) → (k : ℕ) → k < cond b zero (suc m) → p k ≡ false
before_step p m true e h k l = absurd (not-suc-le-zero l)
before_step p m false e h zero l = e
before_step p m false e h (suc k) l = h k (le_of_suc-le-suc l)

pub first_before : (p : ℕ → Bool) (n k : ℕ) → k < first p n → p k ≡ false
unfolding first
first_before p zero k l = absurd (not-suc-le-zero l)
first_before p (suc n) k l = before_step p (first (λ i. p (suc i)) n) (p zero) refl (λ j m. first_before (λ i. p (suc i)) n j m) k l

-- the first passes, where there is one
hit_step : (p : ℕ → Bool) (m n : ℕ) (b : Bool) → p zero ≡ b → (m < n → p (suc m) ≡ true) → cond b zero (suc m) < suc n → p (cond b zero (suc m)) ≡ true
hit_step p m n true e h l = e
hit_step p m n false e h l = h (le_of_suc-le-suc l)

pub first_hit : (p : ℕ → Bool) (n : ℕ) → first p n < n → p (first p n) ≡ true
unfolding first
first_hit p zero l = absurd (not-suc-le-zero l)
first_hit p (suc n) l = hit_step p (first (λ i. p (suc i)) n) n (p zero) refl (λ m. first_hit (λ i. p (suc i)) n m) l

-- of one index more
pub first_more : (p : ℕ → Bool) (n : ℕ) → first p (n + 1) ≡ cond (eqb (first p n) n && not (p n)) (n + 1) (first p n)
first_more p n =
    elim (dec_lt (first p n) n) [
      | yes lt ↦
          first_at p (n + 1) (first p n) (omega arith) (λ k l. first_before p n k l) (first_hit p n lt)
          ∙ sym (ap (λ (b : Bool). cond (b && not (p n)) (n + 1) (first p n)) (ne_eqb (first p n) n (λ e. omega arith)))
      | no ge ↦ let e : first p n ≡ n = omega (arith, first_le p n) in step (p n) refl e
    ]
  where
    step : (b : Bool) → p n ≡ b → first p n ≡ n → first p (n + 1) ≡ cond (eqb (first p n) n && not (p n)) (n + 1) (first p n)
    step true t e =
        first_at p (n + 1) n (omega arith) (λ k l. first_before p n k (omega arith)) t ∙ sym e
        ∙ sym (ap (λ (c : Bool). cond c (n + 1) (first p n)) (ap (λ (d : Bool). eqb (first p n) n && not d) t ∙ and-false (eqb (first p n) n)))
    step false t e =
        first_none p (n + 1) (below_more (λ k. p k ≡ false) n (λ k l. first_before p n k (omega arith)) t)
        ∙ sym (ap (λ (c : Bool). cond c (n + 1) (first p n)) (ap (λ (d : Bool). eqb (first p n) n && not d) t ∙ ap (λ (d : Bool). d && true) (eq-eqb (first p n) n e)))

-- from a test that is false of all, what it says of one
pub none_at : (p : ℕ → Bool) (n k : ℕ) → n ≤ first p n → k < n → p k ≡ false
none_at p n k h l = first_before p n k (omega arith)

pub none_by : (p : ℕ → Bool) (n k : ℕ) → some p n ≡ false → k < n → p k ≡ false
none_by p n k e l = none_at p n k (ltb-false (first p n) n e) l

pub every_at : (p : ℕ → Bool) (n k : ℕ) → every p n ≡ true → k < n → p k ≡ true
every_at p n k e l = not-false (p k) (none_at (λ i. not (p i)) n k (leb-true _ _ e) l)

-- the same of a loop that answers a Bool
module _ (p : ℕ → Bool) (n i : ℕ) where
  pub found_some : Passed p n i → i < n → p i ≡ true → true ≡ some p n
  found_some a l t = sym (lt-ltb _ _ (subst (λ (m : ℕ). m < n) (passed_found p n i a l t) l))

  pub passed_some : Passed p n i → n ≤ i → false ≡ some p n
  passed_some a l = sym (le-ltb _ _ (subst (λ (m : ℕ). n ≤ m) (passed_end p n i a l) l))

pub all_every : (p : ℕ → Bool) (n : ℕ) → ((k : ℕ) → k < n → p k ≡ true) → every p n ≡ true
all_every p n h =
    let e = first_none (λ i. not (p i)) n (λ k l. rw (h k l)) in
    le-leb n (first (λ i. not (p i)) n) (omega arith)

-- a loop that goes through all, with no early answer
pub every_none : (p : ℕ → Bool) → every p 0 ≡ true
every_none p = all_every p 0 (below_none (λ k. p k ≡ true))

pub every_more : (p : ℕ → Bool) (i : ℕ) → every p (i + 1) ≡ (every p i && p i)
every_more p i =
    same_test (every p (i + 1)) (every p i && p i)
    (λ e. both (all_every p i (λ k l. every_at p (i + 1) k e (omega arith))) (every_at p (i + 1) i e (omega arith)))
    (λ e.
    all_every p (i + 1)
    (below_more (λ k. p k ≡ true) i (λ k l. every_at p i k (and_left (every p i) (p i) e) l) (and_right (every p i) (p i) e)))

pub some_same : (p q : ℕ → Bool) (n : ℕ) → ((k : ℕ) → k < n → p k ≡ q k) → some p n ≡ some q n
some_same p q n h = ap (λ (m : ℕ). ltb m n) (first_same p q n h)

-- one that passes, and some that do
module _ (p : ℕ → Bool) (n : ℕ) where
  pub some_by : (i : ℕ) → i < n → p i ≡ true → some p n ≡ true
  some_by i l e =
      lt-ltb (first p n) n
      (elim (dec_lt (first p n) n) [ yes lt ↦ lt | no ge ↦ absurd (true_false e (none_at p n i (omega arith) l)) ])

  pub by_some : some p n ≡ true → (i : ℕ) × (i < n) × (p i ≡ true)
  by_some e = let l = ltb-true (first p n) n e in (first p n, l, first_hit p n l)

-- a test beside a test of an index
pub some_and : (p : ℕ → Bool) (n : ℕ) (b : Bool) → (some p n && b) ≡ some (λ k. p k && b) n
some_and p n b =
    same_test (some p n && b) (some (λ k. p k && b) n)
    (λ e. let i = by_some p n (and_left (some p n) b e) in some_by (λ k. p k && b) n i.0 i.1 (both i.2 (and_right (some p n) b e)))
    (λ e. let i = by_some (λ k. p k && b) n e in both (some_by p n i.0 i.1 (and_left (p i.0) b i.2)) (and_right (p i.0) b i.2))

-- of three
three : (a b c : Bool) → (a || (b || c)) ≡ ltb (cond a zero (suc (cond b zero (suc (cond c zero (suc zero)))))) 3
three true b c = refl
three false true c = refl
three false false true = refl
three false false false = refl

pub some_three : (p : ℕ → Bool) → (p 0 || (p 1 || p 2)) ≡ some p 3
unfolding first
some_three p = three (p 0) (p 1) (p 2)
