-- Refusals tried one after the other, once for every answer: which stage refuses, which is passed, and what a chain of them tells.
use Prim.Native.Nat.{ℕ, ◌+◌, ◌<◌, ◌≤◌}
use mathlib.Core.Path.{◌≡◌, refl, sym, ◌∙◌, ap, subst}
use mathlib.Core.Bool.{Bool, true, false}
use native.Mathlib.Omega.{arith}
use borrow.Author.Tests.{lt-ltb, le-ltb, eq-eqb, ne_eqb}
use Rattle.numbers.specs.First.{first, some}
use Rattle.numbers.proofs.Bools.{true_false}
use Rattle.numbers.proofs.FirstLaws.{first_same, some_same}
use Rattle.group.specs.declared.Refusal.{Refusal}
use Rattle.group.specs.Refusals.{refusal, no_refusal, in_table, refusal_of, refuse_if, refuse_first, unless_refused, Told, lent_after}
use Rattle.std.specs.Prelude.{Result, Ok, Err, ⊤}

-- ---- a stage that refuses, and one that is passed

module _ {A : Type 0} (refused : Refusal → A) where
  -- by the value of its test
  module _ (t : Bool) (number place : ℕ) (next : A) where
    pub if_here : t ≡ true → refuse_if refused t number place next ≡ refused (refusal number place)
    unfolding refuse_if
    if_here e = rw e refl

    pub if_past : t ≡ false → refuse_if refused t number place next ≡ next
    unfolding refuse_if
    if_past e = rw e refl

  module _ (test : ℕ → Bool) (n number base : ℕ) (next : A) where
    pub first_here : some test n ≡ true → refuse_first refused test n number base next ≡ refused (refusal number (first test n + base))
    unfolding refuse_first
    first_here e = if_here (some test n) number (first test n + base) next e

    pub first_past : some test n ≡ false → refuse_first refused test n number base next ≡ next
    unfolding refuse_first
    first_past e = if_past (some test n) number (first test n + base) next e

  -- two stages whose tests agree, and what follows agrees where neither refuses
  pub if_same : (s t : Bool) (number place : ℕ) (x y : A) → s ≡ t → (t ≡ false → x ≡ y) → refuse_if refused s number place x ≡ refuse_if refused t number place y
  if_same s true number place x y e f = if_here s number place x e ∙ sym (if_here true number place y refl)
  if_same s false number place x y e f = if_past s number place x e ∙ f refl ∙ sym (if_past false number place y refl)

  pub stage_same : (p q : ℕ → Bool) (m n number b c : ℕ) (x y : A) → m ≡ n → b ≡ c → ((k : ℕ) → k < n → p k ≡ q k) → (some q n ≡ false → x ≡ y)
      → refuse_first refused p m number b x ≡ refuse_first refused q n number c y
  unfolding refuse_first
  stage_same p q m n number b c x y e f s t =
      let i = first_same p q n s in
      (λ j. refuse_if refused (some p (e j)) number (first p (e j) + f j) x)
      ∙ (λ j. refuse_if refused (some p n) number (i j + c) x)
      ∙ if_same (some p n) (some q n) number (first q n + c) x y (some_same p q n s) t

  -- by the answer of the loop that looks for the first entry
  module _ (test : ℕ → Bool) (n number base : ℕ) (next : A) (i : ℕ) (e : i ≡ first test n) where
    some_here : i < n → some test n ≡ true
    some_here l = lt-ltb _ _ (subst (λ (m : ℕ). m < n) e l)

    some_past : n ≤ i → some test n ≡ false
    some_past l = le-ltb _ _ (subst (λ (m : ℕ). n ≤ m) e l)

    pub at_here : i < n → refused (refusal number (i + base)) ≡ refuse_first refused test n number base next
    at_here l = ap (λ (m : ℕ). refused (refusal number (m + base))) e ∙ sym (first_here test n number base next (some_here l))

    pub at_past : n ≤ i → refuse_first refused test n number base next ≡ next
    at_past l = first_past test n number base next (some_past l)

  -- by what the chain answers: where that is no refusal, no stage before it refused
  module _ (x : A) (apart : (r : Refusal) → refused r ≡ x → ⊥) where
    pub passed_if : (t : Bool) (number place : ℕ) (next : A) → refuse_if refused t number place next ≡ x → (t ≡ false) × (next ≡ x)
    unfolding refuse_if
    passed_if true number place next e = absurd (apart (refusal number place) e)
    passed_if false number place next e = (refl, e)

    pub passed_first : (test : ℕ → Bool) (n number base : ℕ) (next : A) → refuse_first refused test n number base next ≡ x
        → (some test n ≡ false) × (next ≡ x)
    unfolding refuse_first
    passed_first test n number base next e = passed_if (some test n) number (first test n + base) next e

    pub passed_verdict : (v : Result ⊤ Refusal) (next : A) → unless_refused refused v next ≡ x → (v ≡ Ok tt) × (next ≡ x)
    passed_verdict (Ok tt) next e = (refl, e)
    passed_verdict (Err r) next e = absurd (apart r e)

  -- a verdict that is one after another refuses as they do in turn
  pub in_turn : (v w : Result ⊤ Refusal) (next : A) → unless_refused refused (unless_refused Err v w) next ≡ unless_refused refused v (unless_refused refused w next)
  in_turn (Ok tt) w next = refl
  in_turn (Err r) w next = refl

  -- what holds of its refusals and of the answer at its end holds of a chain
  module _ (P : A → Type 0) where
    pub chain_if : (t : Bool) (number place : ℕ) (next : A) → P (refused (refusal number place)) → P next → P (refuse_if refused t number place next)
    unfolding refuse_if
    chain_if true number place next p q = p
    chain_if false number place next p q = q

    pub chain_verdict : (v : Result ⊤ Refusal) (next : A) → ((r : Refusal) → v ≡ Err r → P (refused r)) → P next → P (unless_refused refused v next)
    chain_verdict (Ok tt) next p q = q
    chain_verdict (Err r) next p q = p r refl

-- a verdict that refuses does not accept
pub no_acceptance : (r : Refusal) → ◌≡◌ {A = Result ⊤ Refusal} (Err r) (Ok tt) → ⊥
no_acceptance r e = let z : ◌≡◌ {A = ℕ} 0 1 = cc in omega arith

-- ---- what a call tells: 0 exactly where it is accepted, else a number of the table

-- no number of the table is 0
pub not_zero : (number : ℕ) → in_table number ≡ true → number ≡ 0 → ⊥
not_zero number t z = true_false t (ap in_table z)

module _ {A : Type 0} where
  pub told_accepted : A → Told A no_refusal
  told_accepted a = record { accepted = λ b. refl; zero = λ z. a; refused = λ n. absurd (n a) }

  pub told_refused : (r : Refusal) → (A → ⊥) → in_table r.number ≡ true → Told A r
  told_refused r n t =
      record {
        accepted = λ a. absurd (n a);
        zero = λ z. absurd (not_zero r.number t z);
        refused = λ m. t;
      }

-- an answer's refusal is the one that it is made of, and such an answer is not accepted
pub record Answers {A : Type 0} (Accepts : A → Type 0) (refusalOf : A → Refusal) (refused : Refusal → A) : Type 0 where
  pub back : (r : Refusal) → refusalOf (refused r) ≡ r
  pub never : (r : Refusal) → Accepts (refused r) → ⊥

pub verdicts : Answers (λ (v : Result ⊤ Refusal). v ≡ Ok tt) refusal_of Err
verdicts = record { back = λ r. refl; never = no_acceptance }

-- so of any answer that is a result
pub no_answer : {A : Type 0} (x : A) (r : Refusal) → ◌≡◌ {A = Result A Refusal} (Err r) (Ok x) → ⊥
no_answer x r e = let z : ◌≡◌ {A = ℕ} 0 1 = cc in omega arith

pub ok_same : {A : Type 0} (x y : A) → ◌≡◌ {A = Result A Refusal} (Ok x) (Ok y) → x ≡ y
ok_same x y e = cc

pub results : {A : Type 0} → Answers (λ (v : Result A Refusal). (x : A) × (v ≡ Ok x)) refusal_of Err
results = record { back = λ r. refl; never = λ r e. no_answer e.0 r e.1 }

-- each stage of a chain tells so where its number stands in the table and what follows tells so
module _ {A : Type 0} {Accepts : A → Type 0} {refusalOf : A → Refusal} {refused : Refusal → A} (k : Answers Accepts refusalOf refused) where
  pub told_by : (r : Refusal) → in_table r.number ≡ true → Told (Accepts (refused r)) (refusalOf (refused r))
  told_by r t = subst (Told (Accepts (refused r))) (sym (k.back r)) (told_refused r (k.never r) t)

  pub told_if : (t : Bool) (number place : ℕ) {next : A} → in_table number ≡ true → Told (Accepts next) (refusalOf next)
      → Told (Accepts (refuse_if refused t number place next)) (refusalOf (refuse_if refused t number place next))
  told_if t number place {next} h after = chain_if refused (λ x. Told (Accepts x) (refusalOf x)) t number place next (told_by (refusal number place) h) after

  pub told_verdict : (v : Result ⊤ Refusal) {next : A} → Told (v ≡ Ok tt) (refusal_of v) → Told (Accepts next) (refusalOf next)
      → Told (Accepts (unless_refused refused v next)) (refusalOf (unless_refused refused v next))
  told_verdict (Ok tt) h after = after
  told_verdict (Err r) h after = told_by r (h.refused (no_acceptance r))

-- ---- what lent memory holds

module _ {B : Type 0} (r : Refusal) (new old : B) where
  pub lent_new : r.number ≡ 0 → lent_after r new old ≡ new
  unfolding lent_after
  lent_new z = rw (eq-eqb r.number 0 z) refl

  pub lent_kept : (r.number ≡ 0 → ⊥) → lent_after r new old ≡ old
  unfolding lent_after
  lent_kept n = rw (ne_eqb r.number 0 n) refl
