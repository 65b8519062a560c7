-- Document 01's refusals: a number and its place, 0 and 0 where nothing is refused; what a verdict refuses; refusals tried one after the
-- other, over any answer that can be a refusal; and what lent memory holds afterwards.
use Rattle.std.specs.Prelude.{ℕ, ◌+◌, ◌≡◌, Bool, true, cond, ◌&&◌, leb, eqb, Result, Ok, Err, ⊤}
use Rattle.numbers.specs.First.{first, some}
use Rattle.group.specs.declared.Refusal.{Refusal}

abbrev pub refusal : ℕ → ℕ → Refusal
refusal number place = record { number = number; place = place }

-- nothing is refused
abbrev pub no_refusal : Refusal
no_refusal = refusal 0 0

-- the number stands in document 01's table of refusals
abbrev pub in_table : ℕ → Bool
in_table number = leb 1 number && leb number 13

-- what an answer refuses
abbrev pub refusal_of : {A : Type 0} → Result A Refusal → Refusal
refusal_of (Ok x) = no_refusal
refusal_of (Err r) = r

-- whether it is one
abbrev pub verdict_of : {A : Type 0} → Result A Refusal → Result ⊤ Refusal
verdict_of (Ok x) = Ok tt
verdict_of (Err r) = Err r

-- ---- one refusal after the other: `refused` is how the answer says a refusal

module _ {A : Type 0} (refused : Refusal → A) where
  -- the refusal where a test is true, else what follows
  unfoldable pub refuse_if : Bool → (number place : ℕ) → A → A
  refuse_if t number place next = cond t (refused (refusal number place)) next

  -- the first of n entries that a test names is refused, its place counted from base; where it names none, what follows
  unfoldable pub refuse_first : (ℕ → Bool) → (n number base : ℕ) → A → A
  refuse_first test n number base next = refuse_if (some test n) number (first test n + base) next

  -- the verdict where it is a refusal, else what follows
  abbrev pub unless_refused : Result ⊤ Refusal → A → A
  unless_refused (Err r) next = refused r
  unless_refused (Ok tt) next = next

-- ---- what a call tells and leaves

-- r is what a call told that is accepted exactly where A holds
pub record Told (A : Type 0) (r : Refusal) : Type 0 where
  pub accepted : A → r ≡ no_refusal
  pub zero : r.number ≡ 0 → A
  pub refused : (A → ⊥) → in_table r.number ≡ true

-- lent memory: its new content where nothing is refused, else as it was
unfoldable pub lent_after : {B : Type 0} → Refusal → B → B → B
lent_after r new old = cond (eqb r.number 0) new old
