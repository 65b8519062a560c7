-- The table's rows in their order: they refuse in one way, and each stage of a chain of refusals stands for its row, whatever the answer is
-- that can be a refusal.
use Prim.Native.Nat.{ℕ, suc, ◌+◌}
use mathlib.Core.Path.{◌≡◌, refl, sym, ap, ◌∙◌, subst}
use mathlib.Core.Bool.{Bool, true, false}
use mathlib.Core.List.{List}
use mathlib.Core.Logic.{inl, inr, ◌↔◌}
use native.Mathlib.Omega.{arith}
use native.Mathlib.Decide.{dec_lt}
use borrow.Author.Tests.{ltb-true, ltb-false, lt-ltb}
use lib.IntN.{ℤ}
use lib.ListN.{length}
use Rattle.numbers.specs.First.{first, some}
use Rattle.numbers.proofs.Bools.{true_false}
use Rattle.numbers.proofs.FirstLaws.{first_before, first_hit, none_at}
use Rattle.group.specs.declared.Group.{Group}
use Rattle.group.specs.declared.Refusal.{Refusal}
use Rattle.group.specs.Refusals.{refusal, refuse_if, refuse_first, unless_refused, refusal_of}
use Rattle.group.proofs.RefusalLaws.{no_acceptance}
use Rattle.judge.specs.Judge.{judged}
use Rattle.lookup.specs.Lookup.{ends_early}
use Rattle.lookup.specs.Demand2.{EndsBefore, Judged, TableRow, ShortList, NothingRefused, ◌then◌}
use Rattle.std.specs.Prelude.{Result, Ok, Err, ⊤}

-- ---- rows in their order refuse in one way

abbrev pub Single : (Refusal → Type 0) → Type 0
Single R = (r s : Refusal) → R r → R s → r ≡ s

pub single_then : (First Next : Refusal → Type 0) → Single First → Single Next → Single (First then Next)
single_then First Next a b r s (inl h) (inl k) = a r s h k
single_then First Next a b r s (inl h) (inr k) = absurd (k.0 r h)
single_then First Next a b r s (inr h) (inl k) = absurd (h.0 s k)
single_then First Next a b r s (inr h) (inr k) = b r s h.1 k.1

pub single_row : (n : ℕ) (When : Type 0) → Single (TableRow n When)
single_row n When r s h k = h.0 ∙ sym k.0

pub single_judged : (g : Group) → Single (Judged g)
single_judged g r s h k = ap refusal_of (sym h ∙ k)

pub single_none : Single NothingRefused
single_none r s h k = h ∙ sym k

-- a row that never applies may be left out, and so it may behind another
pub then_drop : (First Next : Refusal → Type 0) → ((r : Refusal) → First r → ⊥) → (r : Refusal) → (First then Next) r ↔ Next r
then_drop First Next never r = (there, λ h. inr (never, h))
  where
    there : (First then Next) r → Next r
    there (inl h) = absurd (never r h)
    there (inr h) = h.1

pub then_same : (First Next Other : Refusal → Type 0) → ((r : Refusal) → Next r ↔ Other r) → (r : Refusal) → (First then Next) r ↔ (First then Other) r
then_same First Next Other same r = (there, back)
  where
    there : (First then Next) r → (First then Other) r
    there (inl h) = inl h
    there (inr h) = inr (h.0, (same r).0 h.1)

    back : (First then Other) r → (First then Next) r
    back (inl h) = inl h
    back (inr h) = inr (h.0, (same r).1 h.1)

-- ---- 13: the lowest grid whose range ends behind the list

module _ (g : Group) (nodes : List ℤ) where
  abbrev early : ℕ → Bool
  early = ends_early g (length nodes)

  pub first_ends : some early g.grids ≡ true → EndsBefore g nodes (first early g.grids)
  first_ends e =
      let l = ltb-true (first early g.grids) g.grids e in
      record {
        among = l;
        early = ltb-true _ _ (first_hit early g.grids l);
        lowest = λ j h. ltb-false _ _ (first_before early g.grids j h);
      }

  pub none_ends : some early g.grids ≡ false → (r : Refusal) → ShortList g nodes r → ⊥
  none_ends e r h =
      let b = h.2 in
      true_false (lt-ltb _ _ b.early) (none_at early g.grids h.0 (ltb-false (first early g.grids) g.grids e) b.among)

  one_ends : (j k : ℕ) → EndsBefore g nodes j → EndsBefore g nodes k → j ≡ k
  one_ends j k a b =
      elim (dec_lt j k) [
        | yes lt ↦ absurd (omega (arith, a.early, b.lowest j lt))
        | no ge ↦ elim (dec_lt k j) [ yes lt ↦ absurd (omega (arith, b.early, a.lowest k lt)) | no ge₂ ↦ omega arith ]
      ]

  pub single_short : Single (ShortList g nodes)
  single_short r s h k = h.1 ∙ ap (λ (m : ℕ). refusal 13 (suc m)) (one_ends h.0 k.0 h.2 k.2) ∙ sym k.1

-- ---- a stage of a chain and the row that it stands for

module _ {A : Type 0} (refused : Refusal → A) (refusalOf : A → Refusal) (back : (r : Refusal) → refusalOf (refused r) ≡ r) where
  stage : (Now Next : Refusal → Type 0) (b : Bool) (n q : ℕ) (next : A) → (b ≡ true → Now (refusal n q)) → (b ≡ false → (r : Refusal) → Now r → ⊥)
      → (b ≡ false → Next (refusalOf next)) → (Now then Next) (refusalOf (refuse_if refused b n q next))
  unfolding refuse_if
  stage Now Next true n q next yea nay on = inl (subst Now (sym (back (refusal n q))) (yea refl))
  stage Now Next false n q next yea nay on = inr (nay refl, on refl)

  pub row_stage : (When : Type 0) (Next : Refusal → Type 0) (b : Bool) (n : ℕ) (next : A) → (b ≡ true → When) → (b ≡ false → When → ⊥)
      → (b ≡ false → Next (refusalOf next)) → (TableRow n When then Next) (refusalOf (refuse_if refused b n 0 next))
  row_stage When Next b n next yea nay on = stage (TableRow n When) Next b n 0 next (λ e. (refl, yea e)) (λ e r h. nay e h.1) on

  pub short_stage : (Next : Refusal → Type 0) (g : Group) (nodes : List ℤ) (next : A) → (some (ends_early g (length nodes)) g.grids ≡ false → Next (refusalOf next))
      → (ShortList g nodes then Next) (refusalOf (refuse_first refused (ends_early g (length nodes)) g.grids 13 1 next))
  unfolding refuse_first
  short_stage Next g nodes next on =
      stage (ShortList g nodes) Next (some (early g nodes) g.grids) 13 (first (early g nodes) g.grids + 1) next
      (λ e. (first (early g nodes) g.grids, ap (refusal 13) (omega arith), first_ends g nodes e))
      (none_ends g nodes) on

  pub judge_stage : (Next : Refusal → Type 0) (g : Group) (next : A) → (judged g ≡ Ok tt → Next (refusalOf next))
      → (Judged g then Next) (refusalOf (unless_refused refused (judged g) next))
  judge_stage Next g next on = go (judged g) refl
    where
      go : (v : Result ⊤ Refusal) → judged g ≡ v → (Judged g then Next) (refusalOf (unless_refused refused v next))
      go (Ok tt) e = inr (λ r h. no_acceptance r (sym h ∙ e), on e)
      go (Err r) e = inl (subst (Judged g) (sym (back r)) e)
