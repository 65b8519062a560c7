-- Columns of plain numbers: when their lengths agree, and what a call over them leaves.
use Prim.Native.Nat.{ℕ, ◌*◌}
use mathlib.Core.Path.{◌≡◌, refl, sym, ap, ◌∙◌}
use mathlib.Core.Bool.{Bool, true, ◌&&◌}
use mathlib.Core.List.{List}
use borrow.Author.Tests.{eqb-true}
use lib.Dec.{eqb}
use lib.IntN.{ℤ}
use lib.ListN.{length}
use lib.Seq.{sets}
use Rattle.numbers.proofs.Bools.{and_parts}
use Rattle.group.specs.declared.Group.{Group}
use Rattle.group.specs.Refusals.{no_refusal, lent_after, refusal_of}
use Rattle.group.proofs.RefusalLaws.{lent_new}
use Rattle.abi.specs.Abi.{joined}
use Rattle.abi.proofs.ListLaws.{length_joined, sets_whole}
use Rattle.exercise.specs.Exercise.{many_verdict, answer_words, answer_numbers, answer_at, columns_agree, position_at, columns_after}
use Rattle.exercise.proofs.CallLaws.{many_told, call_agree, refused_lent}
use Rattle.std.specs.Prelude.{Result, Ok, Err, ⊤}
use Rattle.group.specs.declared.Refusal.{Refusal}

pub columns_lengths : (lons lats days results : ℕ) → columns_agree lons lats days results ≡ true → (lats ≡ lons) × (days ≡ lons) × (results ≡ lons * answer_words)
unfolding columns_agree
columns_lengths lons lats days results e =
    let a = and_parts (eqb lats lons && eqb days lons) (eqb results (lons * answer_words)) e in
    let b = and_parts (eqb lats lons) (eqb days lons) a.0 in
    (eqb-true lats lons b.0, eqb-true days lons b.1, eqb-true results (lons * answer_words) a.1)

module _ (g : Group) (nodes lons lats days results : List ℤ) where
  abbrev agree : Bool
  agree = columns_agree (length lons) (length lats) (length days) (length results)

  abbrev numbers_at : ℕ → List ℤ
  numbers_at k = answer_numbers (answer_at g nodes (position_at lons lats days k))

  pub columns_all : many_verdict g (length nodes) agree ≡ Ok tt → sets results 0 (joined numbers_at (length lons)) ≡ columns_after g nodes lons lats days results
  unfolding columns_after
  columns_all e =
      let l = (columns_lengths (length lons) (length lats) (length days) (length results) (call_agree g (length nodes) agree e)).2 in
      sets_whole results (joined numbers_at (length lons)) (l ∙ sym (length_joined numbers_at answer_words (length lons) (λ k b. refl)))
      ∙ sym (ap (λ (w : Result ⊤ Refusal). lent_after (refusal_of w) (joined numbers_at (length lons)) results) e ∙ lent_new no_refusal (joined numbers_at (length lons)) results refl)

  pub columns_kept : (r : Refusal) → many_verdict g (length nodes) agree ≡ Err r → results ≡ columns_after g nodes lons lats days results
  unfolding columns_after
  columns_kept r e = refused_lent (joined numbers_at (length lons)) results (many_verdict g (length nodes) agree) r e (many_told g (length nodes) agree)
