-- What the verdict of a call for many points tells, what it leaves, and that a record that was stored is answered as it was.
use Prim.Native.Nat.{ℕ}
use mathlib.Core.Path.{◌≡◌, refl, sym, ap, ◌∙◌}
use mathlib.Core.Bool.{Bool, true, false, not}
use mathlib.Core.List.{List, ◌++◌, map, append-nil}
use borrow.Author.Tests.{eqb-true, not-false}
use lib.Dec.{eqb}
use lib.IntN.{ℤ}
use lib.ListN.{length, drop, length-map}
use lib.Seq.{take-length, drop-length}
use Rattle.numbers.specs.First.{some}
use Rattle.group.specs.declared.Group.{Group}
use Rattle.group.specs.declared.Position.{Position}
use Rattle.group.specs.declared.Refusal.{Refusal}
use Rattle.group.specs.Refusals.{no_refusal, refuse_first, Told, lent_after, refusal_of}
use Rattle.group.proofs.RefusalLaws.{no_acceptance, verdicts, told_accepted, told_if, told_verdict, passed_if, passed_verdict, lent_new, lent_kept}
use Rattle.abi.specs.Abi.{group_of_words, numbers_of, MachineGroup}
use Rattle.judge.specs.Judge.{judged}
use Rattle.judge.proofs.TableLaws.{judged_told}
use Rattle.judge.proofs.StoredLaws.{stored_judged, stored_back, stored_told}
use Rattle.lookup.specs.declared.Answer.{Answer}
use Rattle.lookup.specs.Lookup.{ends_early, nodes_judged}
use Rattle.lookup.proofs.StageLaws.{nodes_accepted}
use Rattle.exercise.specs.declared.Tables.{Tables}
use Rattle.exercise.specs.Exercise.{many_judged, many_verdict, answer_at, results_after, columns_agree, column_numbers, columns_after}
use Rattle.exercise.specs.Tables.{Tabled, CallReady}
use Rattle.exercise.proofs.FilledLaws.{filled}
use Rattle.exercise.proofs.StageLaws.{many_group}
use Rattle.std.specs.Prelude.{Result, Ok, Err, ⊤}

module _ (g : Group) (nodes : ℕ) (agree : Bool) where
  -- its number is 0 exactly where it is accepted, else a number of the table
  pub many_told : Told (many_verdict g nodes agree ≡ Ok tt) (refusal_of (many_verdict g nodes agree))
  unfolding many_verdict many_judged nodes_judged refuse_first
  many_told = told_verdict verdicts (judged g) (judged_told g) (told_if verdicts (not agree) 12 0 refl (told_if verdicts _ 13 _ refl (told_accepted refl)))

  -- an accepted call
  module _ (e : many_verdict g nodes agree ≡ Ok tt) where
    past_group : (judged g ≡ Ok tt) × (many_judged g nodes agree ≡ Ok tt)
    unfolding many_verdict
    past_group = passed_verdict Err (Ok tt) no_acceptance (judged g) (many_judged g nodes agree) e

    past_lengths : (not agree ≡ false) × (nodes_judged g nodes ≡ Ok tt)
    unfolding many_judged
    past_lengths = passed_if Err (Ok tt) no_acceptance (not agree) 12 0 (nodes_judged g nodes) past_group.1

    pub call_judged : judged g ≡ Ok tt
    call_judged = past_group.0

    pub call_agree : agree ≡ true
    call_agree = not-false agree past_lengths.0

    pub call_ends : some (ends_early g nodes) g.grids ≡ false
    call_ends = nodes_accepted g nodes past_lengths.1

    pub call_ready : (tables : Tables) → Tabled g tables → CallReady g nodes tables
    call_ready tables t = record { accepted = call_judged; ends = call_ends; tabled = t }

-- ---- what a call leaves: all points answered where it is accepted, and else the list as it was

pub filled_lent : {A : Type 0} (new old : List A) (v : Result ⊤ Refusal) → v ≡ Ok tt → length new ≡ length old
    → filled new old (length new) ≡ lent_after (refusal_of v) new old
filled_lent new old v e l =
    (λ i. take-length new i ++ drop (l i) old) ∙ (λ i. new ++ drop-length old i) ∙ append-nil new
    ∙ sym (ap (λ (w : Result ⊤ Refusal). lent_after (refusal_of w) new old) e ∙ lent_new no_refusal new old refl)

pub refused_lent : {A : Type 0} (new old : List A) (v : Result ⊤ Refusal) (r : Refusal) → v ≡ Err r → Told (v ≡ Ok tt) (refusal_of v)
    → old ≡ lent_after (refusal_of v) new old
refused_lent new old v r e t = sym (lent_kept (refusal_of v) new old (λ z. no_acceptance r (sym e ∙ t.zero z)))

module _ (g : Group) (nodes : List ℤ) (points : List Position) (results : List Answer) where
  abbrev agree : Bool
  agree = eqb (length points) (length results)

  pub results_all : many_verdict g (length nodes) agree ≡ Ok tt → filled (map (answer_at g nodes) points) results (length points) ≡ results_after g nodes points results
  unfolding results_after
  results_all e =
      let l = length-map points (answer_at g nodes) in
      ap (filled (map (answer_at g nodes) points) results) (sym l)
      ∙ filled_lent (map (answer_at g nodes) points) results (many_verdict g (length nodes) agree) e
      (l ∙ eqb-true (length points) (length results) (call_agree g (length nodes) agree e))

  pub results_kept : (r : Refusal) → many_verdict g (length nodes) agree ≡ Err r → results ≡ results_after g nodes points results
  unfolding results_after
  results_kept r e = refused_lent (map (answer_at g nodes) points) results (many_verdict g (length nodes) agree) r e (many_told g (length nodes) agree)

-- ---- a record that was stored

module _ (g : Group) (h : MachineGroup g) where
  pub many_stored : (nodes : ℕ) (agree : Bool) → many_verdict (group_of_words (numbers_of g)) nodes agree ≡ many_verdict g nodes agree
  unfolding many_verdict
  many_stored nodes agree = stored_told g h Err (λ x. many_judged x nodes agree)

  -- so is what is left of every list
  lent_stored : {A : Type 0} (new : Group → List A) (old : List A) (nodes : ℕ) (agree : Bool)
      → lent_after (refusal_of (many_verdict (group_of_words (numbers_of g)) nodes agree)) (new (group_of_words (numbers_of g))) old
      ≡ lent_after (refusal_of (many_verdict g nodes agree)) (new g) old
  lent_stored {A} new old nodes agree = go (judged g) refl
    where
      go : (v : Result ⊤ Refusal) → judged g ≡ v
          → lent_after (refusal_of (many_verdict (group_of_words (numbers_of g)) nodes agree)) (new (group_of_words (numbers_of g))) old
          ≡ lent_after (refusal_of (many_verdict g nodes agree)) (new g) old
      go (Ok tt) e = ap (λ (x : Group). lent_after (refusal_of (many_verdict x nodes agree)) (new x) old) (stored_back g h e)
      go (Err r) e =
          kept (group_of_words (numbers_of g)) r (stored_judged g h ∙ e) ∙ sym (kept g r e)
        where
          kept : (x : Group) (r : Refusal) → judged x ≡ Err r → lent_after (refusal_of (many_verdict x nodes agree)) (new x) old ≡ old
          kept x r e =
              lent_kept (refusal_of (many_verdict x nodes agree)) (new x) old
              (λ z. no_acceptance r (sym (many_group x nodes agree r e) ∙ (many_told x nodes agree).zero z))

  pub results_stored : (nodes : List ℤ) (points : List Position) (results : List Answer)
      → results_after (group_of_words (numbers_of g)) nodes points results ≡ results_after g nodes points results
  unfolding results_after
  results_stored nodes points results = lent_stored (λ x. map (answer_at x nodes) points) results (length nodes) (eqb (length points) (length results))

  pub columns_stored : (nodes lons lats days results : List ℤ)
      → columns_after (group_of_words (numbers_of g)) nodes lons lats days results ≡ columns_after g nodes lons lats days results
  unfolding columns_after
  columns_stored nodes lons lats days results =
      lent_stored (λ x. column_numbers x nodes lons lats days) results (length nodes) (columns_agree (length lons) (length lats) (length days) (length results))
