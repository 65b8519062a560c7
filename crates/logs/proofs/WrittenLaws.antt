-- What writing a line answers and leaves, by what the lookup answers and by the room; and that a record that was stored is answered as it was.
use Prim.Native.Nat.{ℕ, ◌<◌, ◌≤◌}
use mathlib.Core.Path.{◌≡◌, refl, sym, ap, ◌∙◌}
use mathlib.Core.List.{List, []}
use borrow.Author.Tests.{lt-ltb, le-ltb}
use lib.Dec.{ltb}
use lib.IntN.{ℤ}
use lib.ListN.{length}
use Rattle.text.specs.Put.{put}
use Rattle.group.specs.declared.Group.{Group}
use Rattle.group.specs.declared.Position.{Position}
use Rattle.group.specs.declared.Refusal.{Refusal}
use Rattle.group.specs.Refusals.{refusal, no_refusal, lent_after, refusal_of}
use Rattle.group.proofs.RefusalLaws.{if_here, if_past, not_zero, lent_new, lent_kept, no_answer}
use Rattle.abi.specs.Abi.{group_of_words, numbers_of, MachineGroup}
use Rattle.judge.specs.Judge.{judged}
use Rattle.judge.proofs.StoredLaws.{stored_judged, stored_back}
use Rattle.fix.specs.declared.Fix.{Fix}
use Rattle.lookup.specs.Lookup.{looked}
use Rattle.lookup.proofs.StageLaws.{looked_group}
use Rattle.lookup.proofs.Demand2.{demand_2}
use Rattle.exercise.specs.Exercise.{point_at}
use Rattle.logs.specs.Writing.{line_text, found_written, found_after, line_written, line_after}
use Rattle.std.specs.Prelude.{Result, Ok, Err, ⊤}

-- ---- a fix

module _ (g : Group) (p : Position) (f : Fix) (out : List ℕ) where
  -- what is left, by the answer
  left : (w : Result ℕ Refusal) → w ≡ found_written g p (length out) (Ok f)
      → lent_after (refusal_of w) (put 0 (line_text g p f) out) out ≡ found_after g p (Ok f) out
  left w e = ap (λ (x : Result ℕ Refusal). lent_after (refusal_of x) (put 0 (line_text g p f) out) out) e

  pub fix_short : length out < length (line_text g p f)
      → (Err (refusal 12 0) ≡ found_written g p (length out) (Ok f)) × (out ≡ found_after g p (Ok f) out)
  fix_short h =
      let a = sym (if_here Err (ltb (length out) (length (line_text g p f))) 12 0 (Ok (length (line_text g p f))) (lt-ltb _ _ h)) in
      (a, sym (lent_kept (refusal 12 0) (put 0 (line_text g p f) out) out (not_zero 12 refl)) ∙ left (Err (refusal 12 0)) a)

  pub fix_count : (n : ℕ) (after : List ℕ) → n ≡ length (line_text g p f) → length (line_text g p f) ≤ length out → after ≡ put 0 (line_text g p f) out
      → (Ok n ≡ found_written g p (length out) (Ok f)) × (after ≡ found_after g p (Ok f) out)
  fix_count n after e h q =
      let a = ap Ok e ∙ sym (if_past Err (ltb (length out) (length (line_text g p f))) 12 0 (Ok (length (line_text g p f))) (le-ltb _ _ h)) in
      (a, q ∙ sym (lent_new no_refusal (put 0 (line_text g p f) out) out refl) ∙ left (Ok n) a)

-- ---- a refused lookup

module _ (g : Group) (nodes : List ℤ) (p : Position) (r : Refusal) (e : looked g nodes (point_at p) p.day ≡ Err r) where
  -- its number isn't 0
  refused_number : r.number ≡ 0 → ⊥
  refused_number z =
      let w = (demand_2 g nodes (point_at p) p.day).zero.0 (ap (λ (l : Result Fix Refusal). (refusal_of l).number) e ∙ z) in
      no_answer w.0 r (sym e ∙ w.1)

  pub lookup_refused : (out : List ℕ) → (Err r ≡ line_written g nodes p (length out)) × (out ≡ line_after g nodes p out)
  unfolding line_written line_after
  lookup_refused out = (
    ap (found_written g p (length out)) (sym e),
    sym (lent_kept r (put 0 [] out) out refused_number) ∙ ap (λ (l : Result Fix Refusal). found_after g p l out) (sym e),
  )

-- ---- a record that was stored

module _ (g : Group) (h : MachineGroup g) (nodes : List ℤ) (p : Position) where
  -- what a refusal tells is the same of every group
  told_stored : {A : Type 0} (told : Group → Result Fix Refusal → A) → ((x : Group) (r : Refusal) → told x (Err r) ≡ told g (Err r))
      → told (group_of_words (numbers_of g)) (looked (group_of_words (numbers_of g)) nodes (point_at p) p.day) ≡ told g (looked g nodes (point_at p) p.day)
  told_stored {A} told same = go (judged g) refl
    where
      go : (v : Result ⊤ Refusal) → judged g ≡ v
          → told (group_of_words (numbers_of g)) (looked (group_of_words (numbers_of g)) nodes (point_at p) p.day) ≡ told g (looked g nodes (point_at p) p.day)
      go (Ok tt) e = ap (λ (x : Group). told x (looked x nodes (point_at p) p.day)) (stored_back g h e)
      go (Err r) e =
          ap (told (group_of_words (numbers_of g))) (looked_group (group_of_words (numbers_of g)) nodes (point_at p) p.day r (stored_judged g h ∙ e))
          ∙ same (group_of_words (numbers_of g)) r
          ∙ ap (told g) (sym (looked_group g nodes (point_at p) p.day r e))

  pub written_stored : (room : ℕ) → line_written (group_of_words (numbers_of g)) nodes p room ≡ line_written g nodes p room
  unfolding line_written
  written_stored room = told_stored (λ x l. found_written x p room l) (λ x r. refl)

  pub after_stored : (out : List ℕ) → line_after (group_of_words (numbers_of g)) nodes p out ≡ line_after g nodes p out
  unfolding line_after
  after_stored out = told_stored (λ x l. found_after x p l out) (λ x r. refl)
