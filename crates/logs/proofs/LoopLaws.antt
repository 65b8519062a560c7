-- What the loop over the lines of a log meets, and the verdict of the whole call.
use Prim.Native.Nat.{ℕ, suc, ◌+◌, ◌-◌, ◌<◌, ◌≤◌}
use mathlib.Core.Path.{◌≡◌, refl, sym, ap, ◌∙◌}
use mathlib.Core.Bool.{true}
use mathlib.Core.List.{List, [], ◌∷◌}
use native.Mathlib.Omega.{arith}
use lib.IntN.{ℤ}
use lib.ListN.{length, take, drop, length-drop, drop_of_length-le}
use Rattle.text.specs.Parts.{split, up_to}
use Rattle.text.proofs.PartLaws.{first_part}
use Rattle.group.specs.declared.Group.{Group}
use Rattle.group.specs.declared.Refusal.{Refusal}
use Rattle.group.specs.Refusals.{unless_refused}
use Rattle.judge.specs.Judge.{judged}
use Rattle.abi.specs.Abi.{MachineGroup, group_of_words, numbers_of}
use Rattle.judge.proofs.StoredLaws.{stored_told}
use Rattle.lookup.specs.Lookup.{nodes_judged}
use Rattle.exercise.specs.Exercise.{many_verdict}
use Rattle.exercise.proofs.StageLaws.{many_group, many_accepted, many_nodes}
use Rattle.header.proofs.ItemLaws.{behind_le, none_closed, one_closed}
use Rattle.std.specs.Prelude.{Option, Some, None, Result, Ok, Err, ⊤}
use Rattle.logs.specs.declared.Fault.{Fault}
use Rattle.logs.specs.declared.Kind.{Kind}
use Rattle.logs.specs.declared.Kind.TheVariants as K
use Rattle.logs.specs.Kinds.{Failed}
use Rattle.logs.specs.Line.{line_kind}
use Rattle.logs.specs.Log.{bad_line, behind_last, fault_or, first_fault, log_fault, log_judged}

-- n lines have passed, and the next one begins at `next`: the fault is that of the rest
pub record Passed (g : Group) (nodes : List ℤ) (log : List ℕ) (next n : ℕ) : Type 0 where
  pub room : next ≤ length log
  pub below : n ≤ next
  pub rest : first_fault (line_kind g nodes) (suc n) (split 10 (drop next log)) ≡ log_fault g nodes log

pub passed_none : (g : Group) (nodes : List ℤ) (log : List ℕ) → Passed g nodes log 0 0
unfolding log_fault
passed_none g nodes log = record { room = omega arith; below = omega arith; rest = refl }

module _ {g : Group} {nodes : List ℤ} {log : List ℕ} {next n : ℕ} (p : Passed g nodes log next n) where
  -- nothing is left
  pub passed_all : length log ≤ next → None ≡ log_fault g nodes log
  passed_all h = ap (λ (t : List ℕ). first_fault (line_kind g nodes) (suc n) (split 10 t)) (sym (drop_of_length-le log h)) ∙ p.rest

  -- the next line feed stands at e, or there is none
  module _ (e : ℕ) (found : e ≡ next + up_to 10 (drop next log)) (some : next < length log) where
    pub line_unclosed : e ≡ length log → bad_line (n + 1) K.Form ≡ log_fault g nodes log
    line_unclosed q =
        let d = length-drop next log in
        number ∙ nonempty (drop next log) (omega arith)
        ∙ ap (first_fault (line_kind g nodes) (suc n)) (sym (none_closed log next e found p.room q)) ∙ p.rest
      where
        number : bad_line (n + 1) K.Form ≡ bad_line (suc n) K.Form
        number = ap (λ (m : ℕ). bad_line m K.Form) (omega arith)

        nonempty : (t : List ℕ) → 0 < length t → bad_line (suc n) K.Form ≡ behind_last (suc n) t
        nonempty [] h = absurd (omega arith)
        nonempty (x ∷ xs) h = refl

    module _ (q : e ≡ length log → ⊥) where
      abbrev line : List ℕ
      line = take (e - next) (drop next log)

      abbrev rest' : List ℕ
      rest' = drop (e + 1) log

      opened : (o : Failed) → line_kind g nodes line ≡ o → fault_or (suc n) o (first_fault (line_kind g nodes) (suc (suc n)) (split 10 rest')) ≡ log_fault g nodes log
      opened o h =
          let f = first_part 10 rest' in
          ap (λ (k : Failed). fault_or (suc n) k (first_fault (line_kind g nodes) (suc (suc n)) (split 10 rest'))) (sym h)
          ∙ one_more (split 10 rest') f.0 f.1.0 f.1.1
          ∙ ap (first_fault (line_kind g nodes) (suc n)) (sym (one_closed log next e found p.room q)) ∙ p.rest
        where
          one_more : (ps : List (List ℕ)) (m : List ℕ) (ls : List (List ℕ)) → ps ≡ m ∷ ls
              → fault_or (suc n) (line_kind g nodes line) (first_fault (line_kind g nodes) (suc (suc n)) ps) ≡ first_fault (line_kind g nodes) (suc n) (line ∷ ps)
          one_more ps m ls h = rw h

      pub line_bad : (k : Kind) → line_kind g nodes line ≡ Some k → bad_line (n + 1) k ≡ log_fault g nodes log
      line_bad k h = let m : n + 1 ≡ suc n = omega arith in ap (λ (j : ℕ). bad_line j k) m ∙ opened (Some k) h

      pub line_good : line_kind g nodes line ≡ None → Passed g nodes log (e + 1) (n + 1)
      line_good h =
          let m : suc (n + 1) ≡ suc (suc n) = omega arith in let l = p.below in
          record {
            room = behind_le log next e found p.room q;
            below = omega arith;
            rest = ap (λ (j : ℕ). first_fault (line_kind g nodes) j (split 10 rest')) m ∙ opened None h;
          }

-- ---- the whole call

-- what the verdict of a call for many points says: 2 to 5, then 13
module _ (g : Group) (nodes : List ℤ) (log : List ℕ) where
  abbrev answer : Result ⊤ Refusal → Result (Option Fault) Refusal
  answer v = unless_refused Err v (Ok (log_fault g nodes log))

  log_answer_lem : answer (many_verdict g (length nodes) true) ≡ log_judged g nodes log
  unfolding log_judged
  log_answer_lem = go (judged g) refl
    where
      go : (v : Result ⊤ Refusal) → judged g ≡ v → answer (many_verdict g (length nodes) true) ≡ unless_refused Err (judged g) (answer (nodes_judged g (length nodes)))
      go (Err r) e = ap answer (many_group g (length nodes) true r e) ∙ ap (λ (v : Result ⊤ Refusal). unless_refused Err v (answer (nodes_judged g (length nodes)))) (sym e)
      go (Ok tt) e =
          ap answer (many_accepted g (length nodes) true e ∙ many_nodes g (length nodes) true refl)
          ∙ ap (λ (v : Result ⊤ Refusal). unless_refused Err v (answer (nodes_judged g (length nodes)))) (sym e)

  pub call_refused : (r : Refusal) → many_verdict g (length nodes) true ≡ Err r → Err r ≡ log_judged g nodes log
  call_refused r e = ap answer (sym e) ∙ log_answer_lem

  pub call_accepted : many_verdict g (length nodes) true ≡ Ok tt → Ok (log_fault g nodes log) ≡ log_judged g nodes log
  call_accepted e = ap answer (sym e) ∙ log_answer_lem

-- a record that was stored is answered as it was
pub log_stored : (g : Group) → MachineGroup g → (nodes : List ℤ) (log : List ℕ) → log_judged (group_of_words (numbers_of g)) nodes log ≡ log_judged g nodes log
unfolding log_judged
log_stored g h nodes log = stored_told g h Err (λ x. unless_refused Err (nodes_judged x (length nodes)) (Ok (log_fault x nodes log)))
