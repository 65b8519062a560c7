-- Order 4 holds of what the C functions leave.
use Prim.Native.Nat.{ℕ, suc}
use mathlib.Core.Path.{◌≡◌, refl, sym, ap, ◌∙◌}
use Rattle.std.specs.Prelude.{◌↔◌, Option, Some, None, Result, Ok, Err, replicate}
use mathlib.Core.List.{List, [], ◌∷◌}
use lib.IntN.{ℤ}
use lib.ListN.{get_or}
use Rattle.abi.specs.Abi.{group_of_words, joined}
use Rattle.logs.specs.declared.Fault.{Fault}
use Rattle.logs.specs.Line.{position_of}
use Rattle.logs.specs.Log.{FaultNumbers, fault, judgement_fault, log_judged}
use Rattle.group.specs.declared.Refusal.{Refusal}
use Rattle.logs.proofs.Order4.{log_judged_lem, line_written_lem, own_lines}
use Rattle.capi.specs.Answers.{left_by, fault_numbers, log_answer, line_answer}
use Rattle.capi.specs.Order4.{JudgesLines, OwnLinesPass}

-- the two numbers of a fault, and which fault they are
numbers : FaultNumbers → List ℕ
numbers f = f.line ∷ f.kind ∷ []

the_fault : (f : FaultNumbers) (line kind : ℕ) → numbers f ≡ line ∷ kind ∷ [] → f ≡ fault line kind
unfolding numbers
the_fault f line kind e =
    let a : f.line ≡ line = ap (λ (l : List ℕ). get_or l 0 0) e in let b : f.kind ≡ kind = ap (λ (l : List ℕ). get_or l 1 0) e in
    λ i. fault (a i) (b i)

left_numbers : (j : Result (Option Fault) Refusal) → left_by fault_numbers (replicate 2 0) j ≡ numbers (judgement_fault j)
unfolding numbers
left_numbers (Ok (Some f)) = refl
left_numbers (Ok None) = refl
left_numbers (Err r) = refl

-- so what is left is a fault's numbers exactly where it is the fault
told : (j : Result (Option Fault) Refusal) (line kind : ℕ) → (left_by fault_numbers (replicate 2 0) j ≡ line ∷ kind ∷ []) ↔ (judgement_fault j ≡ fault line kind)
unfolding numbers
told j line kind = (λ e. the_fault (judgement_fault j) line kind (sym (left_numbers j) ∙ e), λ e. left_numbers j ∙ ap numbers e)

pub judges_lines : (group nodes : List ℤ) (log : List ℕ) → JudgesLines group nodes log
unfolding log_answer
judges_lines group nodes log =
    let j = log_judged_lem (group_of_words group) nodes log in
    let f = log_judged (group_of_words group) nodes log in
    record {
      refused = j.refused;
      passed = λ a. (λ e. (j.passed a).0 ((told f 0 0).0 e), λ p. (told f 0 0).1 ((j.passed a).1 p));
      failed = λ a n kind. (λ e. (j.failed a n kind).0 ((told f (suc n) kind).0 e), λ p. (told f (suc n) kind).1 ((j.failed a n kind).1 p));
    }

pub own_lines_pass : (group nodes : List ℤ) → OwnLinesPass group nodes
unfolding log_answer line_answer
own_lines_pass group nodes =
    let g = group_of_words group in
    record {
      pass = λ text n h. (told (log_judged g nodes (joined text n)) 0 0).1 ((own_lines g nodes).pass text n (λ k l. let w = h k l in (position_of w.0, w.1, w.2, w.3)));
      accepted = λ position out log h. (own_lines g nodes).accepted (position_of position) out log h;
      most = λ position out. (line_written_lem g nodes (position_of position) out).most;
    }
