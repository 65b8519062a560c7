-- What each call leaves, of what its callees told: laws over plain values, handed the facts.
use Prim.Native.Nat.{ℕ, ◌*◌}
use mathlib.Core.Path.{◌≡◌, refl, sym, ap, ◌∙◌}
use mathlib.Core.Bool.{Bool, true, false, cond}
use mathlib.Core.List.{List, [], ◌∷◌, ◌++◌}
use borrow.Author.Tests.{eq-eqb, ne_eqb}
use lib.Dec.{eqb}
use lib.Ieee.{Float}
use lib.IntN.{ℤ, pos}
use native.Mathlib.Omega.{arith}
use lib.ListN.{length, get_or, replicate, length-append}
use lib.Seq.{sets}
use Rattle.group.specs.declared.Group.{Group}
use Rattle.group.specs.declared.Point.{Point}
use Rattle.group.specs.declared.Position.{Position}
use Rattle.group.specs.declared.Refusal.{Refusal}
use Rattle.group.specs.Numbers.{grids_most}
use Rattle.header.specs.Header.{written, bytes_after}
use Rattle.nodes.specs.Load.{loaded, nodes_after}
use Rattle.inforce.specs.declared.Area.{Area}
use Rattle.inforce.specs.declared.InForce.{InForce}
use Rattle.inforce.specs.Hole.{hole_of}
use Rattle.inforce.specs.InForce.{blank_entry, in_force_of}
use Rattle.group.specs.Refusals.{refusal, refusal_of}
use Rattle.judge.specs.Judge.{judged}
use Rattle.lookup.specs.declared.Answer.{Answer as Found}
use Rattle.lookup.specs.Answer.{answer_record, stored_record}
use Rattle.lookup.specs.Lookup.{looked}
use Rattle.lookup.proofs.AnswerLaws.{answer_stored}
use Rattle.exercise.specs.Exercise.{many_verdict, results_after}
use Rattle.screen.specs.declared.Shifts.{Shifts}
use Rattle.screen.specs.declared.ScreenRecord.{ScreenRecord}
use Rattle.screen.specs.Screen.{shifts_of, answer_of, record_of}
use Rattle.logs.specs.Line.{position_of}
use Rattle.logs.specs.Log.{log_judged}
use Rattle.logs.specs.Writing.{line_written, line_after}
use Rattle.numbers.specs.Order.{count_of}
use Rattle.abi.specs.Abi.{group_of_words, count_at, number_at, stored, joined}
use Rattle.abi.proofs.ListLaws.{sets_append, sets_whole, length_joined}
use Rattle.capi.specs.Answers.{left, left_by, answered, judge_answer, fix_numbers, found_answer, point_of, lookup_answer, many_answer, area_of, hole_numbers, hole_answer, lent_text, written_answer, write_answer, fault_numbers, log_answer, line_answer, loaded_by, load_answer}
use Rattle.capi.specs.InForce.{entries_from, entry_words, list_words, stored_entry, stored_list, list_numbers, in_force_answer}
use Rattle.capi.proofs.SmallLaws.{in_force_stored}
use Rattle.capi.specs.Screen.{lookup_of, shown_of, shifts_answer, record_floats, record_answer}
use Rattle.std.specs.Prelude.{Option, Result, Ok, Err, ⊤}
use Rattle.fix.specs.declared.Fix.{Fix}
use Rattle.logs.specs.declared.Fault.{Fault}

-- a choice whose test is known
module _ {A : Type 0} where
  pub chosen : (t : Bool) (x y : A) → t ≡ true → cond t x y ≡ x
  chosen t x y e = ap (λ (b : Bool). cond b x y) e

  pub passed_over : (t : Bool) (x y : A) → t ≡ false → cond t x y ≡ y
  passed_over t x y e = ap (λ (b : Bool). cond b x y) e

-- an area whose sides are known
pub same_area : {w e s n west east south north : ℤ} → w ≡ west → e ≡ east → s ≡ south → n ≡ north → area_of w e s n ≡ area_of west east south north
same_area a b c d i = area_of (a i) (b i) (c i) (d i)

-- what is told of an answer and left of it
pub told_left : {A B : Type 0} (fill : A → B) (beside : B) (a b : Result A Refusal) (number place : ℕ) (lent : B)
    → refusal number place ≡ refusal_of a → lent ≡ left_by fill beside a → a ≡ b → left number place lent ≡ answered fill beside b
told_left fill beside a b number place lent t l e = (λ i. record { refusal = t i; lent = l i }) ∙ ap (answered fill beside) e

module _ (l : List ℤ) where
  abbrev g : Group
  g = group_of_words l

  pub judge_told : (v : Result ⊤ Refusal) (number place : ℕ) → v ≡ judged g → refusal number place ≡ refusal_of v → refusal number place ≡ judge_answer l
  unfolding judge_answer
  judge_told v number place a b = b ∙ ap refusal_of a

  pub lookup_told : (nodes : List ℤ) (lon lat day x y d : ℤ) (f : Result Fix Refusal) (a : Found)
      → x ≡ lon → y ≡ lat → d ≡ day → f ≡ looked g nodes (point_of x y) d → a ≡ stored_record f
      → left a.number a.place (fix_numbers a) ≡ lookup_answer l nodes lon lat day
  unfolding lookup_answer
  lookup_told nodes lon lat day x y d f a ex ey ed e b =
      ap found_answer (b ∙ answer_stored g nodes (point_of x y) d f e ∙ ap answer_record (e ∙ (λ i. looked g nodes (point_of (ex i) (ey i)) (ed i))))

  pub many_told : (nodes : List ℤ) (points : List Position) (results after : List Found) (v : Result ⊤ Refusal) (number place : ℕ)
      → v ≡ many_verdict g (length nodes) (eqb (length points) (length results)) → after ≡ results_after g nodes points results
      → refusal number place ≡ refusal_of v → left number place after ≡ many_answer l nodes points results
  unfolding many_answer
  many_told nodes points results after v number place a b c = λ i. record { refusal = (c ∙ ap refusal_of a) i; lent = b i }

  pub in_force_told : (area t : Area) (f : Result InForce Refusal) (number place : ℕ) (ns : List ℤ) → t ≡ area → f ≡ in_force_of g t
      → refusal number place ≡ refusal_of f → ns ≡ left_by stored_list (replicate list_words (pos 0)) f → left number place ns ≡ in_force_answer l area
  unfolding in_force_answer
  in_force_told area t f number place ns e a b c =
      told_left list_numbers (replicate list_words (pos 0)) f (in_force_of g area) number place ns b (c ∙ in_force_stored g t f a) (a ∙ ap (in_force_of g) e)

  pub hole_told : (area t : Area) (h : Result (Option Point) Refusal) (number place : ℕ) (ns : List ℤ) → t ≡ area → h ≡ hole_of g t
      → refusal number place ≡ refusal_of h → ns ≡ left_by hole_numbers (replicate 3 (pos 0)) h → left number place ns ≡ hole_answer l area
  unfolding hole_answer
  hole_told area t h number place ns e a b c =
      told_left hole_numbers (replicate 3 (pos 0)) h (hole_of g area) number place ns b c (a ∙ ap (hole_of g) e)

  pub log_told : (nodes : List ℤ) (log : List ℕ) (j : Result (Option Fault) Refusal) (number place : ℕ) (ns : List ℕ) → j ≡ log_judged g nodes log
      → refusal number place ≡ refusal_of j → ns ≡ left_by fault_numbers (replicate 2 0) j → left number place ns ≡ log_answer l nodes log
  unfolding log_answer
  log_told nodes log j number place ns a b c = told_left fault_numbers (replicate 2 0) j (log_judged g nodes log) number place ns b c a

  pub line_told : (nodes position : List ℤ) (out after : List ℕ) (p : Position) (w : Result ℕ Refusal) (number place n : ℕ) → p ≡ position_of position
      → w ≡ line_written g nodes p (length out) → after ≡ line_after g nodes p out → refusal number place ≡ refusal_of w → n ≡ left_by (λ k. k) 0 w
      → left number place (lent_text n after) ≡ line_answer l nodes position out
  unfolding line_answer
  line_told nodes position out after p w number place n e a b c d =
      (λ i. record { refusal = c i; lent = lent_text (d i) (b i) })
      ∙ (λ i. written_answer (a i) (line_after g nodes p out))
      ∙ ap (λ (q : Position). written_answer (line_written g nodes q (length out)) (line_after g nodes q out)) e

  pub write_told : (out after : List ℕ) (w : Result ℕ Refusal) (number place n : ℕ)
      → w ≡ written g (length out) → after ≡ bytes_after g out → refusal number place ≡ refusal_of w → n ≡ left_by (λ k. k) 0 w
      → left number place (lent_text n after) ≡ write_answer l out
  unfolding write_answer
  write_told out after w number place n a b c d =
      (λ i. record { refusal = c i; lent = lent_text (d i) (b i) })
      ∙ (λ i. written_answer (a i) (bytes_after g out))

pub load_told : (quantum : ℤ) (flag : Float) (floats : List Float) (nodes after : List ℤ) (q : ℕ) (l : Result ⊤ Refusal) (number place : ℕ)
    → q ≡ count_of quantum → l ≡ loaded q flag floats (length nodes) → after ≡ nodes_after q flag floats nodes → refusal number place ≡ refusal_of l
    → left number place after ≡ load_answer quantum flag floats nodes
unfolding load_answer
load_told quantum flag floats nodes after q l number place a b c d =
    (λ i. record { refusal = (d ∙ ap refusal_of b) i; lent = c i }) ∙ ap (λ (n : ℕ). loaded_by n flag floats nodes) a

module _ (number place : ℕ) (fix : List ℤ) where
  pub lookup_fix : (g : ℕ) (a b c : ℤ) → number ≡ 0 → g ≡ count_at fix 0 → a ≡ number_at fix 1 → b ≡ number_at fix 2 → c ≡ number_at fix 3
      → Ok (record { grid = g; first = a; second = b; third = c }) ≡ lookup_of number place fix
  unfolding lookup_of
  lookup_fix g a b c e p q r s =
      (λ i. Ok (record { grid = p i; first = q i; second = r i; third = s i })) ∙ sym (chosen (eqb number 0) _ _ (eq-eqb number 0 e))

  pub lookup_refused : (number ≡ 0 → ⊥) → Err (refusal number place) ≡ lookup_of number place fix
  unfolding lookup_of
  lookup_refused e = sym (passed_over (eqb number 0) _ _ (ne_eqb number 0 e))

module _ (quantum parameters : ℤ) (number place : ℕ) (fix : List ℤ) (q np : ℕ) (f : Result Fix Refusal) (eq : q ≡ count_of quantum) (en : np ≡ count_of parameters)
    (ef : f ≡ lookup_of number place fix) where
  pub shown_told : (s : Result Shifts Refusal) → s ≡ answer_of f q np → s ≡ shown_of quantum parameters number place fix
  unfolding shown_of
  shown_told s e = e ∙ (λ i. answer_of (ef i) (eq i) (en i))

  pub shifts_told : (s : Result Shifts Refusal) (n p : ℕ) (fs : List Float) → s ≡ answer_of f q np → refusal n p ≡ refusal_of s → fs ≡ shifts_of s
      → left n p fs ≡ shifts_answer (shown_of quantum parameters number place fix)
  shifts_told s n p fs e a b = (λ i. record { refusal = a i; lent = b i }) ∙ ap shifts_answer (shown_told s e)

  pub record_told : (lon lat x y : ℤ) (s : Result Shifts Refusal) (n p : ℕ) (d : ScreenRecord) → x ≡ lon → y ≡ lat → s ≡ answer_of f q np
      → refusal n p ≡ refusal_of s → d ≡ record_of (point_of x y) s
      → left n p (record_floats d) ≡ record_answer lon lat (shown_of quantum parameters number place fix)
  record_told lon lat x y s n p d ex ey e a b =
      (λ i. record { refusal = a i; lent = record_floats ((b ∙ (λ j. record_of (point_of (ex j) (ey j)) s)) i) })
      ∙ ap (record_answer lon lat) (shown_told s e)

-- the list of grids in force, stored part by part
pub list_stored : (r : InForce) (l o p cs : List ℤ) → length l ≡ list_words → cs ≡ stored r.count ∷ [] → o ≡ sets l 0 cs
    → p ≡ sets o entries_from (joined (λ k. stored_entry (get_or r.entries k blank_entry)) grids_most) → p ≡ stored_list r
unfolding stored_list
list_stored r l o p cs n a b c =
    let es = joined (λ k. stored_entry (get_or r.entries k blank_entry)) grids_most in
    let head = stored r.count ∷ [] in
    let m : length es ≡ grids_most * entry_words = length_joined (λ k. stored_entry (get_or r.entries k blank_entry)) entry_words grids_most (λ k d. refl) in
    c ∙ ap (λ (x : List ℤ). sets x 1 es) (b ∙ ap (sets l 0) a) ∙ sets_append l 0 head es
    ∙ sets_whole l (head ++ es) (omega (arith, length-append head es))
