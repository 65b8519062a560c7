-- Demand 1 holds of every call of the C interface.
use Prim.Native.Nat.{ℕ}
use mathlib.Core.Path.{◌≡◌, refl, sym, ap, ◌∙◌}
use mathlib.Core.List.{List, map}
use lib.Dec.{eqb}
use lib.IntN.{ℤ, pos}
use lib.Ieee.{Float}
use lib.ListN.{length, replicate}
use Rattle.text.specs.Put.{put}
use Rattle.group.specs.declared.Position.{Position}
use Rattle.group.specs.declared.Refusal.{Refusal}
use Rattle.group.specs.Refusals.{refusal_of, verdict_of}
use Rattle.group.proofs.RefusalLaws.{lent_kept}
use Rattle.judge.proofs.TableLaws.{judged_told}
use Rattle.header.specs.Whole.{header_text}
use Rattle.header.specs.Header.{read_header, written, bytes_after}
use Rattle.header.proofs.TableLaws.{read_told, written_told}
use Rattle.lookup.specs.declared.Answer.{Answer as Found}
use Rattle.lookup.specs.Answer.{answer_record}
use Rattle.lookup.specs.Lookup.{looked}
use Rattle.lookup.proofs.TableLaws.{looked_told}
use Rattle.exercise.specs.Exercise.{many_verdict, answer_at, results_after}
use Rattle.exercise.proofs.CallLaws.{many_told}
use Rattle.inforce.specs.declared.Area.{Area}
use Rattle.inforce.specs.InForce.{in_force_of}
use Rattle.inforce.specs.Hole.{hole_of}
use Rattle.inforce.proofs.TableLaws.{listed_told, found_told}
use Rattle.inforce.proofs.Order2.{refuses_alike}
use Rattle.nodes.specs.Load.{node_of, loaded, nodes_after}
use Rattle.nodes.proofs.TableLaws.{loaded_told}
use Rattle.screen.specs.declared.Shifts.{Shifts}
use Rattle.screen.specs.Screen.{plus_zero, shifts_of, record_of}
use Rattle.screen.proofs.TableLaws.{answer_told}
use Rattle.logs.specs.Line.{position_of}
use Rattle.logs.specs.Log.{log_judged}
use Rattle.logs.specs.Writing.{line_written}
use Rattle.logs.proofs.TableLaws.{log_told, line_told, line_kept}
use Rattle.numbers.specs.Order.{count_of}
use Rattle.abi.specs.Abi.{group_of_words, numbers_of}
use Rattle.capi.specs.Answers.{left_by, point_of, lent_text, judge_answer, read_answer, write_answer, fix_numbers, lookup_answer, many_answer, hole_numbers, hole_answer, fault_numbers, log_answer, line_answer, load_answer}
use Rattle.capi.specs.InForce.{list_words, list_numbers, in_force_answer}
use Rattle.capi.specs.Screen.{lookup_of, shown_of, record_floats}
use Rattle.capi.specs.Demand1.{Judges, Reads, Writes, JudgesLog, WritesLine, Looks, LooksMany, Lists, FindsHole, Loads, Shows}
use Rattle.std.specs.Prelude.{Result, Ok, Err}
use Rattle.fix.specs.declared.Fix.{Fix}

pub judges : (group : List ℤ) → Judges group
unfolding judge_answer
judges group = record { told = judged_told (group_of_words group) }

-- what stands beside a refusal
beside : {A B : Type 0} (fill : A → B) (z : B) (x : Result A Refusal) → ((refusal_of x).number ≡ 0 → ⊥) → left_by fill z x ≡ z
beside fill z (Ok x) n = absurd (n refl)
beside fill z (Err r) n = refl

pub reads : (text : List ℕ) (group : List ℤ) → Reads text group
unfolding read_answer
reads text group = record { told = read_told text; kept = beside numbers_of group (read_header text) }

pub writes : (group : List ℤ) (out : List ℕ) → Writes group out
unfolding write_answer bytes_after
writes group out =
    let w = written (group_of_words group) (length out) in
    record {
      told = written_told (group_of_words group) (length out);
      kept = λ n i. lent_text (beside (λ k. k) 0 w n i) (lent_kept (refusal_of w) (put 0 (header_text (group_of_words group)) out) out n i);
    }

pub judges_log : (group nodes : List ℤ) (log : List ℕ) → JudgesLog group nodes log
unfolding log_answer
judges_log group nodes log =
    let j = log_judged (group_of_words group) nodes log in
    record { told = log_told (group_of_words group) nodes log; zeros = beside fault_numbers (replicate 2 0) j }

pub writes_line : (group nodes position : List ℤ) (out : List ℕ) → WritesLine group nodes position out
unfolding line_answer
writes_line group nodes position out =
    let g = group_of_words group in let p = position_of position in
    let w = line_written g nodes p (length out) in
    record {
      told = line_told g nodes p (length out);
      kept = λ n i. lent_text (beside (λ k. k) 0 w n i) (line_kept g nodes p out n i);
    }

pub looks : (group nodes : List ℤ) (lon lat day : ℤ) → Looks group nodes lon lat day
unfolding lookup_answer
looks group nodes lon lat day =
    let found = looked (group_of_words group) nodes (point_of lon lat) day in
    record {
      told = looked_told (group_of_words group) nodes (point_of lon lat) day;
      zeros = zeros found;
    }
  where
    zeros : (x : Result Fix Refusal) → ((refusal_of x).number ≡ 0 → ⊥) → fix_numbers (answer_record x) ≡ replicate 4 (pos 0)
    zeros (Ok f) n = absurd (n refl)
    zeros (Err r) n = refl

pub looks_many : (group nodes : List ℤ) (points : List Position) (results : List Found) → LooksMany group nodes points results
unfolding many_answer results_after
looks_many group nodes points results =
    let g = group_of_words group in let agree = eqb (length points) (length results) in
    record {
      told = many_told g (length nodes) agree;
      kept = lent_kept (refusal_of (many_verdict g (length nodes) agree)) (map (answer_at g nodes) points) results;
    }

pub lists : (group : List ℤ) (area : Area) → Lists group area
unfolding in_force_answer
lists group area =
    let g = group_of_words group in
    record { told = listed_told g area; zeros = beside list_numbers (replicate list_words (pos 0)) (in_force_of g area) }

-- the refusal is the verdict's
by_verdict : {A : Type 0} (x : Result A Refusal) → refusal_of x ≡ refusal_of (verdict_of x)
by_verdict (Ok x) = refl
by_verdict (Err r) = refl

pub finds_hole : (group : List ℤ) (area : Area) → FindsHole group area
unfolding hole_answer in_force_answer
finds_hole group area =
    let g = group_of_words group in
    record {
      told = found_told g area;
      zeros = beside hole_numbers (replicate 3 (pos 0)) (hole_of g area);
      alike = by_verdict (hole_of g area) ∙ ap refusal_of (refuses_alike g area).alike ∙ sym (by_verdict (in_force_of g area));
    }

pub loads : (quantum : ℤ) (flag : Float) (floats : List Float) (nodes : List ℤ) → Loads quantum flag floats nodes
unfolding load_answer nodes_after
loads quantum flag floats nodes =
    let q = count_of quantum in let l = loaded q flag floats (length nodes) in
    record {
      told = loaded_told q flag floats (length nodes);
      kept = lent_kept (refusal_of l) (map (node_of q flag) floats) nodes;
    }

pub shows : (quantum parameters : ℤ) (number place : ℕ) (fix : List ℤ) (lon lat : ℤ) → Shows quantum parameters number place fix lon lat
unfolding shown_of record_of
shows quantum parameters number place fix lon lat =
    let s = shown_of quantum parameters number place fix in
    record {
      told = answer_told (lookup_of number place fix) (count_of quantum) (count_of parameters);
      shifts = shifts s;
      record_told = refl;
      screen = screen s;
    }
  where
    shifts : (s : Result Shifts Refusal) → ((refusal_of s).number ≡ 0 → ⊥) → shifts_of s ≡ replicate 3 plus_zero
    shifts (Ok f) n = absurd (n refl)
    shifts (Err r) n = refl

    screen : (s : Result Shifts Refusal) → ((refusal_of s).number ≡ 0 → ⊥) → record_floats (record_of (point_of lon lat) s) ≡ replicate 5 plus_zero
    screen (Ok f) n = absurd (n refl)
    screen (Err r) n = refl
