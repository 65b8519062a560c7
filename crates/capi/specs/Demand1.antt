-- Demand 1 of what every call of the C interface returns and leaves: 0 exactly where the call is accepted, else a number of the table; and
-- after a refusal memory lent for output is as it was, and every number handed back beside it is 0.
use Rattle.std.specs.Prelude.{ℕ, ◌≡◌, List, eqb, ℤ, pos, Float, length, replicate, Option, Ok}
use Rattle.group.specs.declared.Group.{Group}
use Rattle.group.specs.declared.Point.{Point}
use Rattle.group.specs.declared.Position.{Position}
use Rattle.group.specs.Refusals.{Told}
use Rattle.judge.specs.Judge.{judged}
use Rattle.header.specs.Header.{read_header, written}
use Rattle.fix.specs.declared.Fix.{Fix}
use Rattle.lookup.specs.declared.Answer.{Answer as Found}
use Rattle.lookup.specs.Lookup.{looked}
use Rattle.exercise.specs.Exercise.{many_verdict}
use Rattle.inforce.specs.declared.Area.{Area}
use Rattle.inforce.specs.declared.InForce.{InForce}
use Rattle.inforce.specs.InForce.{in_force_of}
use Rattle.inforce.specs.Hole.{hole_of}
use Rattle.nodes.specs.Load.{loaded}
use Rattle.screen.specs.declared.Shifts.{Shifts}
use Rattle.screen.specs.Screen.{plus_zero}
use Rattle.logs.specs.declared.Fault.{Fault}
use Rattle.logs.specs.Line.{position_of}
use Rattle.logs.specs.Log.{log_judged}
use Rattle.logs.specs.Writing.{line_written}
use Rattle.numbers.specs.Order.{count_of}
use Rattle.abi.specs.Abi.{group_of_words}
use Rattle.capi.specs.Answers.{Answer, point_of, lent_text, judge_answer, read_answer, write_answer, log_answer, line_answer, lookup_answer, many_answer, hole_answer, load_answer}
use Rattle.capi.specs.InForce.{list_words, in_force_answer}
use Rattle.capi.specs.Screen.{shown_of, shifts_answer, record_answer}

-- what an answer left where it is a refusal
abbrev pub LeftBeside : {B : Type 0} → B → Answer B → Type 0
LeftBeside lent a = (a.refusal.number ≡ 0 → ⊥) → a.lent ≡ lent

pub record Judges (group : List ℤ) : Type 0 where
  pub told : Told (judged (group_of_words group) ≡ Ok tt) (judge_answer group)

pub record Reads (text : List ℕ) (group : List ℤ) : Type 0 where
  pub told : Told ((g : Group) × (read_header text ≡ Ok g)) (read_answer text group).refusal
  -- the group is as it was
  pub kept : LeftBeside group (read_answer text group)

pub record Writes (group : List ℤ) (out : List ℕ) : Type 0 where
  pub told : Told ((n : ℕ) × (written (group_of_words group) (length out) ≡ Ok n)) (write_answer group out).refusal
  -- the count is 0 and the bytes are as they were
  pub kept : LeftBeside (lent_text 0 out) (write_answer group out)

pub record JudgesLog (group nodes : List ℤ) (log : List ℕ) : Type 0 where
  pub told : Told ((f : Option Fault) × (log_judged (group_of_words group) nodes log ≡ Ok f)) (log_answer group nodes log).refusal
  pub zeros : LeftBeside (replicate 2 0) (log_answer group nodes log)

pub record WritesLine (group nodes position : List ℤ) (out : List ℕ) : Type 0 where
  pub told :
      Told ((n : ℕ) × (line_written (group_of_words group) nodes (position_of position) (length out) ≡ Ok n))
      (line_answer group nodes position out).refusal
  -- the count is 0 and the bytes are as they were
  pub kept : LeftBeside (lent_text 0 out) (line_answer group nodes position out)

pub record Looks (group nodes : List ℤ) (lon lat day : ℤ) : Type 0 where
  pub told : Told ((f : Fix) × (looked (group_of_words group) nodes (point_of lon lat) day ≡ Ok f)) (lookup_answer group nodes lon lat day).refusal
  pub zeros : LeftBeside (replicate 4 (pos 0)) (lookup_answer group nodes lon lat day)

pub record LooksMany (group nodes : List ℤ) (points : List Position) (results : List Found) : Type 0 where
  pub told :
      Told (many_verdict (group_of_words group) (length nodes) (eqb (length points) (length results)) ≡ Ok tt)
      (many_answer group nodes points results).refusal
  -- the results are as they were
  pub kept : LeftBeside results (many_answer group nodes points results)

pub record Lists (group : List ℤ) (area : Area) : Type 0 where
  pub told : Told ((l : InForce) × (in_force_of (group_of_words group) area ≡ Ok l)) (in_force_answer group area).refusal
  pub zeros : LeftBeside (replicate list_words (pos 0)) (in_force_answer group area)

pub record FindsHole (group : List ℤ) (area : Area) : Type 0 where
  pub told : Told ((h : Option Point) × (hole_of (group_of_words group) area ≡ Ok h)) (hole_answer group area).refusal
  pub zeros : LeftBeside (replicate 3 (pos 0)) (hole_answer group area)
  -- the same refusal as of the grids in force
  pub alike : (hole_answer group area).refusal ≡ (in_force_answer group area).refusal

pub record Loads (quantum : ℤ) (flag : Float) (floats : List Float) (nodes : List ℤ) : Type 0 where
  pub told : Told (loaded (count_of quantum) flag floats (length nodes) ≡ Ok tt) (load_answer quantum flag floats nodes).refusal
  -- the nodes are as they were
  pub kept : LeftBeside nodes (load_answer quantum flag floats nodes)

-- the answer of a lookup, shown: its shifts, and with the point its screen record
pub record Shows (quantum parameters : ℤ) (number place : ℕ) (fix : List ℤ) (lon lat : ℤ) : Type 0 where
  pub told :
      Told ((s : Shifts) × (shown_of quantum parameters number place fix ≡ Ok s))
      (shifts_answer (shown_of quantum parameters number place fix)).refusal
  pub shifts : LeftBeside (replicate 3 plus_zero) (shifts_answer (shown_of quantum parameters number place fix))
  pub record_told :
      (record_answer lon lat (shown_of quantum parameters number place fix)).refusal
      ≡ (shifts_answer (shown_of quantum parameters number place fix)).refusal
  pub screen : LeftBeside (replicate 5 plus_zero) (record_answer lon lat (shown_of quantum parameters number place fix))
