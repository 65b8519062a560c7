-- What each call of the C interface leaves: the refusal's number and place, 0 and 0 where it is accepted, and the lent memory.
use Rattle.std.specs.Prelude.{ℕ, List, [], ◌∷◌, ℤ, pos, Float, eqb, length, replicate, Option, Some, None, Result, Ok, Err}
use Rattle.group.specs.declared.Point.{Point}
use Rattle.group.specs.declared.Position.{Position}
use Rattle.group.specs.declared.Refusal.{Refusal}
use Rattle.group.specs.Refusals.{refusal, refusal_of}
use Rattle.text.specs.Parts.{start_of, end_of}
use Rattle.header.specs.Header.{read_header, written, bytes_after}
use Rattle.nodes.specs.Load.{loaded, nodes_after}
use Rattle.judge.specs.Judge.{judged}
use Rattle.inforce.specs.declared.Area.{Area}
use Rattle.inforce.specs.Hole.{hole_of}
use Rattle.lookup.specs.declared.Answer.{Answer as Found}
use Rattle.lookup.specs.Answer.{answer_record}
use Rattle.lookup.specs.Lookup.{looked}
use Rattle.exercise.specs.Exercise.{many_verdict, results_after}
use Rattle.logs.specs.declared.Fault.{Fault}
use Rattle.logs.specs.Kinds.{kind_number}
use Rattle.logs.specs.Line.{position_of}
use Rattle.logs.specs.Log.{log_judged}
use Rattle.logs.specs.Writing.{line_written, line_after}
use Rattle.numbers.specs.Order.{count_of}
use Rattle.abi.specs.Abi.{group_of_words, numbers_of}

-- the version of the interface: major · 1,000,000 + minor · 1,000 + patch
abbrev pub version : ℕ
version = 4000000

-- the refusal and what stands in lent memory afterwards
pub record Answer (A : Type 0) : Type 0 where
  pub refusal : Refusal
  pub lent : A

abbrev pub left : {A : Type 0} → ℕ → ℕ → A → Answer A
left number place lent = record { refusal = refusal number place; lent = lent }

-- what a call answers: what its answer fills in, and beside a refusal what is given for it
abbrev pub left_by : {A B : Type 0} → (A → B) → B → Result A Refusal → B
left_by fill beside (Ok x) = fill x
left_by fill beside (Err r) = beside

abbrev pub answered : {A B : Type 0} → (A → B) → B → Result A Refusal → Answer B
answered fill beside a = record { refusal = refusal_of a; lent = left_by fill beside a }

-- ---- judging

unfoldable pub judge_answer : List ℤ → Refusal
judge_answer group = refusal_of (judged (group_of_words group))

-- ---- reading: the group's numbers, which stay as they were after a refusal

unfoldable pub read_answer : List ℕ → List ℤ → Answer (List ℤ)
read_answer text lent = answered numbers_of lent (read_header text)

-- ---- lookup: the chosen grid's number and three results

abbrev pub fix_numbers : Found → List ℤ
fix_numbers a = a.grid ∷ a.first ∷ a.second ∷ a.third ∷ []

abbrev pub found_answer : Found → Answer (List ℤ)
found_answer a = left a.number a.place (fix_numbers a)

abbrev pub point_of : ℤ → ℤ → Point
point_of lon lat = record { lon = record { 0 = lon }; lat = record { 0 = lat } }

unfoldable pub lookup_answer : List ℤ → List ℤ → ℤ → ℤ → ℤ → Answer (List ℤ)
lookup_answer group nodes lon lat day = found_answer (answer_record (looked (group_of_words group) nodes (point_of lon lat) day))

-- ---- many lookups: the list of results

unfoldable pub many_answer : (group nodes : List ℤ) → List Position → List Found → Answer (List Found)
many_answer group nodes points results =
    record {
      refusal = refusal_of (many_verdict (group_of_words group) (length nodes) (eqb (length points) (length results)));
      lent = results_after (group_of_words group) nodes points results;
    }

-- ---- an area by its sides

abbrev pub area_of : ℤ → ℤ → ℤ → ℤ → Area
area_of west east south north =
    record {
      lon = record { west = record { 0 = west }; east = record { 0 = east } };
      lat = record { south = record { 0 = south }; north = record { 0 = north } };
    }

-- ---- the hole of an area: 1, its longitude and its latitude, or three zeros where it has none and beside a refusal

abbrev pub hole_numbers : Option Point → List ℤ
hole_numbers (Some p) = pos 1 ∷ p.lon.0 ∷ p.lat.0 ∷ []
hole_numbers None = replicate 3 (pos 0)

unfoldable pub hole_answer : List ℤ → Area → Answer (List ℤ)
hole_answer group area = answered hole_numbers (replicate 3 (pos 0)) (hole_of (group_of_words group) area)

-- ---- writing: the count of bytes, and the lent bytes

pub record Text : Type 0 where
  pub count : ℕ
  pub bytes : List ℕ

abbrev pub lent_text : ℕ → List ℕ → Text
lent_text count bytes = record { count = count; bytes = bytes }

abbrev pub written_answer : Result ℕ Refusal → List ℕ → Answer Text
written_answer w bytes = record { refusal = refusal_of w; lent = lent_text (left_by (λ n. n) 0 w) bytes }

unfoldable pub write_answer : List ℤ → List ℕ → Answer Text
write_answer group out = written_answer (written (group_of_words group) (length out)) (bytes_after (group_of_words group) out)

-- ---- judging a log: the first bad line and its kind, 0 and 0 where the log passes and beside a refusal

abbrev pub fault_numbers : Option Fault → List ℕ
fault_numbers (Some f) = f.line ∷ kind_number f.kind ∷ []
fault_numbers None = replicate 2 0

unfoldable pub log_answer : (group nodes : List ℤ) → List ℕ → Answer (List ℕ)
log_answer group nodes log = answered fault_numbers (replicate 2 0) (log_judged (group_of_words group) nodes log)

-- ---- writing the line of a position, given as its three numbers

unfoldable pub line_answer : (group nodes position : List ℤ) → List ℕ → Answer Text
line_answer group nodes position out =
    written_answer (line_written (group_of_words group) nodes (position_of position) (length out))
    (line_after (group_of_words group) nodes (position_of position) out)

-- ---- a field: its first byte, and the byte behind its last

unfoldable pub field_part : List ℕ → ℕ → List ℕ
field_part line k = start_of 9 line k ∷ end_of 9 line k ∷ []

-- ---- loading: Q below zero is outside its limit

abbrev pub loaded_by : ℕ → Float → List Float → List ℤ → Answer (List ℤ)
loaded_by q flag floats nodes = record { refusal = refusal_of (loaded q flag floats (length nodes)); lent = nodes_after q flag floats nodes }

unfoldable pub load_answer : ℤ → Float → List Float → List ℤ → Answer (List ℤ)
load_answer quantum flag floats nodes = loaded_by (count_of quantum) flag floats nodes
