-- Order 4 of document 02 in its own words, of what judging a log and writing a line answer and leave: exactly when a line passes and which test
-- it fails first, exactly when a log passes, which line is named, that a log can be judged in parts, and that our own lines pass.
use Rattle.std.specs.Prelude.{ℕ, zero, suc, ◌+◌, ◌-◌, ◌≤◌, ◌<◌, ◌≡◌, true, cond, List, [], ◌∷◌, ◌++◌, ◌⊎◌, ◌↔◌, eqb, ℤ, length, get_or, take, drop, Result}
use Rattle.text.specs.Parts.{split, Lacks}
use Rattle.group.specs.declared.Group.{Group}
use Rattle.group.specs.declared.Position.{Position}
use Rattle.group.specs.declared.Refusal.{Refusal}
use Rattle.group.specs.Record.{grid_at}
use Rattle.group.specs.Refusals.{no_refusal, refusal_of}
use Rattle.group.specs.Shapes.{int_at}
use Rattle.line.specs.Names.{is_name, name_text}
use Rattle.abi.specs.Abi.{joined}
use Rattle.fix.specs.Answers.{lookup_grid, results_of}
use Rattle.lookup.specs.Lookup.{looked}
use Rattle.lookup.specs.Demand2.{Refuses, Judged, TableRow, ShortList, NothingRefused, ◌then◌}
use Rattle.exercise.specs.Exercise.{point_at}
use Rattle.header.specs.Items.{closed}
use Rattle.header.specs.Header.{written_count}
use Rattle.logs.specs.Kinds.{failed_number}
use Rattle.logs.specs.Line.{Entry, entry_text, line_kind}
use Rattle.logs.specs.Log.{FaultNumbers, fault, no_fault, log_judged, judgement_fault}
use Rattle.logs.specs.Writing.{line_most, line_written, line_after}
use Rattle.fix.specs.declared.Fix.{Fix}

-- ---- a line

-- the line is `fix` LON LAT DAY GRID V1 .. VNP, numbers and names formed as in document 01, and says this
pub record Says (np : ℕ) (line : List ℕ) (e : Entry) : Type 0 where
  pub text : line ≡ entry_text e
  pub name : is_name e.name ≡ true
  -- 'a count of V other than NP is a form fault'
  pub values : length e.shifts ≡ np

-- the lookup of its position on its day
abbrev pub found_for : Group → List ℤ → Entry → Result Fix Refusal
found_for g nodes e = looked g nodes (point_at e.position) e.position.day

-- 'the lookup is accepted'
abbrev pub Accepts : Group → List ℤ → Entry → Type 0
Accepts g nodes e = refusal_of (found_for g nodes e) ≡ no_refusal

-- 'the named grid is the chosen one'
abbrev pub NamesChosen : Group → List ℤ → Entry → Type 0
NamesChosen g nodes e = (k : ℕ) × (lookup_grid (found_for g nodes e) ≡ suc k) × (e.name ≡ name_text (grid_at g k).name)

-- 'the shifts in steps are equal'
abbrev pub EqualShifts : Group → List ℤ → Entry → Type 0
EqualShifts g nodes e = (q : ℕ) → q < g.parameters → int_at e.shifts q ≡ results_of (found_for g nodes e) q

-- what a line of each kind is: 0 passes; 1 to 4 fails that test, form, lookup, grid or shift, and none before it
abbrev pub LineIs : Group → List ℤ → List ℕ → ℕ → Type 0
LineIs g nodes line zero = (e : Entry) × Says g.parameters line e × Accepts g nodes e × NamesChosen g nodes e × EqualShifts g nodes e
LineIs g nodes line (suc zero) = (e : Entry) → Says g.parameters line e → ⊥
LineIs g nodes line (suc (suc zero)) = (e : Entry) × Says g.parameters line e × (Accepts g nodes e → ⊥)
LineIs g nodes line (suc (suc (suc zero))) = (e : Entry) × Says g.parameters line e × Accepts g nodes e × (NamesChosen g nodes e → ⊥)
LineIs g nodes line (suc (suc (suc (suc zero)))) =
    (e : Entry) × Says g.parameters line e × Accepts g nodes e × NamesChosen g nodes e × (EqualShifts g nodes e → ⊥)
LineIs g nodes line (suc (suc (suc (suc (suc k))))) = ⊥

-- exactly so is its verdict, by group, nodes and its own bytes alone
abbrev pub LineJudged : Group → List ℤ → List ℕ → Type 0
LineJudged g nodes line = (k : ℕ) → (failed_number (line_kind g nodes line) ≡ k) ↔ LineIs g nodes line k

-- ---- a log

abbrev pub NoFeed : List ℕ → Type 0
NoFeed line = Lacks 10 line 0 (length line)

-- every one of these lines passes
abbrev pub AllPass : Group → List ℤ → List (List ℕ) → Type 0
AllPass g nodes lines = (k : ℕ) → k < length lines → LineIs g nodes (get_or lines k []) 0

-- the lines, each closed by its line feed
abbrev pub closed_lines : List (List ℕ) → List ℕ
closed_lines = closed (λ line. line)

-- an empty log passes, and one of lines that pass, each closed by its line feed
abbrev pub LogPasses : Group → List ℤ → List ℕ → Type 0
LogPasses g nodes log = (lines : List (List ℕ)) × (log ≡ closed_lines lines) × AllPass g nodes lines

-- line n is the first bad one, and of this kind
pub record FirstBad (g : Group) (nodes : List ℤ) (log : List ℕ) (n kind : ℕ) : Type 0 where
  pub before : List (List ℕ)
  pub line : List ℕ
  pub behind : List ℕ
  pub pass : AllPass g nodes before
  pub number : n ≡ suc (length before)
  pub whole : log ≡ closed_lines before ++ (line ++ behind)
  pub one : NoFeed line
  -- closed by its line feed it fails one of the four tests; 'a last line without its line feed is a form fault'
  pub bad :
      ((rest : List ℕ) × (behind ≡ 10 ∷ rest) × LineIs g nodes line kind × (kind ≡ 0 → ⊥))
      ⊎ ((behind ≡ []) × (line ≡ [] → ⊥) × (kind ≡ 1))

-- 'the call itself refuses by 2 to 5, then 13'
unfoldable pub RefusesLog : Group → List ℤ → Refusal → Type 0
RefusesLog g nodes = Judged g then ShortList g nodes then NothingRefused

pub record LogJudged (g : Group) (nodes : List ℤ) (log : List ℕ) : Type 0 where
  -- the call is refused exactly by these rows, in their order, whatever the log is; beside a refusal line and kind are 0
  pub refused : (r : Refusal) → (refusal_of (log_judged g nodes log) ≡ r) ↔ RefusesLog g nodes r
  pub zeros : (refusal_of (log_judged g nodes log) ≡ no_refusal → ⊥) → judgement_fault (log_judged g nodes log) ≡ no_fault
  -- else it passes exactly where every line does, and names line and kind exactly of the first bad one
  pub passed : refusal_of (log_judged g nodes log) ≡ no_refusal → (judgement_fault (log_judged g nodes log) ≡ no_fault) ↔ LogPasses g nodes log
  pub failed : refusal_of (log_judged g nodes log) ≡ no_refusal → (n kind : ℕ)
      → (judgement_fault (log_judged g nodes log) ≡ fault (suc n) kind) ↔ FirstBad g nodes log (suc n) kind

-- a line closed by its line feed is judged as a log of its own
abbrev pub OneLine : Group → List ℤ → List ℕ → Type 0
OneLine g nodes line = NoFeed line → refusal_of (log_judged g nodes (line ++ 10 ∷ [])) ≡ no_refusal
    → judgement_fault (log_judged g nodes (line ++ 10 ∷ []))
    ≡ cond (eqb (failed_number (line_kind g nodes line)) 0) no_fault (fault 1 (failed_number (line_kind g nodes line)))

-- ---- a log in parts

-- the log is empty or ends in a line feed
abbrev pub Ended : List ℕ → Type 0
Ended log = (log ≡ []) ⊎ ((b : List ℕ) × (log ≡ b ++ 10 ∷ []))

-- how many lines it has: its line feeds
abbrev pub line_count : List ℕ → ℕ
line_count log = length (split 10 log) - 1

-- a fault so many lines later
abbrev pub later : ℕ → FaultNumbers → FaultNumbers
later n f = cond (eqb f.line 0) f (fault (n + f.line) f.kind)

-- one log behind another
pub record InParts (g : Group) (nodes : List ℤ) (a b : List ℕ) : Type 0 where
  pub verdict : refusal_of (log_judged g nodes (a ++ b)) ≡ refusal_of (log_judged g nodes b)
  pub passed : Ended a → judgement_fault (log_judged g nodes a) ≡ no_fault
      → judgement_fault (log_judged g nodes (a ++ b)) ≡ later (line_count a) (judgement_fault (log_judged g nodes b))
  pub failed : Ended a → (judgement_fault (log_judged g nodes a) ≡ no_fault → ⊥)
      → judgement_fault (log_judged g nodes (a ++ b)) ≡ judgement_fault (log_judged g nodes a)

-- ---- our own writer

-- what the lookup refuses
abbrev pub LookupRefuses : Group → List ℤ → Position → Refusal → Type 0
LookupRefuses g nodes p r = Refuses g nodes (point_at p) p.day r × (r ≡ no_refusal → ⊥)

-- what an accepted writing wrote: as many bytes as it counts
abbrev pub written_bytes : Group → List ℤ → Position → List ℕ → List ℕ
written_bytes g nodes p out = take (written_count (line_written g nodes p (length out))) (line_after g nodes p out)

-- the one line of a position, which says of it what the lookup says
pub record OwnLine (g : Group) (nodes : List ℤ) (p : Position) (bytes : List ℕ) : Type 0 where
  pub e : Entry
  pub at : e.position ≡ p
  pub bytes_are : bytes ≡ entry_text e ++ 10 ∷ []
  pub says : Says g.parameters (entry_text e) e
  pub accepted : Accepts g nodes e
  pub named : NamesChosen g nodes e
  pub equal : EqualShifts g nodes e

pub record LineWritten (g : Group) (nodes : List ℤ) (p : Position) (out : List ℕ) : Type 0 where
  -- 'refusing as the lookup does, then 12': where the output is shorter than the line of the position
  pub refused : (r : Refusal) → (refusal_of (line_written g nodes p (length out)) ≡ r)
      ↔ (LookupRefuses g nodes p then TableRow 12 ((line : List ℕ) × OwnLine g nodes p line × (length out < length line)) then NothingRefused) r
  -- the bytes are its line, all behind them stays, and after a refusal all of it
  pub line : refusal_of (line_written g nodes p (length out)) ≡ no_refusal → OwnLine g nodes p (written_bytes g nodes p out)
  -- no other line of the position passes
  pub only : refusal_of (line_written g nodes p (length out)) ≡ no_refusal → (bytes : List ℕ) → OwnLine g nodes p bytes → bytes ≡ written_bytes g nodes p out
  pub count : refusal_of (line_written g nodes p (length out)) ≡ no_refusal
      → length (written_bytes g nodes p out) ≡ written_count (line_written g nodes p (length out))
  pub behind : refusal_of (line_written g nodes p (length out)) ≡ no_refusal
      → drop (written_count (line_written g nodes p (length out))) (line_after g nodes p out)
      ≡ drop (written_count (line_written g nodes p (length out))) out
  pub unchanged : (refusal_of (line_written g nodes p (length out)) ≡ no_refusal → ⊥) → line_after g nodes p out ≡ out
  -- no line is longer than line_most, so that such an output is never too short
  pub most : written_count (line_written g nodes p (length out)) ≤ line_most
  pub enough : line_most ≤ length out → refusal_of (line_written g nodes p (length out)) ≡ refusal_of (looked g nodes (point_at p) p.day)

-- 'under the same group and nodes its lines pass', in any number and order: n of them, one behind the other
pub record OwnLines (g : Group) (nodes : List ℤ) : Type 0 where
  pub pass : (text : ℕ → List ℕ) (n : ℕ)
      → ((k : ℕ) → k < n → (p : Position) × (out : List ℕ) × (refusal_of (line_written g nodes p (length out)) ≡ no_refusal)
      × (text k ≡ written_bytes g nodes p out))
      → judgement_fault (log_judged g nodes (joined text n)) ≡ no_fault
  pub accepted : (p : Position) (out log : List ℕ) → refusal_of (line_written g nodes p (length out)) ≡ no_refusal
      → refusal_of (log_judged g nodes log) ≡ no_refusal
