-- Document 02's order 4, the judge of a log: refusals 2 to 5, then 13; else the first bad line and its kind.
use Rattle.std.specs.Prelude.{ℕ, suc, List, [], ◌∷◌, ℤ, length, Option, Some, None, Result, Ok, Err}
use Rattle.text.specs.Parts.{split}
use Rattle.group.specs.declared.Group.{Group}
use Rattle.group.specs.declared.Refusal.{Refusal}
use Rattle.group.specs.Refusals.{unless_refused}
use Rattle.judge.specs.Judge.{judged}
use Rattle.lookup.specs.Lookup.{nodes_judged}
use Rattle.logs.specs.declared.Fault.{Fault}
use Rattle.logs.specs.declared.Kind.{Kind}
use Rattle.logs.specs.declared.Kind.TheVariants as K
use Rattle.logs.specs.Kinds.{Failed, kind_number}
use Rattle.logs.specs.Line.{line_kind}

abbrev pub bad_line : ℕ → Kind → Option Fault
bad_line n kind = Some (record { line = n; kind = kind })

-- what stands behind the last line feed is no line: unless it is nothing, line n lacks its line feed
abbrev pub behind_last : ℕ → List ℕ → Option Fault
behind_last n [] = None
behind_last n (x ∷ xs) = bad_line n K.Form

-- that of line n, or else that of the lines behind it
abbrev pub fault_or : ℕ → Failed → Option Fault → Option Fault
fault_or n None rest = rest
fault_or n (Some kind) rest = bad_line n kind

-- the first bad line from line n on, among the parts of a log at its line feeds
abbrev pub first_fault : (List ℕ → Failed) → ℕ → List (List ℕ) → Option Fault
first_fault kind n [] = None
first_fault kind n (l ∷ []) = behind_last n l
first_fault kind n (l ∷ m ∷ ls) = fault_or n (kind l) (first_fault kind (suc n) (m ∷ ls))

unfoldable pub log_fault : Group → List ℤ → List ℕ → Option Fault
log_fault g nodes log = first_fault (line_kind g nodes) 1 (split 10 log)

-- the whole call
unfoldable pub log_judged : Group → List ℤ → List ℕ → Result (Option Fault) Refusal
log_judged g nodes log =
    unless_refused Err (judged g)
    (unless_refused Err (nodes_judged g (length nodes))
    (Ok (log_fault g nodes log)))

-- ---- its numbers: line and kind, 0 and 0 of a log that passes and beside a refusal

pub record FaultNumbers : Type 0 where
  pub line : ℕ
  pub kind : ℕ

abbrev pub fault : ℕ → ℕ → FaultNumbers
fault line kind = record { line = line; kind = kind }

abbrev pub no_fault : FaultNumbers
no_fault = fault 0 0

abbrev pub fault_told : Option Fault → FaultNumbers
fault_told None = no_fault
fault_told (Some f) = fault f.line (kind_number f.kind)

abbrev pub judgement_fault : Result (Option Fault) Refusal → FaultNumbers
judgement_fault (Ok f) = fault_told f
judgement_fault (Err r) = no_fault
