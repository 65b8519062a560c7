-- Demand 2 of the header text in its own words, of what reading and writing answer; and a group as a record beside its text.
use Rattle.std.specs.Prelude.{ℕ, ◌≤◌, ◌<◌, ◌≡◌, true, List, length, take, drop, Result, Ok, Err}
use Rattle.group.specs.Numbers.{name_most, functions_most, grids_most}
use Rattle.group.specs.Record.{function_at, grid_at}
use Rattle.group.specs.Limits.{name_fits, function_blank, grid_blank}
use Rattle.group.specs.declared.Group.{Group}
use Rattle.judge.specs.Judge.{judged}
use Rattle.header.specs.Whole.{header_text}
use Rattle.group.specs.Refusals.{no_refusal, refusal_of}
use Rattle.header.specs.Header.{read_header, written, written_count, bytes_after}
use Rattle.group.specs.declared.Refusal.{Refusal}

-- the text stands in front, and every byte behind it is as it was
pub record InFront (text before after : List ℕ) : Type 0 where
  pub front : take (length text) after ≡ text
  pub behind : drop (length text) after ≡ drop (length text) before

-- r answers the reading of t: a refusal alone, or a group
pub record TextRead (t : List ℕ) (r : Result Group Refusal) : Type 0 where
  -- where nothing is refused a group is handed back
  pub read : (refusal_of r).number ≡ 0 → (g : Group) × (r ≡ Ok g)
  -- the group of an accepted text is accepted by the judge
  pub accepted : (g : Group) → r ≡ Ok g → judged g ≡ Ok tt
  -- and written back as the same bytes into any output that is long enough: the text's length is answered, and the rest stays
  pub told : (g : Group) → r ≡ Ok g → (out : List ℕ) → length t ≤ length out → refusal_of (written g (length out)) ≡ no_refusal
  pub count : (g : Group) → r ≡ Ok g → (out : List ℕ) → length t ≤ length out → written_count (written g (length out)) ≡ length t
  pub bytes : (g : Group) → r ≡ Ok g → (out : List ℕ) → length t ≤ length out → InFront t out (bytes_after g out)

-- w answers the writing of g into `out`, which is `after` then
pub record TextWritten (g : Group) (out : List ℕ) (w : Result ℕ Refusal) (after : List ℕ) : Type 0 where
  -- the bytes written, as many as the count, read back as that group; all behind them stays
  pub back : (refusal_of w).number ≡ 0 → read_header (take (written_count w) after) ≡ Ok g
  pub behind : (refusal_of w).number ≡ 0 → drop (written_count w) after ≡ drop (written_count w) out
  -- after a refusal the output is unchanged
  pub unchanged : ((refusal_of w).number ≡ 0 → ⊥) → after ≡ out

-- the arrays have their lengths, as in every record of the code
pub record Shaped (g : Group) : Type 0 where
  pub name : length g.name.bytes ≡ name_most
  pub function : length g.function ≡ functions_most
  pub grid : length g.grid ≡ grids_most
  pub names : (k : ℕ) → k < grids_most → length (grid_at g k).name.bytes ≡ name_most

-- names are well formed with zeros behind them, and unused entries are zero; all numbers may be any, the counts among them
pub record Formed (g : Group) : Type 0 where
  pub shape : Shaped g
  pub name : name_fits g.name ≡ true
  pub names : (k : ℕ) → k < grids_most → k < g.grids → name_fits (grid_at g k).name ≡ true
  pub no_function : (k : ℕ) → k < functions_most → g.functions ≤ k → function_blank (function_at g k) ≡ true
  pub no_grid : (k : ℕ) → k < grids_most → g.grids ≤ k → grid_blank (grid_at g k) ≡ true

-- a group handed over as a record is judged as its text would be: the same verdict, and where accepted that group. A count beyond
-- its limit stands in the text as it is, before the lines of all entries
pub record JudgedAsText (g : Group) : Type 0 where
  pub refused : (r : Refusal) → judged g ≡ Err r → read_header (header_text g) ≡ Err r
  pub accepted : judged g ≡ Ok tt → read_header (header_text g) ≡ Ok g
