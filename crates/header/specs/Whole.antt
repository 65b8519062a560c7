-- A whole header: the group line, its functions, its grids, and nothing behind them.
use Rattle.std.specs.Prelude.{ℕ, ◌+◌, List, [], ◌∷◌, ◌++◌, take, Result, Ok, Err}
use Rattle.text.specs.Parts.{split}
use Rattle.group.specs.Numbers.{functions_most, grids_most}
use Rattle.group.specs.declared.Refusal.{Refusal}
use Rattle.group.specs.declared.Function.{Function}
use Rattle.group.specs.declared.Grid.{Grid}
use Rattle.group.specs.declared.Group.{Group}
use Rattle.line.specs.declared.Head.{Head}
use Rattle.group.specs.Blank.{blank_function, blank_grid}
use Rattle.group.specs.Refusals.{refusal}
use Rattle.header.specs.Items.{Items, refused, items, read_items, closed, entries}
use Rattle.line.specs.Lines.{head_line, head_text, function_line, function_text, grid_line, grid_text}

-- the lines of a header: the first refusal, or the group line, the functions and the grids
pub data Header (R D : Type 0) : Type 0 where
  stopped : Refusal → Header R D
  header : Head → List R → List D → Header R D

module _ {R D : Type 0} where
  -- nothing stands behind the last line feed, else line n is bad
  abbrev pub ending : ℕ → List (List ℕ) → Header R D → Header R D
  ending n [] h = stopped (refusal 1 n)
  ending n ([] ∷ []) h = h
  ending n ([] ∷ q ∷ ps) h = stopped (refusal 1 n)
  ending n ((x ∷ xs) ∷ ps) h = stopped (refusal 1 n)

  abbrev pub after_grids : ℕ → Head → List R → Items D → Header R D
  after_grids n h rs (refused r) = stopped r
  after_grids n h rs (items ds ls) = ending n ls (header h rs ds)

-- over any two kinds of line: that of the functions, and that of the grids, which may go by the group line and by the parts of the text
-- from the first grid line on
module _ {R D : Type 0} (function : ℕ → List ℕ → Result R Refusal) (grid : Head → List (List ℕ) → ℕ → List ℕ → Result D Refusal) where
  abbrev pub after_functions_of : Head → Items R → Header R D
  after_functions_of h (refused r) = stopped r
  after_functions_of h (items rs ls) = after_grids (2 + h.functions + h.grids) h rs (read_items (grid h ls) h.grids (2 + h.functions) ls)

  -- the lines behind the group line
  abbrev pub read_entries_of : Head → List (List ℕ) → Header R D
  read_entries_of h ls = after_functions_of h (read_items function h.functions 2 ls)

  abbrev pub after_head_of : Items Head → Header R D
  after_head_of (refused r) = stopped r
  after_head_of (items [] ls) = stopped (refusal 1 1)
  after_head_of (items (h ∷ hs) ls) = read_entries_of h ls

  -- line by line; on one line 1 before 2
  abbrev pub read_lines_of : List ℕ → Header R D
  read_lines_of text = after_head_of (read_items head_line 1 1 (split 10 text))

-- all grid lines are of one kind
abbrev pub grid_lines : Head → List (List ℕ) → ℕ → List ℕ → Result Grid Refusal
grid_lines h ls = grid_line

abbrev pub read_lines : List ℕ → Header Function Grid
read_lines = read_lines_of function_line grid_lines

-- the record of a header's lines
abbrev pub group_of_lines : Head → List Function → List Grid → Group
group_of_lines h rs ds =
    record {
      name = h.name;
      unit = h.unit;
      quantum = h.quantum;
      parameters = h.parameters;
      functions = h.functions;
      grids = h.grids;
      function = entries functions_most blank_function rs;
      grid = entries grids_most blank_grid ds;
    }

-- a text's first refusal, or the record of its lines
abbrev pub lines_reading : Header Function Grid → Result Group Refusal
lines_reading (stopped r) = Err r
lines_reading (header h rs ds) = Ok (group_of_lines h rs ds)

-- the lines of a group
abbrev pub head_of_group : Group → Head
head_of_group g = record { name = g.name; unit = g.unit; quantum = g.quantum; parameters = g.parameters; functions = g.functions; grids = g.grids }

abbrev pub lines_text : {R D : Type 0} → (R → List ℕ) → (D → List ℕ) → Head → List R → List D → List ℕ
lines_text function grid h rs ds = closed head_text (h ∷ []) ++ (closed function rs ++ closed grid ds)

-- a group as text
unfoldable pub header_text : Group → List ℕ
header_text g = lines_text function_text grid_text (head_of_group g) (take g.functions g.function) (take g.grids g.grid)
