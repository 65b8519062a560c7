-- Document 01's lookup in the chosen grid: the cell, its corners in the node list, refusals 8 and 11, and the fix.
use Rattle.std.specs.Prelude.{ℕ, ◌+◌, ◌*◌, ◌<◌, Bool, cond, List, ltb, ℤ, pos, get_or, Result, Ok, Err}
use Rattle.numbers.specs.First.{some}
use Rattle.cell.specs.declared.Corners.{Corners}
use Rattle.group.specs.Numbers.{is_mark}
use Rattle.group.specs.Refusals.{refuse_if}
use Rattle.cell.specs.Cell.{cell_along, weights_of, is_beyond, used_some, value_of}
use Rattle.cell.specs.Used.{SameUsed}
use Rattle.day.specs.Day.{result_of}
use Rattle.fix.specs.declared.Offset.{Offset}
use Rattle.fix.specs.declared.Cell.{Cell}
use Rattle.group.specs.declared.Refusal.{Refusal}
use Rattle.fix.specs.declared.Fix.{Fix}

-- the cell's node of lower indices, and the weights of its corners
unfoldable pub cell_of : Offset → Cell
cell_of l =
    let x = cell_along l.dx l.sx l.ni in let y = cell_along l.dy l.sy l.nj in
    record { i = x.index; j = y.index; weights = weights_of l.sx l.sy x.rest y.rest }

-- where parameter p, counted from 0, of node (i, j) stands in the node list
abbrev pub position : Offset → (i j p : ℕ) → ℕ
position l i j p = l.start + (j * l.ni + i) * l.np + p

abbrev pub node_at : Offset → List ℤ → (i j p : ℕ) → ℤ
node_at l nodes i j p = get_or nodes (position l i j p) (pos 0)

-- the corners of the cell whose node of lower indices is (i, j)
unfoldable pub corners_at : Offset → List ℤ → (i j p : ℕ) → Corners
corners_at l nodes i j p =
    record {
      v00 = node_at l nodes i j p;
      v10 = node_at l nodes (i + 1) j p;
      v01 = node_at l nodes i (j + 1) p;
      v11 = node_at l nodes (i + 1) (j + 1) p;
    }

unfoldable pub corners_of : Offset → List ℤ → ℕ → Corners
corners_of l nodes p = corners_at l nodes (cell_of l).i (cell_of l).j p

-- a used corner passes a test, any parameter
unfoldable pub corner_some : (ℤ → Bool) → Offset → List ℤ → Bool
corner_some test l nodes = some (λ p. used_some test (cell_of l).weights (corners_of l nodes p)) l.np

-- the value of parameter p, before the day factor
unfoldable pub value_in : Offset → List ℤ → ℕ → ℤ
value_in l nodes p = value_of (cell_of l).weights (corners_of l nodes p)

-- the result of parameter p; that of a missing parameter is 0
unfoldable pub result_at : Offset → List ℤ → ℤ → ℕ → ℤ
result_at l nodes factor p = cond (ltb p l.np) (result_of (value_in l nodes p) factor) (pos 0)

-- 8, then 11, then the fix in the grid of this number
unfoldable pub fix_in : Offset → List ℤ → ℤ → ℕ → Result Fix Refusal
fix_in l nodes factor grid =
    refuse_if Err (corner_some is_mark l nodes) 8 0
    (refuse_if Err (corner_some is_beyond l nodes) 11 0
    (Ok
    (record {
      grid = grid;
      first = result_at l nodes factor 0;
      second = result_at l nodes factor 1;
      third = result_at l nodes factor 2;
    })))

-- two node lists hold the same in each used corner of the point's cell
abbrev pub SameNodes : Offset → (nodes others : List ℤ) → Type 0
SameNodes l nodes others = (q : ℕ) → q < l.np → SameUsed (cell_of l).weights (corners_of l nodes q) (corners_of l others q)
