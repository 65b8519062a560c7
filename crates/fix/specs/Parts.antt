-- A fix one parameter at a time: what code works on.
use Rattle.std.specs.Prelude.{ℕ, ◌≡◌, Bool, ◌&&◌, List, ltb, ℤ}
use Rattle.cell.specs.declared.Weights.{Weights}
use Rattle.cell.specs.Cell.{is_beyond, used_some}
use Rattle.fix.specs.declared.Offset.{Offset}
use Rattle.fix.specs.Fix.{position, cell_of, corners_of}
use Rattle.fix.specs.Inside.{InsideGrid, RangeListed}

-- a point's offset with the weights of its cell's corners, and where the cell's node of lower indices stands in a list of so many nodes
pub record Begun (l : Offset) (count : ℕ) (w : Weights) (a : ℕ) : Type 0 where
  pub inside : InsideGrid l
  pub listed : RangeListed l count
  pub weights : w ≡ (cell_of l).weights
  pub low : a ≡ position l (cell_of l).i (cell_of l).j 0

-- a used corner is beyond the limit of node values in parameter p, which is not missing
unfoldable pub fault_at : Offset → List ℤ → ℕ → Bool
fault_at l nodes p = ltb p l.np && used_some is_beyond (cell_of l).weights (corners_of l nodes p)
