-- What a lookup is made of: the pieces by which its answer is worked out, each by the lookup's own definition.
use Rattle.std.specs.Prelude.{ℕ, ◌+◌, ◌-◌, ◌*◌, Bool, not, cond, ◌&&◌, List, [], ◌∷◌, ◌++◌, ltb, eqb, ℤ, pos, Result, Ok, Err}
use Rattle.group.specs.declared.Group.{Group}
use Rattle.group.specs.declared.Point.{Point}
use Rattle.group.specs.Numbers.{parameters_most, grids_most}
use Rattle.group.specs.Record.{grid_at}
use Rattle.extent.specs.Extent.{lon_span, holds, lon_used}
use Rattle.abi.specs.Abi.{list_of}
use Rattle.cell.specs.declared.Weights.{Weights}
use Rattle.cell.specs.declared.Corners.{Corners}
use Rattle.cell.specs.Cell.{cell_along, weighted_sum}
use Rattle.cell.specs.TwoParts.{high_part, low_part}
use Rattle.day.specs.Day.{factor_of, result_of}
use Rattle.fix.specs.declared.Offset.{Offset}
use Rattle.fix.specs.Fix.{cell_of, position, corners_of, value_in}
use Rattle.lookup.specs.Lookup.{offset_of, looked}
use Rattle.group.specs.declared.Refusal.{Refusal}
use Rattle.fix.specs.declared.Fix.{Fix}

-- of one parameter: what the corners hold, their weighted sum, the value and the result
pub record Worked : Type 0 where
  pub corners : Corners
  pub sum : ℤ
  pub value : ℤ
  pub result : ℤ

-- of the point in the chosen grid
pub record Pieces : Type 0 where
  -- the number of the chosen grid, from 1
  pub grid : ℕ
  -- the longitude used
  pub lon : ℤ
  -- the cell's node of lower indices
  pub i : ℕ
  pub j : ℕ
  -- the distances from it, and the spacing sizes
  pub fx : ℕ
  pub fy : ℕ
  pub sx : ℕ
  pub sy : ℕ
  -- the weights of the corners (0, 0), (1, 0), (0, 1), (1, 1), and their total
  pub weights : Weights
  -- where the first parameter of each corner stands in the node list
  pub at00 : ℕ
  pub at10 : ℕ
  pub at01 : ℕ
  pub at11 : ℕ
  -- the day's factor
  pub factor : ℤ
  -- what each parameter comes from, from 0
  pub worked : ℕ → Worked
  -- the rank of grid k, from 0, where it is another grid that holds the point, else 0
  pub other : ℕ → ℕ

-- a missing parameter is made of nothing
abbrev pub none_worked : Worked
none_worked = record { corners = record { v00 = pos 0; v10 = pos 0; v01 = pos 0; v11 = pos 0 }; sum = pos 0; value = pos 0; result = pos 0 }

abbrev pub part_worked : Offset → List ℤ → ℤ → ℕ → Worked
part_worked l nodes factor p =
    record {
      corners = corners_of l nodes p;
      sum = weighted_sum (cell_of l).weights (corners_of l nodes p);
      value = value_in l nodes p;
      result = result_of (value_in l nodes p) factor;
    }

unfoldable pub worked_in : Offset → List ℤ → ℤ → ℕ → Worked
worked_in l nodes factor p = cond (ltb p l.np) (part_worked l nodes factor p) none_worked

-- grid k, from 0, is another one of the group's than that numbered c, from 1, and holds the point
unfoldable pub is_other : Group → Point → (c k : ℕ) → Bool
is_other g p c k = ltb k g.grids && (not (eqb (k + 1) c) && holds (grid_at g k) p.lon.0 p.lat.0)

abbrev pub other_rank : Group → Point → (c k : ℕ) → ℕ
other_rank g p c k = cond (is_other g p c k) (grid_at g k).rank 0

-- of a point that lies so in the grid numbered c
abbrev pub pieces_at : (c : ℕ) → (lon : ℤ) → Offset → List ℤ → (factor : ℤ) → (ℕ → ℕ) → Pieces
pieces_at c lon l nodes factor other =
    let i = (cell_of l).i in let j = (cell_of l).j in
    record {
      grid = c;
      lon = lon;
      i = i;
      j = j;
      fx = (cell_along l.dx l.sx l.ni).rest;
      fy = (cell_along l.dy l.sy l.nj).rest;
      sx = l.sx;
      sy = l.sy;
      weights = (cell_of l).weights;
      at00 = position l i j 0;
      at10 = position l (i + 1) j 0;
      at01 = position l i (j + 1) 0;
      at11 = position l (i + 1) (j + 1) 0;
      factor = factor;
      worked = worked_in l nodes factor;
      other = other;
    }

-- of a point on a day, in the grid numbered c
unfoldable pub pieces_of : Group → List ℤ → Point → ℤ → (c : ℕ) → Pieces
pieces_of g nodes p t c =
    pieces_at c (lon_used (lon_span (grid_at g (c - 1))) p.lon.0) (offset_of (grid_at g (c - 1)) g.parameters p) nodes
    (factor_of g.function g.functions t) (other_rank g p c)

-- ---- as numbers

-- eight of each parameter; the sum is the first of its two times 2 to the power 32, and the second
unfoldable pub worked_numbers : Worked → List ℤ
worked_numbers w =
    w.corners.v00 ∷ w.corners.v10 ∷ w.corners.v01 ∷ w.corners.v11
    ∷ high_part w.sum ∷ pos (low_part w.sum) ∷ w.value ∷ w.result ∷ []

unfoldable pub cell_numbers : Pieces → List ℤ
cell_numbers e =
    pos e.grid ∷ e.lon ∷ pos e.i ∷ pos e.j ∷ pos e.fx ∷ pos e.fy ∷ pos e.sx ∷ pos e.sy
    ∷ pos e.weights.w00 ∷ pos e.weights.w10 ∷ pos e.weights.w01 ∷ pos e.weights.w11 ∷ pos e.weights.total
    ∷ pos e.at00 ∷ pos e.at10 ∷ pos e.at01 ∷ pos e.at11 ∷ e.factor ∷ []

-- the cell's, those of each parameter, and one for each grid
unfoldable pub pieces_numbers : Pieces → List ℤ
pieces_numbers e =
    cell_numbers e
    ++ (worked_numbers (e.worked 0) ++ (worked_numbers (e.worked 1) ++ (worked_numbers (e.worked 2) ++ list_of (λ k. pos (e.other k)) grids_most)))

-- how many there are
abbrev pub explanation_words : ℕ
explanation_words = 18 + parameters_most * 8 + grids_most

-- ---- the answer: refused as the lookup is, else the pieces of its grid

unfoldable pub explained_by : Group → List ℤ → Point → ℤ → Result Fix Refusal → Result (List ℤ) Refusal
explained_by g nodes p t (Ok f) = Ok (pieces_numbers (pieces_of g nodes p t f.grid))
explained_by g nodes p t (Err r) = Err r

abbrev pub explained : Group → List ℤ → Point → ℤ → Result (List ℤ) Refusal
explained g nodes p t = explained_by g nodes p t (looked g nodes p t)
