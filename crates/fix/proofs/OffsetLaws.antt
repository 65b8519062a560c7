-- A point's cell lies in its grid, and its corners in the node list.
use Prim.Native.Nat.{ℕ, suc, ◌+◌, ◌*◌, ◌≤◌, ◌<◌}
use mathlib.Core.Path.{◌≡◌, ap, ◌∙◌}
use native.Mathlib.Nat.{add-mul, mul-le-mul_right, mul_comm, suc-mul, le-mul_of_pos_right}
use native.Mathlib.Omega.{arith}
use mathlib.Core.Bool.{false}
use mathlib.Core.List.{List}
use borrow.Author.Tests.{ltb-false}
use lib.IntN.{ℤ, nat_abs}
use Rattle.numbers.proofs.FirstLaws.{none_at}
use Rattle.group.specs.Numbers.{list_most, value_most}
use Rattle.cell.specs.Cell.{cell_along, is_beyond, used_some}
use Rattle.cell.specs.Sizes.{Distances, Weighed}
use Rattle.cell.proofs.AlongLaws.{InCell, along_within}
use Rattle.cell.proofs.WeightLaws.{weighed}
use Rattle.cell.proofs.ValueLaws.{none_beyond, value_bound}
use Rattle.fix.specs.declared.Offset.{Offset}
use Rattle.fix.specs.Fix.{cell_of, corners_of, corner_some, value_in}
use Rattle.fix.specs.Inside.{InsideGrid}

module _ {l : Offset} (h : InsideGrid l) where
  abbrev lon_cell : InCell l.dx l.sx l.ni (cell_along l.dx l.sx l.ni).index (cell_along l.dx l.sx l.ni).rest
  lon_cell = along_within l.dx l.sx l.ni h.sx_pos h.ni_least h.dx_most

  abbrev lat_cell : InCell l.dy l.sy l.nj (cell_along l.dy l.sy l.nj).index (cell_along l.dy l.sy l.nj).rest
  lat_cell = along_within l.dy l.sy l.nj h.sy_pos h.nj_least h.dy_most

  pub distances : Distances l.sx l.sy (cell_along l.dx l.sx l.ni).rest (cell_along l.dy l.sy l.nj).rest
  distances =
      record {
        sx_pos = h.sx_pos;
        sy_pos = h.sy_pos;
        sx_most = h.sx_most;
        sy_most = h.sy_most;
        fx_most = lon_cell.rest_most;
        fy_most = lat_cell.rest_most;
      }

  pub cell_weighed : Weighed (cell_of l).weights
  unfolding cell_of
  cell_weighed = weighed distances

  -- no corner lies past the last node
  pub cell_i : (cell_of l).i + 1 < l.ni
  unfolding cell_of
  cell_i = let m = lon_cell.index_most in omega arith

  pub cell_j : (cell_of l).j + 1 < l.nj
  unfolding cell_of
  cell_j = let m = lat_cell.index_most in omega arith

  -- where a node's parameter stands
  pub record Stands (i j p : ℕ) : Type 0 where
    pub node : j * l.ni + i < l.ni * l.nj
    pub count : l.ni * l.nj ≤ l.ni * l.nj * l.np
    pub inner : (j * l.ni + i) * l.np + p < l.ni * l.nj * l.np
    pub range : l.start + l.ni * l.nj * l.np ≤ list_most

  pub stands : (i j p : ℕ) → i < l.ni → j < l.nj → p < l.np → Stands i j p
  stands i j p hi hj hp =
      let a : suc j * l.ni ≤ l.nj * l.ni = mul-le-mul_right l.ni hj in
      let b = suc-mul j l.ni in let c = mul_comm l.nj l.ni in
      let n : j * l.ni + i < l.ni * l.nj = omega arith in
      let d : suc (j * l.ni + i) * l.np ≤ l.ni * l.nj * l.np = mul-le-mul_right l.np n in
      let e = suc-mul (j * l.ni + i) l.np in
      record {
        node = n;
        count = le-mul_of_pos_right (l.ni * l.nj) (omega arith);
        inner = omega arith;
        range = h.range_most;
      }

  -- the corners stand one node, one row, and both behind the cell's node of lower indices
  pub record Around (i j p : ℕ) : Type 0 where
    pub east : (j * l.ni + (i + 1)) * l.np ≡ (j * l.ni + i) * l.np + l.np
    pub north : ((j + 1) * l.ni + i) * l.np ≡ (j * l.ni + i) * l.np + l.ni * l.np
    pub both : ((j + 1) * l.ni + (i + 1)) * l.np ≡ (j * l.ni + i) * l.np + l.ni * l.np + l.np
    pub inner : (j * l.ni + i) * l.np + l.ni * l.np + l.np + p < l.ni * l.nj * l.np
    pub range : l.start + l.ni * l.nj * l.np ≤ list_most

  pub around : (i j p : ℕ) → i + 1 < l.ni → j + 1 < l.nj → p < l.np → Around i j p
  around i j p hi hj hp =
      let a = add-mul (j * l.ni + i) 1 l.np in
      let b = add-mul j 1 l.ni in
      let e : (j * l.ni + (i + 1)) * l.np ≡ (j * l.ni + i) * l.np + l.np = ap (λ (n : ℕ). n * l.np) (omega arith) ∙ a ∙ omega arith in
      let n : ((j + 1) * l.ni + i) * l.np ≡ (j * l.ni + i) * l.np + l.ni * l.np =
      ap (λ (n : ℕ). n * l.np) (omega arith) ∙ add-mul (j * l.ni + i) l.ni l.np in
      let d = add-mul (j * l.ni + i + l.ni) 1 l.np in
      let f = add-mul (j * l.ni + i) l.ni l.np in
      let m : ((j + 1) * l.ni + (i + 1)) * l.np ≡ (j * l.ni + i) * l.np + l.ni * l.np + l.np =
      ap (λ (n : ℕ). n * l.np) (omega arith) ∙ d ∙ omega arith in
      let s = stands (i + 1) (j + 1) p hi hj hp in
      record { east = e; north = n; both = m; inner = omega arith; range = h.range_most }

-- ---- the value in a cell whose used corners hold node values
module _ {l : Offset} (h : InsideGrid l) (nodes : List ℤ) where
  pub part_most : (p : ℕ) → used_some is_beyond (cell_of l).weights (corners_of l nodes p) ≡ false → nat_abs (value_in l nodes p) ≤ value_most
  unfolding value_in
  part_most p e =
      value_bound (cell_weighed h) (corners_of l nodes p) value_most (none_beyond (cell_of l).weights (corners_of l nodes p) e)

  pub value_most_lem : corner_some is_beyond l nodes ≡ false → (p : ℕ) → p < l.np → nat_abs (value_in l nodes p) ≤ value_most
  unfolding corner_some
  value_most_lem e p k =
      part_most p (none_at (λ p. used_some is_beyond (cell_of l).weights (corners_of l nodes p)) l.np p (ltb-false _ _ e) k)
