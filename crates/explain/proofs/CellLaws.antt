-- The sizes of what a point's cell is made of, and where its corners stand.
use Prim.Native.Nat.{ℕ, ◌+◌, ◌*◌, ◌≤◌, ◌<◌}
use mathlib.Core.Path.{◌≡◌, sym, ap, ◌∙◌, subst, transport}
use native.Mathlib.Nat.{le-mul_of_pos_right, mul_comm}
use native.Mathlib.Omega.{arith}
use mathlib.Core.List.{[], ◌∷◌}
use lib.IntN.{ℤ, pos}
use mir.Syntax.{w64}
use mir.Val.{SFits, to_z, of_z}
use mir.ValLaws.{to_z_pos, to_z-of_z}
use Rattle.group.specs.Numbers.{grids_most, spacing_most, list_most}
use Rattle.cell.specs.declared.Along.{Along}
use Rattle.cell.specs.declared.Weights.{Weights}
use Rattle.cell.specs.Cell.{cell_along, weights_of}
use Rattle.cell.specs.Sizes.{Distances}
use Rattle.fix.specs.declared.Offset.{Offset}
use Rattle.fix.specs.Fix.{cell_of, position}
use Rattle.fix.specs.Inside.{InsideGrid}
use Rattle.explain.specs.Explain.{pieces_at, cell_numbers}
use Rattle.fix.proofs.OffsetLaws.{distances, cell_weighed, cell_i, cell_j, stands, around}

module _ {l : Offset} (h : InsideGrid l) where
  -- what code works out
  module _ {x y : Along} (ex : x ≡ cell_along l.dx l.sx l.ni) (ey : y ≡ cell_along l.dy l.sy l.nj) where
    pub in_distances : Distances l.sx l.sy x.rest y.rest
    in_distances = transport (λ i. Distances l.sx l.sy (sym ex i).rest (sym ey i).rest) (distances h)

    pub in_grid : (x.index < l.ni) × (y.index < l.nj)
    unfolding cell_of
    in_grid = let i = cell_i h in let j = cell_j h in transport (λ i. ((sym ex i).index < l.ni) × ((sym ey i).index < l.nj)) (omega arith, omega arith)

module _ {l : Offset} (h : InsideGrid l) (n : 0 < l.np) where
  -- of the point's cell (i, j), with its weights w and its node of lower indices at a
  pub record Sized (i j fx fy : ℕ) (w : Weights) (a : ℕ) : Type 0 where
    pub i_most : i ≤ list_most
    pub j_most : j ≤ list_most
    pub fx_most : fx ≤ spacing_most
    pub fy_most : fy ≤ spacing_most
    pub sum : w.w00 + w.w10 + w.w01 + w.w11 ≡ w.total
    pub total : w.total ≤ spacing_most * spacing_most
    pub row : l.ni * l.np ≤ list_most
    pub east : position l (i + 1) j 0 ≡ a + l.np
    pub north : position l i (j + 1) 0 ≡ a + l.ni * l.np
    pub both : position l (i + 1) (j + 1) 0 ≡ a + l.ni * l.np + l.np
    pub last : a + l.ni * l.np + l.np ≤ list_most

  of_cell : Sized (cell_of l).i (cell_of l).j (cell_along l.dx l.sx l.ni).rest (cell_along l.dy l.sy l.nj).rest (cell_of l).weights (position l (cell_of l).i (cell_of l).j 0)
  of_cell =
      let i = (cell_of l).i in let j = (cell_of l).j in
      let ci = cell_i h in let cj = cell_j h in
      let a = around h i j 0 ci cj n in let s = stands h i j 0 (omega arith) (omega arith) n in
      let w = cell_weighed h in let d = distances h in let z = h.sx_most in let u = h.sy_most in
      let m : l.nj ≤ l.nj * l.ni = le-mul_of_pos_right l.nj (omega arith) in
      record {
        i_most = omega (arith, s);
        j_most = omega (arith, s, mul_comm l.nj l.ni);
        fx_most = omega (arith, d);
        fy_most = omega (arith, d);
        sum = w.sum;
        total = w.most;
        row = omega (arith, a);
        east = omega (arith, a);
        north = omega (arith, a);
        both = omega (arith, a);
        last = omega (arith, a);
      }

  -- of what code works out
  module _ {x y : Along} {w : Weights} (ex : x ≡ cell_along l.dx l.sx l.ni) (ey : y ≡ cell_along l.dy l.sy l.nj) (ew : w ≡ weights_of l.sx l.sy x.rest y.rest) where
    pub weights_are : w ≡ (cell_of l).weights
    unfolding cell_of
    weights_are = ew ∙ (λ i. weights_of l.sx l.sy (ex i).rest (ey i).rest)

    pub sized : {a : ℕ} → a ≡ position l x.index y.index 0 → Sized x.index y.index x.rest y.rest w a
    unfolding cell_of
    sized ea =
        subst (λ (b : ℕ). Sized x.index y.index x.rest y.rest w b) (sym ea)
        (transport (λ i. Sized (sym ex i).index (sym ey i).index (sym ex i).rest (sym ey i).rest (sym weights_are i) (position l (sym ex i).index (sym ey i).index 0)) of_cell)

    -- as numbers of the machine
    pub cell_told : {a c : ℕ} {lon factor : ℤ} → a ≡ position l x.index y.index 0 → c ≤ grids_most → SFits w64 lon → SFits w64 factor
        → to_z w64 c ∷ to_z w64 (of_z w64 lon) ∷ to_z w64 x.index ∷ to_z w64 y.index ∷ to_z w64 x.rest ∷ to_z w64 y.rest
        ∷ to_z w64 l.sx ∷ to_z w64 l.sy ∷ to_z w64 w.w00 ∷ to_z w64 w.w10 ∷ to_z w64 w.w01 ∷ to_z w64 w.w11 ∷ to_z w64 w.total
        ∷ to_z w64 a ∷ to_z w64 (a + l.np) ∷ to_z w64 (a + l.ni * l.np) ∷ to_z w64 (a + l.ni * l.np + l.np) ∷ to_z w64 (of_z w64 factor) ∷ []
        ≡ cell_numbers (pieces_at c lon l [] factor (λ k. 0))
    unfolding cell_numbers cell_of
    cell_told {a} {c} {lon} {factor} ea ec el ef =
        let z = sized ea in let sx = h.sx_most in let sy = h.sy_most in
        let s = weights_are in
        λ i.
        to_z_pos w64 c (omega arith) i ∷ to_z-of_z w64 lon el i
        ∷ (to_z_pos w64 x.index (omega (arith, z)) ∙ ap (λ (r : Along). pos r.index) ex) i
        ∷ (to_z_pos w64 y.index (omega (arith, z)) ∙ ap (λ (r : Along). pos r.index) ey) i
        ∷ (to_z_pos w64 x.rest (omega (arith, z)) ∙ ap (λ (r : Along). pos r.rest) ex) i
        ∷ (to_z_pos w64 y.rest (omega (arith, z)) ∙ ap (λ (r : Along). pos r.rest) ey) i
        ∷ to_z_pos w64 l.sx (omega arith) i ∷ to_z_pos w64 l.sy (omega arith) i
        ∷ (to_z_pos w64 w.w00 (omega (arith, z)) ∙ ap (λ (v : Weights). pos v.w00) s) i
        ∷ (to_z_pos w64 w.w10 (omega (arith, z)) ∙ ap (λ (v : Weights). pos v.w10) s) i
        ∷ (to_z_pos w64 w.w01 (omega (arith, z)) ∙ ap (λ (v : Weights). pos v.w01) s) i
        ∷ (to_z_pos w64 w.w11 (omega (arith, z)) ∙ ap (λ (v : Weights). pos v.w11) s) i
        ∷ (to_z_pos w64 w.total (omega (arith, z)) ∙ ap (λ (v : Weights). pos v.total) s) i
        ∷ (to_z_pos w64 a (omega (arith, z)) ∙ ap (λ (n : ℕ). pos n) ea ∙ here (λ i j. position l i j 0)) i
        ∷ (to_z_pos w64 (a + l.np) (omega (arith, z)) ∙ ap (λ (n : ℕ). pos n) (sym z.east) ∙ here (λ i j. position l (i + 1) j 0)) i
        ∷ (to_z_pos w64 (a + l.ni * l.np) (omega (arith, z)) ∙ ap (λ (n : ℕ). pos n) (sym z.north) ∙ here (λ i j. position l i (j + 1) 0)) i
        ∷ (to_z_pos w64 (a + l.ni * l.np + l.np) (omega (arith, z)) ∙ ap (λ (n : ℕ). pos n) (sym z.both) ∙ here (λ i j. position l (i + 1) (j + 1) 0)) i
        ∷ to_z-of_z w64 factor ef i ∷ []
      where
        here : (f : ℕ → ℕ → ℕ) → pos (f x.index y.index) ≡ pos (f (cell_along l.dx l.sx l.ni).index (cell_along l.dy l.sy l.nj).index)
        here f = λ i. pos (f (ex i).index (ey i).index)
