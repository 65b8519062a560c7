-- The promises of an explanation, proved.
use Prim.Native.Nat.{ℕ, suc, ◌+◌, ◌-◌, ◌≤◌, ◌<◌}
use mathlib.Core.Path.{◌≡◌, refl, sym, ap, ◌∙◌, subst}
use mathlib.Core.Bool.{Bool, true, false, not, cond, ◌&&◌}
use mathlib.Core.List.{List}
use mathlib.Core.Logic.{◌↔◌}
use native.Mathlib.Omega.{arith}
use borrow.Author.Tests.{lt-ltb, le-ltb, ltb-true, ne_eqb, eqb-false, not-true}
use lib.Dec.{ltb, eqb}
use lib.IntN.{ℤ, pos}
use lib.ListN.{get_or}
use Rattle.numbers.specs.Round.{round_z}
use Rattle.numbers.proofs.Bools.{and_left, and_right}
use Rattle.group.specs.declared.Group.{Group}
use Rattle.group.specs.declared.Point.{Point}
use Rattle.group.specs.declared.Refusal.{Refusal}
use Rattle.group.specs.Record.{grid_at}
use Rattle.group.proofs.RefusalLaws.{no_answer}
use Rattle.extent.specs.Extent.{holds}
use Rattle.ingroup.specs.InGroup.{chosen_in}
use Rattle.ingroup.proofs.InGroupLaws.{chosen_holds}
use Rattle.cell.specs.Cell.{cell_along, weighted_sum, value_of}
use Rattle.cell.proofs.AlongLaws.{InCell, along_within}
use Rattle.cell.proofs.SumLaws.{parts_whole, low_below}
use Rattle.day.specs.Day.{factor_of, result_of}
use Rattle.fix.specs.declared.Offset.{Offset}
use Rattle.fix.specs.declared.Fix.{Fix}
use Rattle.fix.specs.Answers.{result_in}
use Rattle.fix.specs.Fix.{cell_of, position, node_at, corners_at, corners_of, value_in, result_at}
use Rattle.fix.specs.Inside.{InsideGrid}
use Rattle.fix.proofs.OffsetLaws.{cell_weighed, cell_i, cell_j}
use Rattle.lookup.specs.Lookup.{offset_of, looked}
use Rattle.lookup.proofs.OffsetLaws.{offset_inside}
use Rattle.lookup.proofs.BestLaws.{chosen_is_best}
use Rattle.lookup.proofs.FoundLaws.{found}
use Rattle.explain.specs.Explain.{Worked, none_worked, part_worked, worked_in, is_other, other_rank, pieces_of, pieces_numbers, explained_by}
use Rattle.explain.specs.Flat.{Explainable}
use Rattle.explain.specs.Rework.{Again, Reworks, Explains}
use Rattle.explain.proofs.ExplainLaws.{by_fix, explainable}
use Rattle.std.specs.Prelude.{Result, Ok, Err}

-- ---- one parameter

module _ (l : Offset) (nodes : List ℤ) (factor : ℤ) (q : ℕ) where
  worked_part : q < l.np → worked_in l nodes factor q ≡ part_worked l nodes factor q
  unfolding worked_in
  worked_part h = rw (lt-ltb q l.np h) refl

  worked_missing : l.np ≤ q → worked_in l nodes factor q ≡ none_worked
  unfolding worked_in
  worked_missing h = rw (le-ltb q l.np h) refl

  -- its result is that of the fix
  worked_result : result_at l nodes factor q ≡ (worked_in l nodes factor q).result
  unfolding worked_in result_at
  worked_result = go (ltb q l.np)
    where
      go : (b : Bool) → cond b (result_of (value_in l nodes q) factor) (pos 0) ≡ (cond b (part_worked l nodes factor q) none_worked).result
      go true = refl
      go false = refl

-- ---- the pieces of an accepted lookup

module _ (g : Group) (nodes : List ℤ) (p : Point) (t : ℤ) (f : Fix) (e : looked g nodes p t ≡ Ok f) where
  abbrev ready : Explainable g nodes p t f.grid
  ready = explainable g nodes p t f e

  abbrev k : ℕ
  k = f.grid - 1

  abbrev l : Offset
  l = offset_of (grid_at g k) g.parameters p

  chosen : chosen_in g p.lon.0 p.lat.0 ≡ suc k
  chosen = let s = ready.some in sym ready.chosen ∙ omega arith

  inside : InsideGrid l
  inside = let h = chosen_holds g p.lon.0 p.lat.0 k chosen in offset_inside g ready.ready.accepted p k h.0 h.1

  lon_cell_lem : InCell l.dx l.sx l.ni (cell_along l.dx l.sx l.ni).index (cell_along l.dx l.sx l.ni).rest
  lon_cell_lem = along_within l.dx l.sx l.ni inside.sx_pos inside.ni_least inside.dx_most

  lat_cell_lem : InCell l.dy l.sy l.nj (cell_along l.dy l.sy l.nj).index (cell_along l.dy l.sy l.nj).rest
  lat_cell_lem = along_within l.dy l.sy l.nj inside.sy_pos inside.nj_least inside.dy_most

  -- another grid that holds the point
  named : (j : ℕ) → j < g.grids → (j + 1 ≡ f.grid → ⊥) → holds (grid_at g j) p.lon.0 p.lat.0 ≡ true → other_rank g p f.grid j ≡ (grid_at g j).rank
  unfolding is_other
  named j a b h = rw (lt-ltb j g.grids a, ne_eqb (j + 1) f.grid b, h) refl

  is_other_lem : (j : ℕ) → is_other g p f.grid j ≡ true → (j < g.grids) × (j + 1 ≡ f.grid → ⊥) × (holds (grid_at g j) p.lon.0 p.lat.0 ≡ true)
  unfolding is_other
  is_other_lem j b =
      let x = ltb j g.grids in let y = eqb (j + 1) f.grid in let z = holds (grid_at g j) p.lon.0 p.lat.0 in let c = and_right x (not y && z) b in
      (ltb-true j g.grids (and_left x (not y && z) b), eqb-false (j + 1) f.grid (not-true y (and_left (not y) z c)), and_right (not y) z c)

  others : (j : ℕ) → 0 < other_rank g p f.grid j → (j < g.grids) × (j + 1 ≡ f.grid → ⊥) × (holds (grid_at g j) p.lon.0 p.lat.0 ≡ true)
  others j h = go (is_other g p f.grid j) refl h
    where
      go : (b : Bool) → is_other g p f.grid j ≡ b → 0 < cond b (grid_at g j).rank 0 → (j < g.grids) × (j + 1 ≡ f.grid → ⊥) × (holds (grid_at g j) p.lon.0 p.lat.0 ≡ true)
      go true b h = is_other_lem j b
      go false b h = absurd (omega arith)

  abbrev factor : ℤ
  factor = factor_of g.function g.functions t

  -- a node of the cell, by the position of its first parameter
  stands : (i j q : ℕ) → node_at l nodes i j q ≡ get_or nodes (position l i j 0 + q) (pos 0)
  stands i j q = ap (λ (n : ℕ). get_or nodes n (pos 0)) (omega arith)

  module _ (q : ℕ) where
    corner_00 : (corners_of l nodes q).v00 ≡ node_at l nodes (cell_of l).i (cell_of l).j q
    unfolding corners_of corners_at
    corner_00 = refl

    corner_10 : (corners_of l nodes q).v10 ≡ node_at l nodes ((cell_of l).i + 1) (cell_of l).j q
    unfolding corners_of corners_at
    corner_10 = refl

    corner_01 : (corners_of l nodes q).v01 ≡ node_at l nodes (cell_of l).i ((cell_of l).j + 1) q
    unfolding corners_of corners_at
    corner_01 = refl

    corner_11 : (corners_of l nodes q).v11 ≡ node_at l nodes ((cell_of l).i + 1) ((cell_of l).j + 1) q
    unfolding corners_of corners_at
    corner_11 = refl

    value_is : value_in l nodes q ≡ round_z (weighted_sum (cell_of l).weights (corners_of l nodes q)) (cell_of l).weights.total
    unfolding value_in value_of
    value_is = refl

    -- the result of the fix
    result_is : q < 3 → (worked_in l nodes factor q).result ≡ result_in f q
    result_is h =
        let d = found g nodes p t f e in let n = d.number in let same : k ≡ d.k = omega arith in
        sym (worked_result l nodes factor q) ∙ ap (λ (m : ℕ). result_at (offset_of (grid_at g m) g.parameters p) nodes factor q) same ∙ sym (d.results q h)

  each : (q : ℕ) → q < g.parameters → Again nodes (pieces_of g nodes p t f.grid) q
  unfolding pieces_of offset_of
  each q h =
      let w = worked_part l nodes factor q h in let i = (cell_of l).i in let j = (cell_of l).j in
      record {
        v00 = ap (λ (x : Worked). x.corners.v00) w ∙ corner_00 q ∙ stands i j q;
        v10 = ap (λ (x : Worked). x.corners.v10) w ∙ corner_10 q ∙ stands (i + 1) j q;
        v01 = ap (λ (x : Worked). x.corners.v01) w ∙ corner_01 q ∙ stands i (j + 1) q;
        v11 = ap (λ (x : Worked). x.corners.v11) w ∙ corner_11 q ∙ stands (i + 1) (j + 1) q;
        sum = subst (λ (x : Worked). x.sum ≡ weighted_sum (cell_of l).weights x.corners) (sym w) refl;
        value = subst (λ (x : Worked). x.value ≡ round_z x.sum (cell_of l).weights.total) (sym w) (value_is q);
        result = subst (λ (x : Worked). x.result ≡ result_of x.value factor) (sym w) refl;
      }

  pub reworks : Reworks g nodes p t (pieces_of g nodes p t f.grid)
  unfolding pieces_of offset_of cell_of
  reworks =
      let c = lon_cell_lem in let d = lat_cell_lem in
      record {
        numbered = ready.some;
        best = chosen_is_best g p ready.ready.accepted ready.ready.point k chosen;
        named = named;
        others = others;
        lon = refl;
        sx = refl;
        sy = refl;
        along = sym c.point;
        across = sym d.point;
        fx = c.rest_most;
        fy = d.rest_most;
        i = cell_i inside;
        j = cell_j inside;
        weights = refl;
        total = (cell_weighed inside).sum;
        at00 = omega arith;
        at10 = omega arith;
        at01 = omega arith;
        at11 = omega arith;
        factor = refl;
        each = each;
        missing = worked_missing l nodes factor;
        answer = answer ∙ sym e;
      }
    where
      answer : ◌≡◌ {A = Result Fix Refusal}
          (Ok (record { grid = f.grid; first = (worked_in l nodes factor 0).result; second = (worked_in l nodes factor 1).result; third = (worked_in l nodes factor 2).result })) (Ok f)
      answer = λ i. Ok (record { grid = f.grid; first = result_is 0 (omega arith) i; second = result_is 1 (omega arith) i; third = result_is 2 (omega arith) i })

-- ---- the whole

-- what an answer is by what the lookup found
module _ (g : Group) (nodes : List ℤ) (p : Point) (t : ℤ) where
  refused : (x : Result Fix Refusal) (r : Refusal) → (explained_by g nodes p t x ≡ Err r) ↔ (x ≡ Err r)
  unfolding explained_by
  refused (Ok f) r = (λ e. absurd (no_answer _ r (sym e)), λ e. absurd (no_answer f r (sym e)))
  refused (Err s) r = (λ e. let same : s ≡ r = cc in ap Err same, λ e. let same : s ≡ r = cc in ap Err same)

  accepted : (x : Result Fix Refusal) → ((numbers : List ℤ) × (explained_by g nodes p t x ≡ Ok numbers)) ↔ ((f : Fix) × (x ≡ Ok f))
  unfolding explained_by
  accepted (Ok f) = (λ e. (f, refl), λ e. (pieces_numbers (pieces_of g nodes p t f.grid), refl))
  accepted (Err s) = (λ e. absurd (no_answer e.0 s e.1), λ e. absurd (no_answer e.0 s e.1))

pub explains : (g : Group) (nodes : List ℤ) (p : Point) (t : ℤ) → Explains g nodes p t
explains g nodes p t =
    record {
      refused = refused g nodes p t (looked g nodes p t);
      accepted = accepted g nodes p t (looked g nodes p t);
      pieces = λ f e. (sym (by_fix g nodes p t f e refl), reworks g nodes p t f e);
      sums = λ z. record { whole = parts_whole z; below = low_below z };
    }
