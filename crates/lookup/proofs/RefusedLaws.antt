-- A lookup refuses exactly when the table says, in document 01's order.
use Prim.Native.Nat.{ℕ, zero, suc, ◌<◌}
use mathlib.Core.Path.{◌≡◌, refl, sym, ◌∙◌, subst}
use mathlib.Core.Bool.{Bool, true, false, not, ◌&&◌}
use mathlib.Core.List.{List}
use mathlib.Core.Logic.{inl, inr, ⊎_elim, ◌↔◌}
use borrow.Author.Tests.{leb-false, lt-leb, not-true, not-false}
use lib.IntN.{ℤ, nat_abs}
use Rattle.numbers.specs.Order.{within}
use Rattle.numbers.proofs.Bools.{true_false, and_left, and_right}
use Rattle.numbers.proofs.OrderLaws.{within_test}
use Rattle.group.specs.declared.Group.{Group}
use Rattle.group.specs.declared.Point.{Point}
use Rattle.group.specs.declared.Refusal.{Refusal}
use Rattle.judge.specs.Judge.{judged}
use Rattle.ingroup.specs.InGroup.{chosen_in}
use Rattle.ingroup.proofs.InGroupLaws.{none_holds}
use Rattle.group.specs.Numbers.{lon_most, lat_most, lon_admitted, lat_admitted, value_most, mark, is_mark, day_most, day_fits}
use Rattle.cell.specs.Cell.{is_beyond}
use Rattle.cell.proofs.ValueLaws.{is_mark_lem, is_beyond_lem}
use Rattle.day.specs.Day.{factor_of}
use Rattle.fix.specs.Fix.{corner_some, result_at, fix_in}
use Rattle.fix.proofs.FixLaws.{corner_some_lem, some_corner}
use Rattle.lookup.specs.Lookup.{point_fits, offset_of, fix_at, fix_of, looked_in, looked}
use Rattle.lookup.specs.Demand2.{seen_from, BestGrid, PointOutside, NoneHolds, UsedCorner, DayOutside, TableRow, ShortList, NothingRefused, ◌then◌, Refuses}
use Rattle.lookup.proofs.RowLaws.{Single, single_then, single_judged, single_row, single_short, single_none, row_stage, judge_stage, short_stage}
use Rattle.lookup.proofs.BestLaws.{chosen_is_best, one_best}
use Rattle.std.specs.Prelude.{Ok, Err}
use Rattle.group.specs.Refusals.{refusal_of}

-- ---- what each test says

outside : (m : ℕ) (z : ℤ) → within m z ≡ false → m < nat_abs z
outside m z e = leb-false (nat_abs z) m (sym (within_test m z) ∙ e)

inside : (m : ℕ) (z : ℤ) → within m z ≡ true → m < nat_abs z → ⊥
inside m z e h = true_false e (within_test m z ∙ lt-leb (nat_abs z) m h)

point_outside : (p : Point) → point_fits p ≡ false → PointOutside p
point_outside p e = pick (lon_admitted p.lon.0) refl e
  where
    pick : (b : Bool) → lon_admitted p.lon.0 ≡ b → (b && lat_admitted p.lat.0) ≡ false → PointOutside p
    pick true w e = inr (outside lat_most p.lat.0 e)
    pick false w e = inl (outside lon_most p.lon.0 w)

point_inside : (p : Point) → point_fits p ≡ true → PointOutside p → ⊥
point_inside p e =
    let x = lon_admitted p.lon.0 in let y = lat_admitted p.lat.0 in
    ⊎_elim (inside lon_most p.lon.0 (and_left x y e)) (inside lat_most p.lat.0 (and_right x y e))

module _ (g : Group) (nodes : List ℤ) where
  module _ (p : Point) (test : ℤ → Bool) (P : ℤ → Type 0) (tests : (z : ℤ) → (test z ≡ true) ↔ P z) (k : ℕ) (b : BestGrid g p k) where
    corner_used : corner_some test (seen_from g p k) nodes ≡ true → UsedCorner P g nodes p
    unfolding offset_of
    corner_used e =
        let s = corner_some_lem test P tests (seen_from g p k) nodes e in
        record { k = k; grid = b; q = s.0; parameter = s.1; corner = s.2 }

    corner_unused : corner_some test (seen_from g p k) nodes ≡ false → UsedCorner P g nodes p → ⊥
    unfolding offset_of
    corner_unused e u =
        true_false
        (some_corner test P tests (seen_from g p u.k) nodes u.q u.parameter u.corner)
        (subst (λ (j : ℕ). corner_some test (seen_from g p j) nodes ≡ false) (one_best g p k u.k b u.grid) e)

-- ---- what is answered is what the rows say

module _ (g : Group) (nodes : List ℤ) (p : Point) (t : ℤ) where
  abbrev From11 : Refusal → Type 0
  From11 = TableRow 11 (UsedCorner (λ v. value_most < nat_abs v) g nodes p) then NothingRefused

  abbrev From8 : Refusal → Type 0
  From8 = TableRow 8 (UsedCorner (λ v. v ≡ mark) g nodes p) then From11

  abbrev From7 : Refusal → Type 0
  From7 = TableRow 7 (NoneHolds g p) then From8

  abbrev From13 : Refusal → Type 0
  From13 = ShortList g nodes then From7

  abbrev From9 : Refusal → Type 0
  From9 = TableRow 9 (DayOutside t) then From13

  in_grid : (k : ℕ) (factor : ℤ) → BestGrid g p k → From8 (refusal_of (fix_in (seen_from g p k) nodes factor (suc k)))
  unfolding fix_in
  in_grid k factor b =
      row_stage Err refusal_of (λ r. refl) _ From11 (corner_some is_mark (seen_from g p k) nodes) 8 _
      (corner_used g nodes p is_mark (λ v. v ≡ mark) is_mark_lem k b)
      (corner_unused g nodes p is_mark (λ v. v ≡ mark) is_mark_lem k b)
      (λ e.
      row_stage Err refusal_of (λ r. refl) _ NothingRefused (corner_some is_beyond (seen_from g p k) nodes) 11
      (Ok
      (record {
        grid = suc k;
        first = result_at (seen_from g p k) nodes factor 0;
        second = result_at (seen_from g p k) nodes factor 1;
        third = result_at (seen_from g p k) nodes factor 2;
      }))
      (corner_used g nodes p is_beyond (λ v. value_most < nat_abs v) is_beyond_lem k b)
      (corner_unused g nodes p is_beyond (λ v. value_most < nat_abs v) is_beyond_lem k b)
      (λ f. refl))

  in_choice : judged g ≡ Ok tt → point_fits p ≡ true → (c : ℕ) → chosen_in g p.lon.0 p.lat.0 ≡ c → (factor : ℤ)
      → From7 (refusal_of (fix_at c (seen_from g p) nodes factor))
  unfolding fix_at
  in_choice a o zero e factor = inl (refl, none_holds g p.lon.0 p.lat.0 e)
  in_choice a o (suc k) e factor = let b = chosen_is_best g p a o k e in inr (λ r h. h.1 k b.among b.held, in_grid k factor b)

  stands : Refuses g nodes p t (refusal_of (looked g nodes p t))
  unfolding Refuses looked looked_in
  stands =
      judge_stage Err refusal_of (λ r. refl) (TableRow 6 (PointOutside p) then From9) g (looked_in g nodes p t)
      (λ a.
      row_stage Err refusal_of (λ r. refl) _ From9 (not (point_fits p)) 6 _ (λ e. point_outside p (not-true _ e)) (λ e. point_inside p (not-false _ e))
      (λ b.
      row_stage Err refusal_of (λ r. refl) _ From13 (not (day_fits t)) 9 _ (λ e. outside day_most t (not-true _ e)) (λ e. inside day_most t (not-false _ e))
      (λ c.
      short_stage Err refusal_of (λ r. refl) From7 g nodes (fix_of g nodes p t)
      (λ d. in_choice a (not-false _ b) (chosen_in g p.lon.0 p.lat.0) refl (factor_of g.function g.functions t)))))

  single : Single (Refuses g nodes p t)
  unfolding Refuses
  single =
      single_then _ _ (single_judged g)
      (single_then _ _ (single_row 6 _)
      (single_then _ _ (single_row 9 _)
      (single_then _ _ (single_short g nodes)
      (single_then _ _ (single_row 7 _)
      (single_then _ _ (single_row 8 _)
      (single_then _ _ (single_row 11 _) single_none))))))

  pub refused_exactly : (r : Refusal) → (refusal_of (looked g nodes p t) ≡ r) ↔ Refuses g nodes p t r
  refused_exactly r = (λ e. subst (Refuses g nodes p t) e stands, λ h. single _ r stands h)
