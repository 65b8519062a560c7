-- Order 5 of the lookup: the points it admits, the longitude it uses for the cell, and that turning is invisible in its values.
use Prim.Native.Nat.{ℕ, ◌≤◌, ◌<◌}
use mathlib.Core.Path.{◌≡◌, refl, sym, ap, ◌∙◌, subst}
use mathlib.Core.Bool.{true, not}
use mathlib.Core.List.{List}
use native.Mathlib.Omega.{arith}
use borrow.Author.Tests.{le-leb, not-false}
use lib.Dec.{ltb}
use lib.IntN.{ℤ, ◌-ℤ◌, nat_abs}
use lib.ListN.{length}
use Rattle.numbers.specs.Order.{within}
use Rattle.numbers.proofs.Bools.{and_left, and_right, both}
use Rattle.numbers.proofs.OrderLaws.{within_size, within_test}
use Rattle.group.specs.declared.Group.{Group}
use Rattle.group.specs.declared.Point.{Point}
use Rattle.group.specs.Numbers.{lon_most, lat_most, lon_turn, lon_admitted, lat_admitted, day_fits}
use Rattle.group.specs.Record.{grid_at}
use Rattle.group.proofs.RefusalLaws.{if_same, stage_same}
use Rattle.extent.specs.Extent.{holds, node_end, width, moved_grid}
use Rattle.extent.specs.Sides.{Edges}
use Rattle.extent.proofs.SideLaws.{far_lon}
use Rattle.extent.proofs.Order5.{first_used, distance_moved}
use Rattle.judge.specs.Judge.{judged}
use Rattle.judge.proofs.LimitLaws.{lon_size}
use Rattle.judge.proofs.Accepted.{accepted, accepted_edges}
use Rattle.ingroup.specs.InGroup.{chosen_in}
use Rattle.ingroup.specs.Order5.{WrittenTurned, TurnInvisible}
use Rattle.ingroup.proofs.InGroupLaws.{chosen_holds}
use Rattle.ingroup.proofs.Order5.{by_grid, turn_invisible}
use Rattle.day.specs.Day.{factor_of}
use Rattle.lookup.specs.Lookup.{point_fits, ends_early, offset_of, fix_at, fix_of, looked_in}
use Rattle.lookup.specs.Demand2.{seen_from}
use Rattle.lookup.specs.Order5.{PointLimits, UsesFirst, SameValues}
use Rattle.lookup.proofs.BridgeLaws.{fix_at_same}
use Rattle.lookup.proofs.StageLaws.{looked_accepted}
use Rattle.lookup.proofs.SameLaws.{named_chosen, in_grid}
use Rattle.std.specs.Prelude.{Ok, Err}

-- ---- the limits of points

pub point_limits : (p : Point) → PointLimits p
point_limits p =
    let x = p.lon.0 in let y = p.lat.0 in (
      λ e. (within_size lon_most x (and_left (lon_admitted x) (lat_admitted y) e), within_size lat_most y (and_right (lon_admitted x) (lat_admitted y) e)),
      λ s. both (admitted lon_most x s.0) (admitted lat_most y s.1),
    )
  where
    admitted : (m : ℕ) (z : ℤ) → nat_abs z ≤ m → within m z ≡ true
    admitted m z l = within_test m z ∙ le-leb (nat_abs z) m l

-- ---- the longitude used

pub uses_first : (g : Group) (nodes : List ℤ) (p : Point) (t : ℤ) → UsesFirst g nodes p t
unfolding offset_of
uses_first g nodes p t a k c =
    let f = first_used (grid_at g k) p.lon.0 p.lat.0 in
    record {
      answer = in_grid g nodes p t k a c;
      cell = refl;
      lies = f.lies (chosen_holds g p.lon.0 p.lat.0 k (named_chosen g nodes p t k a c).1).1;
      first = f;
    }

-- ---- turning is invisible in values

module _ (g h : Group) (k t : ℕ) (e : judged g ≡ Ok tt) (w : WrittenTurned g h k t) (narrow : width (grid_at g k) < lon_turn) where
  abbrev same : TurnInvisible g h
  same = turn_invisible g h k t e w

  -- each node range ends where it did
  same_end : (j : ℕ) → node_end h.parameters (grid_at h j) ≡ node_end g.parameters (grid_at g j)
  same_end j =
      ap (λ (np : ℕ). node_end np (grid_at h j)) w.parameters
      ∙ by_grid g h k t e w (λ c. node_end g.parameters c ≡ node_end g.parameters (grid_at g j)) j refl
      (λ q. ap (λ (i : ℕ). node_end g.parameters (grid_at g i)) (sym q))

  module _ (p : Point) (fits : point_fits p ≡ true) where
    abbrev lon : ℤ
    lon = p.lon.0

    abbrev lat : ℤ
    lat = p.lat.0

    admitted : lon_admitted lon ≡ true
    admitted = and_left (lon_admitted lon) (lat_admitted lat) fits

    -- seen from the grid that is moved
    seen_moved : holds (grid_at g k) lon lat ≡ true → offset_of (moved_grid t (grid_at g k)) g.parameters p ≡ seen_from g p k
    unfolding offset_of
    seen_moved held =
        let c = grid_at g k in let l = w.among in
        let moved = subst Edges w.grid (accepted_edges h same.accepted k (omega (arith, l, w.grids))) in
        let x =
        distance_moved t c (lon_size c ((accepted g e).grid k l)) (far_lon g.parameters c ((accepted g e).edges k l)) (accepted_edges g e k l) moved
        narrow lon lat admitted held in
        λ i.
        record {
          dx = x i;
          dy = nat_abs (lat -ℤ c.lat.0);
          sx = nat_abs c.dlon;
          sy = nat_abs c.dlat;
          ni = c.ni;
          nj = c.nj;
          start = c.start;
          np = g.parameters;
        }

    -- from any grid that holds the point
    seen_same : (j : ℕ) → holds (grid_at g j) lon lat ≡ true → seen_from h p j ≡ seen_from g p j
    seen_same j held =
        ap (λ (np : ℕ). offset_of (grid_at h j) np p) w.parameters
        ∙ by_grid g h k t e w (λ c. offset_of c g.parameters p ≡ seen_from g p j) j refl
        (λ q. seen_moved (subst (λ (i : ℕ). holds (grid_at g i) lon lat ≡ true) q held) ∙ ap (seen_from g p) (sym q))

    same_fix : (nodes : List ℤ) (d : ℤ) → fix_of h nodes p d ≡ fix_of g nodes p d
    same_fix nodes d =
        (λ i. fix_at (same.choice lon lat admitted (and_right (lon_admitted lon) (lat_admitted lat) fits) i) (seen_from h p) nodes (factor_of (w.function i) (w.functions i) d))
        ∙ fix_at_same (chosen_in g lon lat) (seen_from h p) (seen_from g p) nodes (factor_of g.function g.functions d)
        (λ j q. seen_same j (chosen_holds g lon lat j q).1)

  same_answer : (nodes : List ℤ) (p : Point) (d : ℤ) → looked_in h nodes p d ≡ looked_in g nodes p d
  unfolding looked_in
  same_answer nodes p d =
      if_same Err (not (point_fits p)) (not (point_fits p)) 6 0 _ _ refl
      (λ a.
      if_same Err (not (day_fits d)) (not (day_fits d)) 9 0 _ _ refl
      (λ b.
      stage_same Err (ends_early h (length nodes)) (ends_early g (length nodes)) h.grids g.grids 13 1 1 _ _ w.grids refl
      (λ j l. ap (ltb (length nodes)) (same_end j))
      (λ c. same_fix p (not-false (point_fits p) a) nodes d)))

pub same_values : (g : Group) → SameValues g
same_values g e h k t w narrow nodes p d =
    looked_accepted h nodes p d (turn_invisible g h k t e w).accepted
    ∙ same_answer g h k t e w narrow nodes p d
    ∙ sym (looked_accepted g nodes p d e)
