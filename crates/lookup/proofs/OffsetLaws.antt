-- A point that a grid of an accepted group holds lies in the grid: what its cell needs.
use Prim.Native.Nat.{ℕ, ◌-◌, ◌*◌, ◌≤◌, ◌<◌}
use mathlib.Core.Path.{◌≡◌, refl, sym}
use mathlib.Core.Bool.{Bool, true, false, cond}
use mathlib.Core.Logic.{⊎_elim}
use native.Mathlib.Omega.{arith}
use borrow.Author.Tests.{leb-true}
use lib.Dec.{leb}
use lib.IntN.{ℤ, pos, negsuc, ◌+ℤ◌, ◌-ℤ◌, ◌*ℤ◌, nat_abs}
use lib.Signed.{le_z}
use Rattle.numbers.specs.Order.{between, min_z, max_z}
use Rattle.numbers.proofs.Bools.{and_left, and_right}
use Rattle.numbers.proofs.OrderLaws.{size_mul, within_size}
use Rattle.numbers.proofs.Diff.{up_or_dn, nat_abs_diff, diff_self, diff_+, diff__}
use Rattle.numbers.proofs.SignedLaws.{not_above}
use Rattle.numbers.proofs.Machine.{raised_apart}
use Rattle.group.specs.declared.Grid.{Grid}
use Rattle.group.specs.declared.Group.{Group}
use Rattle.group.specs.declared.Point.{Point}
use Rattle.group.specs.Numbers.{lon_most, lat_most, lon_zero, lat_zero, lon_admitted, lat_admitted, spacing_most}
use Rattle.group.specs.Limits.{spacing_fits}
use Rattle.group.specs.Record.{grid_at}
use Rattle.extent.specs.Extent.{far_edge, span_of, lon_span, lat_span, lon_lies, holds, lon_used}
use Rattle.extent.proofs.SideLaws.{inside_range, used_size}
use Rattle.extent.proofs.Order5.{first_used}
use Rattle.judge.specs.Judge.{judged}
use Rattle.judge.proofs.Accepted.{accepted, accepted_head, accepted_sized}
use Rattle.judge.proofs.LimitLaws.{lon_size, lat_size, dlon_good, dlat_good}
use Rattle.fix.specs.Inside.{InsideGrid}
use Rattle.lookup.specs.Lookup.{point_fits, offset_of}
use Rattle.flat.specs.Frames.{frame_of}
use Rattle.lookup.specs.Flat.{offset_in}
use Rattle.extent.specs.Sides.{lon_from_least, lat_from_least}
use Rattle.std.specs.Prelude.{Ok}

-- ---- along one axis

-- between the first node and one n spacings away, the distance from the first is at most n spacings
module _ (a s x : ℤ) (n : ℕ) where
  far : ℤ
  far = a +ℤ pos n *ℤ s

  by : (t : Bool) → le_z a far ≡ t → between (cond t a far) (cond t far a) x ≡ true → nat_abs (x -ℤ a) ≤ nat_abs (pos n *ℤ s)
  unfolding far
  by true e h =
      let p = not_above a x (and_left (le_z a x) (le_z x far) h) in let q = not_above x far (and_right (le_z a x) (le_z x far) h) in
      let w = pos n *ℤ s in
      let f = (diff_+ (diff_self a) (diff_self w)).diff in let d = (diff__ (diff_self x) (diff_self a)).diff in
      let m = nat_abs_diff (x -ℤ a) in let k = nat_abs_diff w in
      ⊎_elim (λ u. omega arith) (λ u. ⊎_elim (λ v. omega arith) (λ v. omega arith) (up_or_dn w)) (up_or_dn (x -ℤ a))
  by false e h =
      let p = not_above far x (and_left (le_z far x) (le_z x a) h) in let q = not_above x a (and_right (le_z far x) (le_z x a) h) in
      let w = pos n *ℤ s in
      let f = (diff_+ (diff_self a) (diff_self w)).diff in let d = (diff__ (diff_self x) (diff_self a)).diff in
      let m = nat_abs_diff (x -ℤ a) in let k = nat_abs_diff w in
      ⊎_elim (λ u. ⊎_elim (λ v. omega arith) (λ v. omega arith) (up_or_dn w)) (λ u. omega arith) (up_or_dn (x -ℤ a))

  axis_distance : between (min_z a (a +ℤ pos n *ℤ s)) (max_z a (a +ℤ pos n *ℤ s)) x ≡ true → nat_abs (x -ℤ a) ≤ n * nat_abs s
  unfolding far
  axis_distance h = let k = by (le_z a far) refl h in let m = size_mul (pos n) s in omega arith

spacing_least : (d : ℤ) → spacing_fits d ≡ true → 0 < nat_abs d
spacing_least (pos n) e = leb-true 1 n (and_left (leb 1 n) (leb n spacing_most) e)
spacing_least (negsuc n) e = omega arith

-- ---- in a grid

module _ (g : Grid) (x y : ℤ) (h : holds g x y ≡ true) where
  lon_lies_lem : lon_lies (lon_span g) (lon_used (lon_span g) x) ≡ true
  lon_lies_lem = ((first_used g x y).lies h).0

  lon_distance : nat_abs (lon_used (lon_span g) x -ℤ g.lon.0) ≤ (g.ni - 1) * nat_abs g.dlon
  unfolding lon_span span_of far_edge
  lon_distance = axis_distance g.lon.0 g.dlon (lon_used (lon_span g) x) (g.ni - 1) lon_lies_lem

  lat_distance : nat_abs (y -ℤ g.lat.0) ≤ (g.nj - 1) * nat_abs g.dlat
  unfolding lat_span span_of far_edge
  lat_distance = axis_distance g.lat.0 g.dlat y (g.nj - 1) ((first_used g x y).lies h).1

-- ---- in an accepted group

module _ (g : Group) (a : judged g ≡ Ok tt) (p : Point) (k : ℕ) (l : k < g.grids) where
  pub offset_inside : holds (grid_at g k) p.lon.0 p.lat.0 ≡ true → InsideGrid (offset_of (grid_at g k) g.parameters p)
  unfolding offset_of
  offset_inside h =
      let z = accepted_sized g a k l in let f = (accepted g a).grid k l in let e = grid_at g k in
      record {
        sx_pos = spacing_least e.dlon (dlon_good e f);
        sy_pos = spacing_least e.dlat (dlat_good e f);
        sx_most = z.lon.step_size;
        sy_most = z.lat.step_size;
        ni_least = z.lon.least;
        nj_least = z.lat.least;
        dx_most = lon_distance e p.lon.0 p.lat.0 h;
        dy_most = lat_distance e p.lon.0 p.lat.0 h;
        np_most = (accepted_head g a).parameters;
        range_most = inside_range g.parameters e ((accepted g a).edges k l);
      }

  -- the point seen from the grid's frame, by the longitude used
  pub offset_seen : point_fits p ≡ true
      → offset_in (frame_of (grid_at g k)) g.parameters (lon_from_least (lon_used (lon_span (grid_at g k)) p.lon.0)) (lat_from_least p.lat.0)
      ≡ offset_of (grid_at g k) g.parameters p
  unfolding offset_of
  offset_seen h =
      let e = grid_at g k in let f = (accepted g a).grid k l in
      let u = lon_admitted p.lon.0 in let v = lat_admitted p.lat.0 in
      let x =
      raised_apart lon_zero (lon_used (lon_span e) p.lon.0) e.lon.0
      (used_size (lon_span e) p.lon.0 (omega (arith, within_size lon_most p.lon.0 (and_left u v h)))) (omega (arith, lon_size e f)) in
      let y =
      raised_apart lat_zero p.lat.0 e.lat.0 (omega (arith, within_size lat_most p.lat.0 (and_right u v h))) (omega (arith, lat_size e f)) in
      λ i.
      record {
        dx = sym x i;
        dy = sym y i;
        sx = nat_abs e.dlon;
        sy = nat_abs e.dlat;
        ni = e.ni;
        nj = e.nj;
        start = e.start;
        np = g.parameters;
      }
