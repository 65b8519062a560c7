-- An admitted area's sides, and its coordinates as distances from the least longitude and latitude.
use Prim.Native.Nat.{ℕ, ◌+◌, ◌*◌, ◌≤◌, ◌<◌}
use mathlib.Core.Path.{◌≡◌, refl, sym, ◌∙◌, subst}
use mathlib.Core.Bool.{Bool, true, false, ◌&&◌}
use native.Mathlib.Omega.{arith}
use borrow.Author.Tests.{leb-true, le-leb}
use lib.Dec.{T}
use lib.IntN.{ℤ, pos, ◌-ℤ◌, nat_abs}
use lib.Signed.{le_z, ◌≤ℤ◌, ◌<ℤ◌}
use Rattle.numbers.specs.Order.{between, within, raised}
use Rattle.numbers.proofs.Diff.{diff_pos, diff__, diff_<, diff_≤}
use Rattle.numbers.proofs.Bools.{and_left, and_right, both}
use Rattle.numbers.proofs.OrderLaws.{within_size, within_test, raised_order, raised_bound, le_z_size}
use Rattle.numbers.proofs.Machine.{lowered_size, raised_lowered}
use Rattle.group.specs.Numbers.{lon_most, lat_most, lon_zero, lat_zero, lon_admitted}
use Rattle.extent.specs.Sides.{lon_from_least, lat_from_least}
use Rattle.extent.proofs.MeetLaws.{admitted_distance}
use Rattle.coverage.specs.Demand3.{Inside}
use Rattle.inforce.specs.declared.Area.{Area}
use Rattle.inforce.specs.Area.{lon_fits, lat_fits, area_fits, InArea, lon_at, lat_at, area_from_least}
use Rattle.inforce.specs.Flat.{Admitted}

-- the order of distances is that of coordinates
module _ (m a b : ℕ) where
  pub lowered_< : a < b → (pos a -ℤ pos m) <ℤ (pos b -ℤ pos m)
  lowered_< h =
      let p = (diff__ (diff_pos a) (diff_pos m)).diff in
      let q = (diff__ (diff_pos b) (diff_pos m)).diff in
      diff_< (omega arith)

  pub lowered_≤ : a ≤ b → (pos a -ℤ pos m) ≤ℤ (pos b -ℤ pos m)
  lowered_≤ h =
      let p = (diff__ (diff_pos a) (diff_pos m)).diff in
      let q = (diff__ (diff_pos b) (diff_pos m)).diff in
      diff_≤ (omega arith)

-- two sides within a limit, the first not above the second, as a test and as the orders
module _ (l : ℕ) (a b : ℤ) where
  pub sides_told : (within l a && within l b && le_z a b) ≡ true → (nat_abs a ≤ l) × (nat_abs b ≤ l) × (a ≤ℤ b)
  sides_told e =
      let p = and_left (within l a && within l b) (le_z a b) e in (
        within_size l a (and_left (within l a) (within l b) p),
        within_size l b (and_right (within l a) (within l b) p),
        record { le = subst T (sym (and_right (within l a && within l b) (le_z a b) e)) tt },
      )

  pub told_sides : nat_abs a ≤ l → nat_abs b ≤ l → a ≤ℤ b → (within l a && within l b && le_z a b) ≡ true
  told_sides h k o = both (both (within_test l a ∙ le-leb (nat_abs a) l h) (within_test l b ∙ le-leb (nat_abs b) l k)) (passed (le_z a b) o.le)
    where
      passed : (t : Bool) → T t → t ≡ true
      passed true h = refl
      passed false h = absurd h

-- distances from a zero that is no nearer
module _ (l m : ℕ) (near : l ≤ m) (a b : ℤ) (e : (within l a && within l b && le_z a b) ≡ true) where
  low_size : nat_abs a ≤ m
  low_size = omega (arith, near, (sides_told l a b e).0)

  high_size : nat_abs b ≤ m
  high_size = omega (arith, near, (sides_told l a b e).1)

  -- a number between them is one between their distances, and back
  pub span_size : (x : ℤ) → between a b x ≡ true → nat_abs x ≤ m
  span_size x h = le_z_size m a b x low_size high_size (and_left (le_z a x) (le_z x b) h) (and_right (le_z a x) (le_z x b) h)

  pub span_in : (x : ℤ) → between a b x ≡ true → (raised m a ≤ raised m x) × (raised m x ≤ raised m b)
  span_in x h =
      let n = span_size x h in (
        leb-true (raised m a) (raised m x) (sym (raised_order m a x low_size n) ∙ and_left (le_z a x) (le_z x b) h),
        leb-true (raised m x) (raised m b) (sym (raised_order m x b n high_size) ∙ and_right (le_z a x) (le_z x b) h),
      )

  pub span_most : raised m b ≤ m + m
  span_most = raised_bound m b high_size

  pub in_span : (x : ℤ) → nat_abs x ≤ m → raised m a ≤ raised m x → raised m x ≤ raised m b → between a b x ≡ true
  in_span x n h k =
      both (raised_order m a x low_size n ∙ le-leb (raised m a) (raised m x) h) (raised_order m x b n high_size ∙ le-leb (raised m x) (raised m b) k)

module _ (a : Area) (e : area_fits a ≡ true) where
  pub lon_fits_lem : lon_fits a.lon ≡ true
  unfolding area_fits
  lon_fits_lem = and_left (lon_fits a.lon) (lat_fits a.lat) e

  pub lat_fits_lem : lat_fits a.lat ≡ true
  unfolding area_fits
  lat_fits_lem = and_right (lon_fits a.lon) (lat_fits a.lat) e

  -- a coordinate of the area by its distances
  pub area_size : (x y : ℤ) → InArea a x y → (nat_abs x ≤ lon_zero) × (nat_abs y ≤ lat_zero)
  area_size x y h = (span_size lon_most lon_zero (omega arith) a.lon.west.0 a.lon.east.0 lon_fits_lem x h.lon, span_size lat_most lat_zero (omega arith) a.lat.south.0 a.lat.north.0 lat_fits_lem y h.lat)

  -- within the limits of its longitudes
  pub area_lon : (x y : ℤ) → InArea a x y → nat_abs x ≤ lon_most
  area_lon x y h = span_size lon_most lon_most (omega arith) a.lon.west.0 a.lon.east.0 lon_fits_lem x h.lon

  pub area_admitted : Admitted (area_from_least a)
  area_admitted =
      let w = lon_admitted a.lon.west.0 in let e = lon_admitted a.lon.east.0 in
      let p = and_left (w && e) (le_z a.lon.west.0 a.lon.east.0) lon_fits_lem in
      ((admitted_distance a.lon.west.0 (and_left w e p)).0, (admitted_distance a.lon.east.0 (and_right w e p)).1)

  pub area_inside : (x y : ℤ) → InArea a x y → Inside (area_from_least a) (lon_from_least x) (lat_from_least y)
  area_inside x y h =
      let p = span_in lon_most lon_zero (omega arith) a.lon.west.0 a.lon.east.0 lon_fits_lem x h.lon in
      let q = span_in lat_most lat_zero (omega arith) a.lat.south.0 a.lat.north.0 lat_fits_lem y h.lat in
      record { west≤ = p.0; ≤east = p.1; south≤ = q.0; ≤north = q.1 }

  -- distances inside are at most twice that of 0, and back in the area as coordinates
  pub inside_most : (x y : ℕ) → Inside (area_from_least a) x y → (x ≤ 2 * lon_zero) × (y ≤ 2 * lat_zero)
  inside_most x y i =
      (omega (arith, i.≤east, span_most lon_most lon_zero (omega arith) a.lon.west.0 a.lon.east.0 lon_fits_lem), omega (arith, i.≤north, span_most lat_most lat_zero (omega arith) a.lat.south.0 a.lat.north.0 lat_fits_lem))

  pub inside_area : (x y : ℕ) → Inside (area_from_least a) x y → InArea a (lon_at x) (lat_at y)
  inside_area x y i =
      let m = inside_most x y i in
      let p = raised_lowered lon_zero x m.0 in
      let q = raised_lowered lat_zero y m.1 in
      record {
        lon = in_span lon_most lon_zero (omega arith) a.lon.west.0 a.lon.east.0 lon_fits_lem (lon_at x) (lowered_size lon_zero x m.0) (omega (arith, i.west≤)) (omega (arith, i.≤east));
        lat = in_span lat_most lat_zero (omega arith) a.lat.south.0 a.lat.north.0 lat_fits_lem (lat_at y) (lowered_size lat_zero y m.1) (omega (arith, i.south≤)) (omega (arith, i.≤north));
      }
