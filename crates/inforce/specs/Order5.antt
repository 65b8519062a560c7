-- Order 5 of document 02 in its own words, of areas: which of them are admitted, and that the answers give an area's own longitudes.
use Rattle.std.specs.Prelude.{ℕ, ◌≤◌, ◌<◌, ◌≡◌, true, ◌↔◌, nat_abs, ◌≤ℤ◌, Some, Ok}
use Rattle.group.specs.declared.Group.{Group}
use Rattle.group.specs.declared.Point.{Point}
use Rattle.group.specs.Numbers.{lon_most, lat_most}
use Rattle.judge.specs.Judge.{judged}
use Rattle.inforce.specs.declared.Area.{Area}
use Rattle.inforce.specs.declared.InForce.{InForce}
use Rattle.inforce.specs.Area.{area_fits, InArea}
use Rattle.inforce.specs.InForce.{in_force_of}
use Rattle.inforce.specs.Hole.{hole_of}
use Rattle.inforce.specs.Demand3.{entry_at}

-- 'longitudes of points and areas are now limited to ±648,000,000'; 'an area still has west not above east'; latitudes as before
pub record AreaLimits (a : Area) : Type 0 where
  pub west : nat_abs a.lon.west.0 ≤ lon_most
  pub east : nat_abs a.lon.east.0 ≤ lon_most
  pub eastward : a.lon.west.0 ≤ℤ a.lon.east.0
  pub south : nat_abs a.lat.south.0 ≤ lat_most
  pub north : nat_abs a.lat.north.0 ≤ lat_most
  pub northward : a.lat.south.0 ≤ℤ a.lat.north.0

-- '6 and 10 read so': 10 admits these areas and no others
abbrev pub AdmittedExactly : Area → Type 0
AdmittedExactly a = (area_fits a ≡ true) ↔ AreaLimits a

-- entries and holes give coordinates of the area, with its own longitudes and never turned ones
pub record OwnLongitudes (g : Group) (a : Area) : Type 0 where
  pub entry : (l : InForce) → in_force_of g a ≡ Ok l → (i : ℕ) → i < l.count → InArea a (entry_at l i).lon.0 (entry_at l i).lat.0
  pub hole : (p : Point) → hole_of g a ≡ Ok (Some p) → InArea a p.lon.0 p.lat.0

-- for every accepted group and admitted area
abbrev pub Own : Group → Area → Type 0
Own g a = judged g ≡ Ok tt → area_fits a ≡ true → OwnLongitudes g a
