-- Areas: what a call over an area refuses, an area's coordinates, and coordinates as distances from the zero of longitudes and of latitudes.
use Rattle.std.specs.Prelude.{ℕ, ◌≡◌, Bool, true, false, not, ◌&&◌, ℤ, pos, ◌-ℤ◌, Result, Ok, Err, ⊤}
use Rattle.std.specs.Int.Signed.{le_z}
use Rattle.numbers.specs.Order.{between}
use Rattle.group.specs.declared.Group.{Group}
use Rattle.group.specs.declared.Refusal.{Refusal}
use Rattle.group.specs.Numbers.{lon_admitted, lat_admitted, lon_zero, lat_zero}
use Rattle.group.specs.Refusals.{refusal, refuse_if, unless_refused}
use Rattle.extent.specs.declared.LonSpan.{LonSpan}
use Rattle.extent.specs.declared.LatSpan.{LatSpan}
use Rattle.extent.specs.Sides.{lon_from_least, lat_from_least}
use Rattle.judge.specs.Judge.{judged}
use Rattle.region.specs.declared.Bounds as least
use Rattle.inforce.specs.declared.Area.{Area}

-- sides within the limits, west not above east and south not above north: all that 10 does not refuse
abbrev pub lon_fits : LonSpan → Bool
lon_fits s = lon_admitted s.west.0 && lon_admitted s.east.0 && le_z s.west.0 s.east.0

abbrev pub lat_fits : LatSpan → Bool
lat_fits s = lat_admitted s.south.0 && lat_admitted s.north.0 && le_z s.south.0 s.north.0

unfoldable pub area_fits : Area → Bool
area_fits a = lon_fits a.lon && lat_fits a.lat

-- what a call over an area refuses: 2 to 5, then 10
unfoldable pub area_judged : Group → Area → Result ⊤ Refusal
area_judged g a = unless_refused Err (judged g) (refuse_if Err (not (area_fits a)) 10 0 (Ok tt))

-- a verdict that refuses so: the group by its own refusal, else an area that is not admitted by 10, and nothing else
pub record JudgesArea (g : Group) (a : Area) (v : Result ⊤ Refusal) : Type 0 where
  pub group : (r : Refusal) → judged g ≡ Err r → v ≡ Err r
  pub area : judged g ≡ Ok tt → area_fits a ≡ false → v ≡ Err (refusal 10 0)
  pub neither : judged g ≡ Ok tt → area_fits a ≡ true → v ≡ Ok tt

-- longitude x and latitude y are a coordinate of the area, sides included
pub record InArea (a : Area) (x y : ℤ) : Type 0 where
  pub lon : between a.lon.west.0 a.lon.east.0 x ≡ true
  pub lat : between a.lat.south.0 a.lat.north.0 y ≡ true

-- the longitude and the latitude at a distance from the least
abbrev pub lon_at : ℕ → ℤ
lon_at x = pos x -ℤ pos lon_zero

abbrev pub lat_at : ℕ → ℤ
lat_at y = pos y -ℤ pos lat_zero

-- an area by the distances of its sides
abbrev pub area_from_least : Area → least.Bounds
area_from_least a =
    record {
      west = lon_from_least a.lon.west.0;
      east = lon_from_least a.lon.east.0;
      south = lat_from_least a.lat.south.0;
      north = lat_from_least a.lat.north.0;
    }
