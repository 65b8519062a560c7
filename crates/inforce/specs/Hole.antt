-- Document 02's order 2: refusals 2 to 5, then 10, as for grids in force, else the first coordinate of the area at which no grid is chosen.
use Rattle.std.specs.Prelude.{Option, Some, None, Result, Ok, Err}
use Rattle.group.specs.declared.Group.{Group}
use Rattle.group.specs.declared.Point.{Point}
use Rattle.group.specs.declared.Refusal.{Refusal}
use Rattle.group.specs.Refusals.{unless_refused}
use Rattle.region.specs.declared.Spot.{Spot}
use Rattle.coverage.specs.InForce.{first_taken}
use Rattle.inforce.specs.declared.Area.{Area}
use Rattle.inforce.specs.Area.{lon_at, lat_at, area_from_least, area_judged}
use Rattle.inforce.specs.InForce.{choice_at}

-- the southmost, then westmost of the area's coordinates at which no grid is chosen, for which the choice is 0; coordinates as distances
-- from the least
abbrev pub hole_in : Group → Area → Option Spot
hole_in g a = first_taken (choice_at g) (area_from_least a) 0

-- the coordinate as it is handed back
abbrev pub shown_hole : Spot → Point
shown_hole s = record { lon = record { 0 = lon_at s.x }; lat = record { 0 = lat_at s.y } }

-- the coordinate that was found, or none
abbrev pub accepted_hole : Option Spot → Option Point
accepted_hole (Some s) = Some (shown_hole s)
accepted_hole None = None

-- 2 to 5, then 10, else the hole
unfoldable pub hole_of : Group → Area → Result (Option Point) Refusal
hole_of g a = unless_refused Err (area_judged g a) (Ok (accepted_hole (hole_in g a)))
