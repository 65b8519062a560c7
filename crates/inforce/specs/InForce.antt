-- Document 01's grids in force: refusals 2 to 5, then 10, else the list of the area.
use Rattle.std.specs.Prelude.{ℕ, ◌-◌, List, ◌++◌, map, pos, length, replicate, Result, Ok, Err}
use Rattle.group.specs.declared.Group.{Group}
use Rattle.group.specs.declared.Refusal.{Refusal}
use Rattle.group.specs.Numbers.{grids_most, rank_most}
use Rattle.group.specs.Record.{grid_at}
use Rattle.group.specs.Refusals.{unless_refused}
use Rattle.flat.specs.Order.{by_rank}
use Rattle.ingroup.specs.InGroup.{chosen_in}
use Rattle.coverage.specs.declared.Entry.{Entry}
use Rattle.coverage.specs.InForce.{in_force_by}
use Rattle.inforce.specs.declared.Area.{Area}
use Rattle.inforce.specs.declared.GridInForce.{GridInForce}
use Rattle.inforce.specs.declared.InForce.{InForce}
use Rattle.inforce.specs.Area.{lon_at, lat_at, area_from_least, area_judged}

-- the number of the grid chosen at a coordinate, 0 for none; the coordinate as distances from the least
abbrev pub choice_at : Group → ℕ → ℕ → ℕ
choice_at g x y = chosen_in g (lon_at x) (lat_at y)

-- the grids chosen at one or more of the area's coordinates, by rank and then by number, each with the southmost, then westmost such
-- coordinate; coordinates as distances from the least
abbrev pub in_force_in : Group → Area → List Entry
in_force_in g a = in_force_by (choice_at g) (by_rank (λ k. (grid_at g k).rank) g.grids rank_most) (area_from_least a)

-- an entry as it is handed back
abbrev pub shown_entry : Entry → GridInForce
shown_entry e = record { grid = e.grid; lon = record { 0 = lon_at e.lon }; lat = record { 0 = lat_at e.lat } }

-- an unused entry
abbrev pub blank_entry : GridInForce
blank_entry = record { grid = 0; lon = record { 0 = pos 0 }; lat = record { 0 = pos 0 } }

-- the count and 64 entries, of which the unused ones are zero
abbrev pub accepted_list : List Entry → InForce
accepted_list es = record { count = length es; entries = map shown_entry es ++ replicate (grids_most - length es) blank_entry }

-- 2 to 5, then 10, else the list
unfoldable pub in_force_of : Group → Area → Result InForce Refusal
in_force_of g a = unless_refused Err (area_judged g a) (Ok (accepted_list (in_force_in g a)))
