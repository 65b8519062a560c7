-- The list of grids given as rectangles, as inner functions hand it back.
use Rattle.std.specs.Prelude.{List, ◌++◌, ℕ, ◌-◌, ◌≤◌, ◌<◌, length, replicate}
use Rattle.numbers.specs.Lists.{at}
use Rattle.region.specs.declared.Bounds.{Bounds}
use Rattle.coverage.specs.declared.Entry.{Entry}
use Rattle.coverage.specs.declared.Listing.{Listing}
use Rattle.coverage.specs.Rectangles.{entries_most, Rectangles, chosen_at}
use Rattle.coverage.specs.InForce.{in_force_by}

-- the grids in force of grids given as rectangles
abbrev pub in_force : Rectangles → List ℕ → Bounds → List Entry
in_force l order a = in_force_by (chosen_at l) order a

-- numbers, from 1, of n grids, at most as many as a list has entries
pub record Numbers (n : ℕ) (order : List ℕ) : Type 0 where
  pub few : length order ≤ entries_most
  pub each : (i : ℕ) → i < length order → (1 ≤ at order i) × (at order i ≤ n)

abbrev pub no_entry : Entry
no_entry = record { grid = 0; lon = 0; lat = 0 }

-- all entries, of which the unused ones are zero
abbrev pub filled : List Entry → List Entry
filled es = es ++ replicate (entries_most - length es) no_entry

-- a list as it is handed back
abbrev pub listing_of : List Entry → Listing
listing_of es = record { count = length es; entries = filled es }
