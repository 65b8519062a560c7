-- A list and a point of coverage's, handed back: what inner functions answer, and what they rely on.
use Rattle.std.specs.Prelude.{ℕ, ◌-◌, ◌^◌, ◌≤◌, ◌<◌, ◌≡◌, List, ◌++◌, map, length, get_or, take, replicate}
use Rattle.group.specs.Numbers.{grids_most}
use Rattle.region.specs.declared.Spot.{Spot}
use Rattle.coverage.specs.declared.Entry.{Entry}
use Rattle.coverage.specs.declared.Listing.{Listing}
use Rattle.coverage.specs.Listing.{no_entry}
use Rattle.inforce.specs.declared.GridInForce.{GridInForce}
use Rattle.inforce.specs.declared.InForce.{InForce}
use Rattle.inforce.specs.InForce.{shown_entry, blank_entry}

-- a list of coverage's, handed back: its first entries, as many as its count
abbrev pub shown_first : List Entry → ℕ → List GridInForce
shown_first es n = map shown_entry (take n es) ++ replicate (grids_most - n) blank_entry

unfoldable pub shown_list : Listing → InForce
shown_list l = record { count = l.count; entries = shown_first l.entries l.count }

-- a list whose coordinates fit 63 bits
pub record Narrow (l : Listing) : Type 0 where
  pub few : l.count ≤ grids_most
  pub room : length l.entries ≡ grids_most
  pub lon : (i : ℕ) → i < l.count → (get_or l.entries i no_entry).lon < 2 ^ 63
  pub lat : (i : ℕ) → i < l.count → (get_or l.entries i no_entry).lat < 2 ^ 63

-- a point whose coordinates fit 63 bits
abbrev pub NarrowSpot : Spot → Type 0
NarrowSpot s = (s.x < 2 ^ 63) × (s.y < 2 ^ 63)
