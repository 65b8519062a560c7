-- Grids in force: the list of an area.
use Rattle.std.specs.Prelude.{List, [], ◌∷◌, ◌++◌, ℕ, eqb, Option, Some, None}
use Rattle.region.specs.declared.Spot.{Spot}
use Rattle.region.specs.declared.Bounds.{Bounds}
use Rattle.coverage.specs.declared.Entry.{Entry}
use Rattle.region.specs.First.{first_in}

-- the southmost, then westmost coordinate of the area at which a choice takes the grid numbered k, or none where k is 0
abbrev pub first_taken : (ℕ → ℕ → ℕ) → Bounds → ℕ → Option Spot
first_taken choose a k = first_in (λ x y. eqb (choose x y) k) a.west a.east a.south a.north

-- the entry of the grid numbered k, if it has a first coordinate
abbrev pub entry_of : ℕ → Option Spot → List Entry
entry_of k None = []
entry_of k (Some s) = record { grid = k; lon = s.x; lat = s.y } ∷ []

-- the entries of the grids of these numbers, in this order
unfoldable pub entries_of : (ℕ → Option Spot) → List ℕ → List Entry
entries_of spot [] = []
entries_of spot (k ∷ ks) = entry_of k (spot k) ++ entries_of spot ks

-- the grids in force in the area, in the order of these numbers, where choose x y is the number, from 1, of the grid chosen at a
-- coordinate, 0 for none
abbrev pub in_force_by : (ℕ → ℕ → ℕ) → List ℕ → Bounds → List Entry
in_force_by choose order a = entries_of (first_taken choose a) order
