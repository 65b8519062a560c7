-- Demand 3 over unsigned coordinates, of any choice and any order of the grids.
use Rattle.std.specs.Prelude.{◌≡◌, List, ◌⊎◌, ℕ, suc, ◌≤◌, ◌<◌, length, get_or}
use Rattle.numbers.specs.Lists.{at}
use Rattle.region.specs.declared.Bounds.{Bounds}
use Rattle.coverage.specs.declared.Entry.{Entry}
use Rattle.coverage.specs.Listing.{no_entry}

-- an order of n grids: the number of each stands in it once, before those that it comes before
pub record Ordered (Before : ℕ → ℕ → Type 0) (n : ℕ) (order : List ℕ) : Type 0 where
  pub number : (i : ℕ) → i < length order → (1 ≤ at order i) × (at order i ≤ n)
  pub each : (g : ℕ) → g < n → (i : ℕ) × (i < length order) × (at order i ≡ suc g)
  pub sorted : (i j : ℕ) → i < j → j < length order → Before (at order i) (at order j)
  pub once : (i j : ℕ) → Before i j → i ≡ j → ⊥
  pub few : length order ≤ n

-- (x, y) is a coordinate of the area
pub record Inside (a : Bounds) (x y : ℕ) : Type 0 where
  pub west≤ : a.west ≤ x
  pub ≤east : x ≤ a.east
  pub south≤ : a.south ≤ y
  pub ≤north : y ≤ a.north

-- (x, y) is of the area, the choice takes the grid numbered k there, or none where k is 0, and every other such coordinate lies farther north,
-- or equally far north and farther east
pub record IsFirstTaken (choose : ℕ → ℕ → ℕ) (a : Bounds) (k x y : ℕ) : Type 0 where
  pub inside : Inside a x y
  pub chosen : choose x y ≡ k
  pub others : (u v : ℕ) → Inside a u v → choose u v ≡ k → (y < v) ⊎ ((y ≡ v) × (x ≤ u))

-- the entry's coordinate is the first at which its grid is chosen
pub record EntryPlaced (choose : ℕ → ℕ → ℕ) (n : ℕ) (a : Bounds) (e : Entry) : Type 0 where
  pub number : (1 ≤ e.grid) × (e.grid ≤ n)
  pub first : IsFirstTaken choose a e.grid e.lon e.lat

-- Demand 3 over unsigned coordinates: es lists the grids that a choice takes in the area.
pub record EntriesInForce (choose : ℕ → ℕ → ℕ) (Before : ℕ → ℕ → Type 0) (n : ℕ) (a : Bounds) (es : List Entry) : Type 0 where
  -- a grid chosen at a coordinate of the area is named
  pub named : (x y g : ℕ) → Inside a x y → choose x y ≡ suc g → (i : ℕ) × (i < length es) × ((get_or es i no_entry).grid ≡ suc g)
  -- a grid named is chosen at the coordinate of its entry, and the coordinate is the first
  pub placed : (i : ℕ) → i < length es → EntryPlaced choose n a (get_or es i no_entry)
  pub ordered : (i j : ℕ) → i < j → j < length es → Before (get_or es i no_entry).grid (get_or es j no_entry).grid
  -- no grid is named twice
  pub once : (i j : ℕ) → i < j → j < length es → (get_or es i no_entry).grid ≡ (get_or es j no_entry).grid → ⊥
  -- there are at most as many as grids
  pub few : length es ≤ n
