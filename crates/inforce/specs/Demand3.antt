-- Demand 3 in its own words, of what `in_force_of` answers for an accepted group and an admitted area.
use Rattle.std.specs.Prelude.{ℕ, suc, ◌-◌, ◌≤◌, ◌<◌, ◌≡◌, true, ◌⊎◌, ℤ, length, get_or, ◌≤ℤ◌, ◌<ℤ◌, Ok}
use Rattle.group.specs.declared.Group.{Group}
use Rattle.group.specs.Numbers.{grids_most}
use Rattle.group.specs.Record.{grid_at}
use Rattle.extent.specs.Extent.{holds}
use Rattle.judge.specs.Judge.{judged}
use Rattle.ingroup.specs.InGroup.{chosen_in}
use Rattle.inforce.specs.declared.Area.{Area}
use Rattle.inforce.specs.declared.GridInForce.{GridInForce}
use Rattle.inforce.specs.declared.InForce.{InForce}
use Rattle.inforce.specs.Area.{area_fits, InArea}
use Rattle.inforce.specs.InForce.{blank_entry, in_force_of}

abbrev pub entry_at : InForce → ℕ → GridInForce
entry_at r i = get_or r.entries i blank_entry

-- the rank of the grid numbered k, from 1
abbrev pub rank_of : Group → ℕ → ℕ
rank_of g k = (grid_at g (k - 1)).rank

-- the coordinate (u, v) lies farther north than (x, y), or equally far north and farther east, or is (x, y) itself
abbrev pub NotEarlier : (x y u v : ℤ) → Type 0
NotEarlier x y u v = (y <ℤ v) ⊎ ((y ≡ v) × (x ≤ℤ u))

-- (x, y) is of the area, the grid numbered k is chosen there, or none where k is 0, and every other such coordinate lies farther north, or
-- equally far north and farther east
pub record IsFirstChosen (g : Group) (a : Area) (k : ℕ) (x y : ℤ) : Type 0 where
  pub inside : InArea a x y
  pub chosen : chosen_in g x y ≡ k
  pub others : (u v : ℤ) → InArea a u v → chosen_in g u v ≡ k → NotEarlier x y u v

-- the entry's coordinate is the first at which its grid is chosen
pub record GridPlaced (g : Group) (a : Area) (e : GridInForce) : Type 0 where
  pub number : (1 ≤ e.grid) × (e.grid ≤ g.grids)
  pub first : IsFirstChosen g a e.grid e.lon.0 e.lat.0

pub record GridsInForce (g : Group) (a : Area) (r : InForce) : Type 0 where
  -- a grid chosen at one or more coordinates of the area is named
  pub named : (x y : ℤ) (k : ℕ) → InArea a x y → chosen_in g x y ≡ suc k → (i : ℕ) × (i < r.count) × ((entry_at r i).grid ≡ suc k)
  -- and no other: a grid named is chosen at the coordinate beside it, which is the southmost, then westmost such
  pub placed : (i : ℕ) → i < r.count → GridPlaced g a (entry_at r i)
  -- best rank first, equal ranks in header order
  pub ordered : (i j : ℕ) → i < j → j < r.count
      → (rank_of g (entry_at r i).grid < rank_of g (entry_at r j).grid)
      ⊎ ((rank_of g (entry_at r i).grid ≡ rank_of g (entry_at r j).grid) × ((entry_at r i).grid < (entry_at r j).grid))
  -- each once
  pub once : (i j : ℕ) → i < j → j < r.count → (entry_at r i).grid ≡ (entry_at r j).grid → ⊥
  -- the count is the number of entries: those behind it are zero, of 64 in all
  pub unused : (i : ℕ) → r.count ≤ i → entry_at r i ≡ blank_entry
  pub most : r.count ≤ g.grids
  pub entries : length r.entries ≡ grids_most
  -- a grid that is hidden wherever it holds a coordinate of the area, by one or by several others together, is absent
  pub hidden : (k : ℕ) → ((x y : ℤ) → InArea a x y → holds (grid_at g k) x y ≡ true → chosen_in g x y ≡ suc k → ⊥)
      → (i : ℕ) → i < r.count → (entry_at r i).grid ≡ suc k → ⊥
  -- an area that no grid meets has the empty list
  pub empty : ((x y : ℤ) (k : ℕ) → InArea a x y → k < g.grids → holds (grid_at g k) x y ≡ true → ⊥) → r.count ≡ 0

-- ---- the whole

-- for every accepted group and admitted area; the answer is a list and no refusal, also where the list is empty
abbrev pub Demand3 : Group → Area → Type 0
Demand3 g a = judged g ≡ Ok tt → area_fits a ≡ true → (r : InForce) × (in_force_of g a ≡ Ok r) × GridsInForce g a r
