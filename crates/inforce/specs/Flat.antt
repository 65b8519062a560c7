-- What grids in force and the hole are made from: an accepted group's sides and ranks as flat lists.
use Rattle.std.specs.Prelude.{ℕ, ◌≤◌, ◌<◌, ◌≡◌, true, List, Option, Result, Ok, ⊤}
use Rattle.group.specs.declared.Group.{Group}
use Rattle.group.specs.Numbers.{lon_turn, grids_most, rank_most}
use Rattle.numbers.specs.Lists.{at}
use Rattle.choice.specs.Rect.{turn_holds}
use Rattle.choice.specs.Choice.{chosen}
use Rattle.flat.specs.Lists.{Sided, Room}
use Rattle.extent.specs.Sides.{lon_first, lon_last}
use Rattle.flat.specs.Order.{by_rank}
use Rattle.flat.specs.Turned.{SidesTurnable}
use Rattle.region.specs.declared.Bounds.{Bounds}
use Rattle.region.specs.declared.Spot.{Spot}
use Rattle.coverage.specs.declared.Listing.{Listing}
use Rattle.coverage.specs.InForce.{first_taken, in_force_by}
use Rattle.coverage.specs.Listing.{listing_of}
use Rattle.inforce.specs.declared.Area.{Area}
use Rattle.inforce.specs.Area.{area_judged}
use Rattle.group.specs.declared.Refusal.{Refusal}

-- what judging leaves in the lent lists: the sides and ranks of an accepted group's grids
abbrev pub SidesLeft : Result ⊤ Refusal → Group → (sides ranks : List ℕ) → Type 0
SidesLeft v g sides ranks = v ≡ Ok tt → Sided g g.grids sides ranks

-- what a list or a hole is worked out from: an accepted group and an admitted area, and the sides and ranks of its grids
pub record Ready (g : Group) (a : Area) (sides ranks : List ℕ) : Type 0 where
  pub accepted : area_judged g a ≡ Ok tt
  pub sided : Sided g g.grids sides ranks
  pub room : Room sides ranks grids_most

-- four sides and a rank within the limits for each of n grids, of which no two share a rank and an admitted point
pub record FlatSound (sides ranks : List ℕ) (n : ℕ) : Type 0 where
  pub room : Room sides ranks n
  pub turnable : SidesTurnable sides n
  pub ranked : (k : ℕ) → k < n → (1 ≤ at ranks k) × (at ranks k ≤ rank_most)
  pub apart : (x y i j : ℕ) → lon_first ≤ x → x ≤ lon_last → i < j → j < n → at ranks i ≡ at ranks j
      → turn_holds lon_turn sides i x y ≡ true → turn_holds lon_turn sides j x y ≡ true → ⊥

-- a part of the admitted longitudes
abbrev pub Admitted : Bounds → Type 0
Admitted a = (lon_first ≤ a.west) × (a.east ≤ lon_last)

-- the number of the grid chosen at a point
abbrev pub flat_chosen : List ℕ → List ℕ → ℕ → ℕ → ℕ → ℕ
flat_chosen sides ranks n x y = chosen (λ k. turn_holds lon_turn sides k x y) (at ranks) n

-- the list
unfoldable pub flat_listing : List ℕ → List ℕ → ℕ → Bounds → Listing
flat_listing sides ranks n a = listing_of (in_force_by (flat_chosen sides ranks n) (by_rank (at ranks) n rank_most) a)

-- the hole
unfoldable pub flat_hole : List ℕ → List ℕ → ℕ → Bounds → Option Spot
flat_hole sides ranks n a = first_taken (flat_chosen sides ranks n) a 0
