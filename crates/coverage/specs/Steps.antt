-- What the inner functions answer: where blockers leave the choice to a grid, or to none, the search over a grid's rectangles, the blockers
-- near a part of the area, and the rectangles from west to east.
use Rattle.std.specs.Prelude.{◌≡◌, Bool, true, not, ◌&&◌, List, ℕ, suc, ◌+◌, ◌*◌, ◌≤◌, ◌<◌, min, max, leb, length, set, Option, Some, None}
use Rattle.numbers.specs.First.{some}
use Rattle.numbers.specs.Lists.{at}
use Rattle.choice.specs.Rect.{west_of, east_of, south_of, north_of, rect_holds}
use Rattle.choice.specs.Blocks.{blocks}
use Rattle.region.specs.First.{first_in}
use Rattle.region.specs.Earlier.{earlier}
use Rattle.region.specs.declared.Bounds.{Bounds}
use Rattle.region.specs.declared.Spot.{Spot}
use Rattle.coverage.specs.declared.Search.{Search}
use Rattle.coverage.specs.Rectangles.{Rectangles, rectangles, SoundRects, own_holds, first_chosen}

-- the grids that a search goes by
abbrev pub searched : Search → Rectangles
searched s = rectangles s.rects.now s.owners.now s.ranks.now

-- rectangle r is one of a blocker of the grid numbered k, from 1, or of none where k is 0, and holds the point
abbrev pub block_holds : Rectangles → ℕ → ℕ → ℕ → ℕ → Bool
block_holds l k x y r = blocks (at l.ranks) (at l.owners r) k && rect_holds l.rects r x y

-- no blocker of the grid numbered k, or of none, holds the point
unfoldable pub unblocked : Rectangles → ℕ → ℕ → ℕ → Bool
unblocked l k x y = not (some (block_holds l k x y) (length l.owners))

-- the first such point of a part of the area
abbrev pub first_unblocked : Rectangles → Bounds → ℕ → Option Spot
first_unblocked l part k = first_in (unblocked l k) part.west part.east part.south part.north

-- of the area, the first point that rectangle r, if it is one of grid g's, holds and that no blocker of g holds
abbrev pub first_of_rect : Rectangles → Bounds → ℕ → ℕ → Option Spot
first_of_rect l a g r =
    first_in (λ x y. own_holds l.rects l.owners g x y r && unblocked l (suc g) x y) a.west a.east a.south a.north

-- the same of those rectangles of grid g that the first n numbers name
abbrev pub first_of : Rectangles → Bounds → ℕ → List ℕ → ℕ → Option Spot
first_of l a g numbers n =
    first_in (λ x y. some (λ i. own_holds l.rects l.owners g x y (at numbers i)) n && unblocked l (suc g) x y)
    a.west a.east a.south a.north

-- the area, no farther north than a point that was found
abbrev pub up_to : Bounds → Option Spot → Bounds
up_to a (Some s) = record { west = a.west; east = a.east; south = a.south; north = min a.north s.y }
up_to a None = a

-- the part of the area that lies in rectangle r
abbrev pub part_of : List ℕ → ℕ → Bounds → Bounds
part_of rs r a =
    record {
      west = max a.west (west_of rs r);
      east = min a.east (east_of rs r);
      south = max a.south (south_of rs r);
      north = min a.north (north_of rs r);
    }

-- neither of rectangle r and the area lies wholly on one side of the other
unfoldable pub meets : List ℕ → ℕ → Bounds → Bool
meets rs r a =
    leb (west_of rs r) a.east && (leb a.west (east_of rs r) && (leb (south_of rs r) a.north && leb a.south (north_of rs r)))

-- rectangle r is one of a blocker of the grid numbered k, or of none, and meets the part
unfoldable pub is_near : Rectangles → ℕ → Bounds → ℕ → Bool
is_near l k part r = blocks (at l.ranks) (at l.owners r) k && meets l.rects r part

-- rectangle r of rs stored as rectangle i of near
abbrev pub copied : List ℕ → ℕ → List ℕ → ℕ → List ℕ
copied rs r near i =
    set (set (set (set near (i * 4) (west_of rs r)) (i * 4 + 1) (east_of rs r)) (i * 4 + 2) (south_of rs r)) (i * 4 + 3) (north_of rs r)

-- rectangle i of near holds the points that rectangle r of rs holds
abbrev pub Alike : List ℕ → ℕ → List ℕ → ℕ → Type 0
Alike near i rs r = (x y : ℕ) → rect_holds near i x y ≡ rect_holds rs r x y

-- rectangle r is one of a blocker of the grid numbered k, or of none
abbrev pub Blocker : Rectangles → ℕ → ℕ → Type 0
Blocker l k r = (r < length l.owners) × (blocks (at l.ranks) (at l.owners r) k ≡ true)

-- the first count rectangles of near are of such blockers, and all of those that meet the part are among them
pub record Near (l : Rectangles) (k : ℕ) (part : Bounds) (near : List ℕ) (count : ℕ) : Type 0 where
  pub few : count ≤ length l.owners
  pub only : (i : ℕ) → i < count → (r : ℕ) × Blocker l k r × Alike near i l.rects r
  pub all : (r : ℕ) → r < length l.owners → is_near l k part r ≡ true → (i : ℕ) × (i < count) × Alike near i l.rects r

-- they are filled in, and the list is as long as it was
abbrev pub NearFilled : Rectangles → ℕ → Bounds → (near after : List ℕ) → ℕ → Type 0
NearFilled l k part near after count = Near l k part after count × (length after ≡ length near)

-- a search's answer, and the list that it overwrites as long as it was
abbrev pub PartAnswer : Rectangles → Bounds → ℕ → Option Spot → (near after : List ℕ) → Type 0
PartAnswer l part k s near after = (s ≡ first_unblocked l part k) × (length after ≡ length near)

abbrev pub RectAnswer : Rectangles → Bounds → ℕ → ℕ → Option Spot → (near after : List ℕ) → Type 0
RectAnswer l a g r s near after = (s ≡ first_of_rect l a g r) × (length after ≡ length near)

abbrev pub NextAnswer : Rectangles → Bounds → ℕ → ℕ → Option Spot → Option Spot → (near after : List ℕ) → Type 0
NextAnswer l a g r s t near after = (t ≡ earlier (first_of_rect l a g r) s) × (length after ≡ length near)

abbrev pub GridAnswer : Rectangles → Bounds → ℕ → Option Spot → (near after : List ℕ) → Type 0
GridAnswer l a g s near after = (s ≡ first_chosen l a (g + 1)) × (length after ≡ length near)

-- the first n numbers are those below n, in any order
pub record Each (n : ℕ) (numbers : List ℕ) : Type 0 where
  pub long : n ≤ length numbers
  pub below : (k : ℕ) → k < n → at numbers k < n
  pub each : (r : ℕ) → r < n → (k : ℕ) × (k < n) × (at numbers k ≡ r)

-- what a search relies on: sound rectangles, an order of them, and room for their sides
pub record Searchable (l : Rectangles) (eastward near : List ℕ) : Type 0 where
  pub sound : SoundRects l
  pub order : Each (length l.owners) eastward
  pub room : length l.rects ≤ length near
