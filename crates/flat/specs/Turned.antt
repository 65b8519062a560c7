-- A grid's extent as rectangles of the admitted longitudes, one for each turn; and rows of them, with their owners and shifts, in the order of
-- a list of grids.
use Rattle.std.specs.Prelude.{ℕ, ◌+◌, ◌-◌, ◌*◌, ◌/◌, ◌%◌, ◌≤◌, ◌<◌, min, max, ◌≡◌, List, length, set}
use Rattle.numbers.specs.Circle.{turns, shift_of}
use Rattle.numbers.specs.Lists.{at}
use Rattle.group.specs.Numbers.{lon_turn, rank_most}
use Rattle.extent.specs.declared.Sides.{Sides}
use Rattle.extent.specs.Sides.{lon_first, lon_last}
use Rattle.flat.specs.Rects.{rect_at, put_rect}
use Rattle.flat.specs.Order.{by_rank}

-- the admitted points that, turned by what adds this shift, lie within the sides; its west side is above its east side if there is none
abbrev pub part_of : ℕ → Sides → Sides
part_of shift s =
    record {
      west = max (s.west + lon_turn - shift) lon_first;
      east = min (s.east + lon_turn - shift) lon_last;
      south = s.south;
      north = s.north;
    }

-- place j of a list of grids' numbers, three for each: a grid, counted from 0, the shift of its turn j % 3, and its part for that
abbrev pub grid_placed : List ℕ → ℕ → ℕ
grid_placed order j = at order (j / turns) - 1

abbrev pub shift_placed : ℕ → ℕ
shift_placed j = shift_of lon_turn (j % turns)

abbrev pub part_placed : (sides order : List ℕ) → ℕ → Sides
part_placed sides order j = part_of (shift_placed j) (rect_at sides (grid_placed order j))

-- `count` rows, each with its owner, a grid counted from 0, and its shift: the parts of the first `places` places that are not empty, in
-- their order
pub record TurnedRows (sides order rows owners shifts : List ℕ) (places count : ℕ) : Type 0 where
  pub place : ℕ → ℕ
  pub below : (r : ℕ) → r < count → place r < places
  pub rising : (q r : ℕ) → q < r → r < count → place q < place r
  pub rect : (r : ℕ) → r < count → rect_at rows r ≡ part_placed sides order (place r)
  pub owner : (r : ℕ) → r < count → at owners r ≡ grid_placed order (place r)
  pub shift : (r : ℕ) → r < count → at shifts r ≡ shift_placed (place r)
  pub all : (j : ℕ) → j < places → (part_placed sides order j).west ≤ (part_placed sides order j).east → (r : ℕ) × (r < count) × (place r ≡ j)
  pub few : count ≤ places

-- the rows of n grids in the order of their ranks
abbrev pub RankedRows : (sides ranks rows owners shifts : List ℕ) (n count : ℕ) → Type 0
RankedRows sides ranks rows owners shifts n count =
    let order = by_rank (at ranks) n rank_most in TurnedRows sides order rows owners shifts (length order * turns) count

-- sides that lie a turn and more from the zero, and at most three turns
pub record Turnable (s : Sides) : Type 0 where
  pub west_least : lon_turn ≤ s.west
  pub east_least : lon_turn ≤ s.east
  pub west_most : s.west ≤ 3 * lon_turn
  pub east_most : s.east ≤ 3 * lon_turn

-- the first n grids of the list of sides have such
pub record SidesTurnable (sides : List ℕ) (n : ℕ) : Type 0 where
  pub room : n * 4 ≤ length sides
  pub each : (k : ℕ) → k < n → Turnable (rect_at sides k)

-- each number of a list is that of such a grid
pub record OfGrids (sides order : List ℕ) : Type 0 where
  pub number : (i : ℕ) → i < length order → (1 ≤ at order i) × (at order i * 4 ≤ length sides)
  pub turnable : (i : ℕ) → i < length order → Turnable (rect_at sides (at order i - 1))

-- room for so many rows
pub record RowRoom (rows owners shifts : List ℕ) (n : ℕ) : Type 0 where
  pub rows_room : n * 4 ≤ length rows
  pub owners_room : n ≤ length owners
  pub shifts_room : n ≤ length shifts

-- the lists are as long as they were
pub record RowsLong (rows owners shifts rowsAfter ownersAfter shiftsAfter : List ℕ) : Type 0 where
  pub rows_long : length rowsAfter ≡ length rows
  pub owners_long : length ownersAfter ≡ length owners
  pub shifts_long : length shiftsAfter ≡ length shifts

-- the lists behind the storing of a row
pub record RowPut (r : ℕ) (s : Sides) (owner shift : ℕ) (rows owners shifts rowsAfter ownersAfter shiftsAfter : List ℕ) : Type 0 where
  pub rect_put : rowsAfter ≡ put_rect rows r s
  pub owner_put : ownersAfter ≡ set owners r owner
  pub shift_put : shiftsAfter ≡ set shifts r shift
