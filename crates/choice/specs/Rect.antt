-- Rectangles of whole coordinates in one flat list, four numbers each: west, east, south, north, sides included; and the points that they
-- hold round a circle of longitudes.
use Rattle.std.specs.Prelude.{Bool, ◌&&◌, List, ℕ, ◌+◌, ◌*◌, ◌/◌, min, leb, length}
use Rattle.numbers.specs.First.{first, some}
use Rattle.numbers.specs.Lists.{at}
use Rattle.numbers.specs.Circle.{turns, turned_by}

abbrev pub west_of : List ℕ → ℕ → ℕ
west_of rs i = at rs (i * 4)

abbrev pub east_of : List ℕ → ℕ → ℕ
east_of rs i = at rs (i * 4 + 1)

abbrev pub south_of : List ℕ → ℕ → ℕ
south_of rs i = at rs (i * 4 + 2)

abbrev pub north_of : List ℕ → ℕ → ℕ
north_of rs i = at rs (i * 4 + 3)

-- rectangle i, from 0, holds the point (x, y)
unfoldable pub rect_holds : List ℕ → ℕ → ℕ → ℕ → Bool
rect_holds rs i x y = leb (west_of rs i) x && (leb x (east_of rs i) && (leb (south_of rs i) y && leb y (north_of rs i)))

-- it holds the point, or the point a whole turn farther east or west
unfoldable pub turn_holds : (turn : ℕ) → List ℕ → ℕ → ℕ → ℕ → Bool
turn_holds turn rs i x y = some (λ k. rect_holds rs i (turned_by turn k x) y) turns

-- the first longitude of these, in that order, that it holds
unfoldable pub turn_used : (turn : ℕ) → List ℕ → ℕ → ℕ → ℕ → ℕ
turn_used turn rs i x y = turned_by turn (first (λ k. rect_holds rs i (turned_by turn k x) y) turns) x

-- how many rectangles have all four sides, and a number in a second list
abbrev pub pair_count : List ℕ → List ℕ → ℕ
pair_count rs ns = min (length rs / 4) (length ns)
