-- Rectangles that are all blockers, and the points that none of them holds.
use Rattle.std.specs.Prelude.{Bool, not, ◌&&◌, List, ℕ, ◌/◌, leb, length}
use Rattle.numbers.specs.First.{some}
use Rattle.choice.specs.Rect.{east_of, south_of, north_of, rect_holds}

-- how many rectangles have all four sides
abbrev pub rect_count : List ℕ → ℕ
rect_count rs = length rs / 4

-- no rectangle holds the point
unfoldable pub free : List ℕ → ℕ → ℕ → Bool
free rs x y = not (some (λ i. rect_holds rs i x y) (rect_count rs))

-- rectangle i lies in row y and does not end west of x
unfoldable pub reaches : List ℕ → ℕ → ℕ → ℕ → Bool
reaches rs i x y = leb x (east_of rs i) && (leb (south_of rs i) y && leb y (north_of rs i))
