-- Rectangles in a flat list, four numbers each: west, east, south, north.
use Rattle.std.specs.Prelude.{ℕ, ◌+◌, ◌*◌, List, set}
use Rattle.numbers.specs.Lists.{at}
use Rattle.extent.specs.declared.Sides.{Sides}

-- rectangle r, from 0
unfoldable pub rect_at : List ℕ → ℕ → Sides
rect_at rects r = record { west = at rects (r * 4); east = at rects (r * 4 + 1); south = at rects (r * 4 + 2); north = at rects (r * 4 + 3) }

-- four sides stored as rectangle r
abbrev pub put_rect : List ℕ → ℕ → Sides → List ℕ
put_rect rects r s = set (set (set (set rects (r * 4) s.west) (r * 4 + 1) s.east) (r * 4 + 2) s.south) (r * 4 + 3) s.north
