-- The four sides of an extent as unsigned numbers, the distances from the zero of longitudes and of latitudes, and which points they hold,
-- round the earth: what code works on.
use Rattle.std.specs.Prelude.{ℕ, ◌+◌, ◌-◌, ◌%◌, ◌≤◌, Bool, cond, ◌&&◌, ◌||◌, leb, ℤ, nat_abs}
use Rattle.numbers.specs.First.{some}
use Rattle.numbers.specs.Order.{raised}
use Rattle.numbers.specs.Circle.{turns, turned_by}
use Rattle.group.specs.Numbers.{lon_edge_most, lat_edge_most, lon_most, lon_turn, lon_zero, lat_zero}
use Rattle.group.specs.declared.Grid.{Grid}
use Rattle.extent.specs.declared.Sides.{Sides}
use Rattle.extent.specs.Extent.{lon_span, lat_span, width}

abbrev pub lon_from_least : ℤ → ℕ
lon_from_least x = raised lon_zero x

abbrev pub lat_from_least : ℤ → ℕ
lat_from_least y = raised lat_zero y

unfoldable pub sides_of : Grid → Sides
sides_of g =
    record {
      west = lon_from_least (lon_span g).west.0;
      east = lon_from_least (lon_span g).east.0;
      south = lat_from_least (lat_span g).south.0;
      north = lat_from_least (lat_span g).north.0;
    }

-- the edges lie within the limits, so that the distances are true ones, and the grid is no wider than a turn
pub record Edges (g : Grid) : Type 0 where
  pub west : nat_abs (lon_span g).west.0 ≤ lon_edge_most
  pub east : nat_abs (lon_span g).east.0 ≤ lon_edge_most
  pub south : nat_abs (lat_span g).south.0 ≤ lat_edge_most
  pub north : nat_abs (lat_span g).north.0 ≤ lat_edge_most
  pub narrow : width g ≤ lon_turn

-- the distances of the least and of the greatest admitted longitude
abbrev pub lon_first : ℕ
lon_first = lon_zero - lon_most

abbrev pub lon_last : ℕ
lon_last = lon_zero + lon_most

-- the point (x, y) lies within the sides
abbrev pub sides_lie : Sides → ℕ → ℕ → Bool
sides_lie s x y = leb s.west x && (leb x s.east && (leb s.south y && leb y s.north))

-- it, or it plus or minus a whole turn, does
unfoldable pub sides_hold : Sides → ℕ → ℕ → Bool
sides_hold s x y = some (λ k. sides_lie s (turned_by lon_turn k x) y) turns

-- how far east of w the longitude x lies, round the earth
abbrev pub ahead : ℕ → ℕ → ℕ
ahead w x = cond (leb w x) ((x - w) % lon_turn) (lon_turn - 1 - (w - x - 1) % lon_turn)

-- two extents share a coordinate as they are written, and round the earth
abbrev pub sides_meet : Sides → Sides → Bool
sides_meet f g = leb f.west g.east && leb g.west f.east && (leb f.south g.north && leb g.south f.north)

abbrev pub turns_meet : Sides → Sides → Bool
turns_meet f g =
    (leb (ahead g.west f.west) (g.east - g.west) || leb (ahead f.west g.west) (f.east - f.west))
    && (leb f.south g.north && leb g.south f.north)

-- the extent reaches the least or the greatest admitted longitude, or lies beyond it
abbrev pub reaches : Sides → Bool
reaches s = leb s.west lon_first || leb lon_last s.east
