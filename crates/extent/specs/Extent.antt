-- A grid's extent, from least to greatest in each direction, edges included; which points it holds, round the earth; its node range; and
-- refusal 4.
use Rattle.std.specs.Prelude.{ℕ, zero, suc, ◌+◌, ◌*◌, ◌-◌, Bool, ◌&&◌, ◌||◌, leb, ℤ, pos, ◌+ℤ◌, ◌-ℤ◌, ◌*ℤ◌, nat_abs}
use Rattle.std.specs.Int.Signed.{le_z}
use Rattle.numbers.specs.First.{first, some}
use Rattle.numbers.specs.Order.{between, min_z, max_z}
use Rattle.numbers.specs.Circle.{turns}
use Rattle.group.specs.Numbers.{lon_turn, lon_edge_fits, lat_edge_fits, lon_admitted, list_most}
use Rattle.group.specs.declared.Grid.{Grid}
use Rattle.extent.specs.declared.Axis.{Axis}
use Rattle.extent.specs.declared.Span.{Span}
use Rattle.extent.specs.declared.LonSpan.{LonSpan}
use Rattle.extent.specs.declared.LatSpan.{LatSpan}

abbrev pub lon_axis : Grid → Axis
lon_axis g = record { at = g.lon.0; step = g.dlon; nodes = g.ni }

abbrev pub lat_axis : Grid → Axis
lat_axis g = record { at = g.lat.0; step = g.dlat; nodes = g.nj }

-- where the last node lies
unfoldable pub far_edge : Axis → ℤ
far_edge a = a.at +ℤ pos (a.nodes - 1) *ℤ a.step

-- from the least to the greatest
unfoldable pub span_of : Axis → Span
span_of a = record { low = min_z a.at (far_edge a); high = max_z a.at (far_edge a) }

unfoldable pub lon_span : Grid → LonSpan
lon_span g = record { west = record { 0 = (span_of (lon_axis g)).low }; east = record { 0 = (span_of (lon_axis g)).high } }

unfoldable pub lat_span : Grid → LatSpan
lat_span g = record { south = record { 0 = (span_of (lat_axis g)).low }; north = record { 0 = (span_of (lat_axis g)).high } }

-- a longitude, a latitude lies in the extent
abbrev pub lon_lies : LonSpan → ℤ → Bool
lon_lies s x = between s.west.0 s.east.0 x

abbrev pub lat_lies : LatSpan → ℤ → Bool
lat_lies s y = between s.south.0 s.north.0 y

-- a longitude as it is, or it plus or minus a whole turn: the three, in that order
abbrev pub turned : ℕ → ℤ → ℤ
turned zero x = x
turned (suc zero) x = x +ℤ pos lon_turn
turned (suc (suc k)) x = x -ℤ pos lon_turn

-- a grid holds a point if the point, or it plus or minus a whole turn, lies in the extent
unfoldable pub lon_holds : LonSpan → ℤ → Bool
lon_holds s x = some (λ k. lon_lies s (turned k x)) turns

unfoldable pub holds : Grid → ℤ → ℤ → Bool
holds g x y = lon_holds (lon_span g) x && lat_lies (lat_span g) y

-- the first that does, in that order, is the longitude used for the cell
unfoldable pub lon_used : LonSpan → ℤ → ℤ
lon_used s x = turned (first (λ k. lon_lies s (turned k x)) turns) x

-- a longitude as an admitted one: it, or it plus or minus a whole turn
unfoldable pub lon_inward : ℤ → ℤ
lon_inward x = turned (first (λ k. lon_admitted (turned k x)) turns) x

-- two grids hold an admitted longitude in common: the west side of one of them. They share a latitude; they hold an admitted point in common
unfoldable pub lon_meet : LonSpan → LonSpan → Bool
lon_meet f g = lon_holds g (lon_inward f.west.0) || lon_holds f (lon_inward g.west.0)

abbrev pub lat_meet : LatSpan → LatSpan → Bool
lat_meet f g = le_z f.south.0 g.north.0 && le_z g.south.0 f.north.0

unfoldable pub meet : Grid → Grid → Bool
meet f g = lon_meet (lon_span f) (lon_span g) && lat_meet (lat_span f) (lat_span g)

-- the position in the node list behind the grid's last node, of np parameters
abbrev pub node_end : ℕ → Grid → ℕ
node_end np g = g.start + g.ni * g.nj * np

-- how wide the grid is, from its first node to its last along a parallel
abbrev pub width : Grid → ℕ
width g = (g.ni - 1) * nat_abs g.dlon

-- the far edges are within the limits, the grid is no wider than a turn, and the node range ends within the longest list
unfoldable pub inside : ℕ → Grid → Bool
inside np g =
    lon_edge_fits (far_edge (lon_axis g)) && lat_edge_fits (far_edge (lat_axis g)) && leb (width g) lon_turn && leb (node_end np g) list_most

-- a grid written by turn k elsewhere: as it is, or a whole turn farther east or west
abbrev pub moved_grid : ℕ → Grid → Grid
moved_grid k g =
    record {
      name = g.name;
      lon = record { 0 = turned k g.lon.0 };
      lat = g.lat;
      dlon = g.dlon;
      dlat = g.dlat;
      ni = g.ni;
      nj = g.nj;
      rank = g.rank;
      start = g.start;
    }
