-- What a point's cell needs of each grid, in a flat list of seven numbers a grid.
use Rattle.std.specs.Prelude.{ℕ, ◌+◌, ◌*◌, List, nat_abs, set}
use Rattle.numbers.specs.Lists.{at}
use Rattle.group.specs.declared.Grid.{Grid}
use Rattle.extent.specs.Sides.{lon_from_least, lat_from_least}
use Rattle.flat.specs.declared.Frame.{Frame}

-- a grid's node 0, as distances from the least longitude and latitude, its spacing sizes, counts of nodes and START
abbrev pub frame_of : Grid → Frame
frame_of g =
    record {
      lon = lon_from_least g.lon.0;
      lat = lat_from_least g.lat.0;
      dlon = nat_abs g.dlon;
      dlat = nat_abs g.dlat;
      ni = g.ni;
      nj = g.nj;
      start = g.start;
    }

-- the position in the node list behind its last node, of np parameters
abbrev pub frame_end : ℕ → Frame → ℕ
frame_end np f = f.start + f.ni * f.nj * np

-- the frame of grid k in the list
unfoldable pub frame_at : List ℕ → ℕ → Frame
frame_at frames k =
    record {
      lon = at frames (k * 7);
      lat = at frames (k * 7 + 1);
      dlon = at frames (k * 7 + 2);
      dlat = at frames (k * 7 + 3);
      ni = at frames (k * 7 + 4);
      nj = at frames (k * 7 + 5);
      start = at frames (k * 7 + 6);
    }

-- a frame stored for grid k
abbrev pub put_frame : List ℕ → ℕ → Frame → List ℕ
put_frame frames k f =
    set
    (set
    (set
    (set
    (set (set (set frames (k * 7) f.lon) (k * 7 + 1) f.lat) (k * 7 + 2) f.dlon)
    (k * 7 + 3) f.dlat)
    (k * 7 + 4) f.ni)
    (k * 7 + 5) f.nj)
    (k * 7 + 6) f.start
