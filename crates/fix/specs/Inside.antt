-- A point inside a grid, and its node range within the list: what inner functions rely on.
use Rattle.std.specs.Prelude.{ℕ, ◌+◌, ◌-◌, ◌*◌, ◌≤◌, ◌<◌}
use Rattle.group.specs.Numbers.{parameters_most, spacing_most, nodes_least, list_most}
use Rattle.fix.specs.declared.Offset.{Offset}

-- a point within the extent of a grid whose numbers are within their limits
pub record InsideGrid (l : Offset) : Type 0 where
  pub sx_pos : 0 < l.sx
  pub sy_pos : 0 < l.sy
  pub sx_most : l.sx ≤ spacing_most
  pub sy_most : l.sy ≤ spacing_most
  pub ni_least : nodes_least ≤ l.ni
  pub nj_least : nodes_least ≤ l.nj
  pub dx_most : l.dx ≤ (l.ni - 1) * l.sx
  pub dy_most : l.dy ≤ (l.nj - 1) * l.sy
  pub np_most : l.np ≤ parameters_most
  pub range_most : l.start + l.ni * l.nj * l.np ≤ list_most

-- the grid's node range ends within a list of so many nodes
abbrev pub RangeListed : Offset → ℕ → Type 0
RangeListed l count = l.start + l.ni * l.nj * l.np ≤ count
