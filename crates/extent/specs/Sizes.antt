-- Sizes that keep far edges and node ranges within 64 bits: what inner functions rely on.
use Rattle.std.specs.Prelude.{◌≤◌, nat_abs}
use Rattle.group.specs.Numbers.{lon_edge_most, spacing_most, nodes_least, nodes_most, start_most}
use Rattle.group.specs.declared.Grid.{Grid}
use Rattle.extent.specs.declared.Axis.{Axis}
use Rattle.extent.specs.Extent.{lon_axis, lat_axis}

-- sizes that keep an axis's far edge within 64 bits
pub record Reach (a : Axis) : Type 0 where
  pub at_size : nat_abs a.at ≤ lon_edge_most
  pub step_size : nat_abs a.step ≤ spacing_most
  pub least : nodes_least ≤ a.nodes
  pub most : a.nodes ≤ nodes_most

-- sizes that keep a grid's far edges and its node range within 64 bits
pub record Sized (g : Grid) : Type 0 where
  pub lon : Reach (lon_axis g)
  pub lat : Reach (lat_axis g)
  pub first : g.start ≤ start_most
