-- Distances and weights of sizes that keep sums within 64 bits: what inner functions rely on.
use Rattle.std.specs.Prelude.{ℕ, ◌+◌, ◌*◌, ◌≤◌, ◌<◌, ◌≡◌}
use Rattle.group.specs.Numbers.{spacing_most}
use Rattle.cell.specs.declared.Weights.{Weights}

-- spacing sizes sx, sy, and distances fx, fy from the cell's node of lower indices
pub record Distances (sx sy fx fy : ℕ) : Type 0 where
  pub sx_pos : 0 < sx
  pub sy_pos : 0 < sy
  pub sx_most : sx ≤ spacing_most
  pub sy_most : sy ≤ spacing_most
  pub fx_most : fx ≤ sx
  pub fy_most : fy ≤ sy

-- the weights add to the total
pub record Weighed (w : Weights) : Type 0 where
  pub sum : w.w00 + w.w10 + w.w01 + w.w11 ≡ w.total
  pub positive : 0 < w.total
  pub most : w.total ≤ spacing_most * spacing_most
