-- The grid of a group chosen at a point: of those whose extent holds it, the one with the lowest rank number.
use Rattle.std.specs.Prelude.{ℕ, ◌<◌, ◌≡◌, true, ℤ}
use Rattle.group.specs.declared.Group.{Group}
use Rattle.group.specs.Record.{grid_at}
use Rattle.extent.specs.Extent.{holds}
use Rattle.choice.specs.Choice.{chosen}

-- the number, from 1, of the grid chosen at longitude x and latitude y; 0 if no grid holds the point
unfoldable pub chosen_in : Group → ℤ → ℤ → ℕ
chosen_in g x y = chosen (λ k. holds (grid_at g k) x y) (λ k. (grid_at g k).rank) g.grids

-- one grid or more of the group holds the point
abbrev pub Held : Group → ℤ → ℤ → Type 0
Held g x y = (k : ℕ) × (k < g.grids) × (holds (grid_at g k) x y ≡ true)
