-- Which grids keep the choice from a grid, or from none: the better ones. What inner functions go by.
use Rattle.std.specs.Prelude.{Bool, ℕ}
use Rattle.choice.specs.Choice.{better}

-- grid j, where it holds the point, keeps the choice from the grid numbered k, from 1; where k is 0, for none, any grid does
unfoldable pub blocks : (ℕ → ℕ) → ℕ → ℕ → Bool
blocks rank j k = better rank j k
