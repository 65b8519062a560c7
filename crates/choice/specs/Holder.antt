-- The choice over rectangles in the order of their owners' ranks. A grid, counted from 0, owns one rectangle or several.
use Rattle.std.specs.Prelude.{ℕ, suc, ◌-◌, ◌≤◌, ◌<◌, ◌≡◌, Bool, true, cond, ltb, Option, Some, None}
use Rattle.numbers.specs.First.{first}
use Rattle.choice.specs.declared.Holder.{Holder}

-- the owner, a grid's number from 1, of the first of n rectangles that holds the point, 0 where none does
unfoldable pub holder : (ℕ → Bool) → (ℕ → ℕ) → ℕ → ℕ
holder held owner n = cond (ltb (first held n) n) (owner (first held n)) 0

-- the owner, a grid counted from 0, and the shift of that rectangle
unfoldable pub held_by : (ℕ → Bool) → (owner shift : ℕ → ℕ) → ℕ → Option Holder
held_by held owner shift n =
    cond (ltb (first held n) n) (Some (record { owner = owner (first held n); shift = shift (first held n) })) None

-- n rectangles in the order of their owners' ranks, of `grids` grids
pub record Ranked (rank owner : ℕ → ℕ) (n grids : ℕ) : Type 0 where
  pub owned : (r : ℕ) → r < n → (1 ≤ owner r) × (owner r ≤ grids)
  pub sorted : (q r : ℕ) → q < r → r < n → rank (owner q - 1) ≤ rank (owner r - 1)

-- a grid holds the point exactly where one of its rectangles does
pub record Owns (held : ℕ → Bool) (owner : ℕ → ℕ) (n : ℕ) (inside : ℕ → Bool) (grids : ℕ) : Type 0 where
  pub grid : (r : ℕ) → r < n → held r ≡ true → inside (owner r - 1) ≡ true
  pub rect : (g : ℕ) → g < grids → inside g ≡ true → (r : ℕ) × (r < n) × (owner r ≡ suc g) × (held r ≡ true)
