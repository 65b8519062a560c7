-- The grid chosen at a point. `held i` says whether grid i, from 0, holds the point; `rank i` is its rank number, of which 1 is the best.
use Rattle.std.specs.Prelude.{Bool, true, cond, ◌&&◌, ℕ, zero, suc, ltb}

-- grid i has a lower rank number than the grid numbered c, from 1; any has where c is 0, for none
abbrev pub better : (ℕ → ℕ) → ℕ → ℕ → Bool
better rank i zero = true
better rank i (suc c) = ltb (rank i) (rank c)

-- the better of grid i, where it holds the point, and the grid numbered c
unfoldable pub better_of : Bool → (ℕ → ℕ) → ℕ → ℕ → ℕ
better_of held rank i c = cond (held && better rank i c) (suc i) c

-- the number, from 1, of the grid with the lowest rank number among the first n that hold the point; 0 if none does
unfoldable pub chosen : (ℕ → Bool) → (ℕ → ℕ) → ℕ → ℕ
chosen held rank zero = 0
chosen held rank (suc i) = let c = chosen held rank i in better_of (held i) rank i c
