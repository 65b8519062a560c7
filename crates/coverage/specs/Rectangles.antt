-- Grids as rectangles: a grid owns one or several, and holds what one of them holds.
use Rattle.std.specs.Prelude.{◌≡◌, Bool, true, ◌&&◌, List, ℕ, ◌*◌, ◌≤◌, ◌<◌, eqb, length, Option}
use Rattle.numbers.specs.First.{some}
use Rattle.numbers.specs.Lists.{at}
use Rattle.choice.specs.Rect.{rect_holds}
use Rattle.choice.specs.Choice.{chosen}
use Rattle.region.specs.declared.Bounds.{Bounds}
use Rattle.region.specs.declared.Spot.{Spot}
use Rattle.coverage.specs.InForce.{first_taken}

-- the most grids, and so entries of a list, and the most rectangles, three for each
abbrev pub entries_most : ℕ
entries_most = 64

abbrev pub rects_most : ℕ
rects_most = entries_most * 3

-- the four sides of each rectangle and its owner, a grid counted from 0; the rank number of each grid
pub record Rectangles : Type 0 where
  pub rects : List ℕ
  pub owners : List ℕ
  pub ranks : List ℕ

abbrev pub rectangles : List ℕ → List ℕ → List ℕ → Rectangles
rectangles rs os ks = record { rects = rs; owners = os; ranks = ks }

-- rectangle r is one of grid g's and holds the point
abbrev pub own_holds : List ℕ → List ℕ → ℕ → ℕ → ℕ → ℕ → Bool
own_holds rs os g x y r = eqb (at os r) g && rect_holds rs r x y

-- grid g, from 0, holds the point
unfoldable pub grid_holds : Rectangles → ℕ → ℕ → ℕ → Bool
grid_holds l g x y = some (own_holds l.rects l.owners g x y) (length l.owners)

-- the number, from 1, of the grid chosen at the point, 0 if none is
unfoldable pub chosen_at : Rectangles → ℕ → ℕ → ℕ
chosen_at l x y = chosen (λ g. grid_holds l g x y) (at l.ranks) (length l.ranks)

-- the first point of the area at which the grid numbered k is chosen, or none where k is 0
abbrev pub first_chosen : Rectangles → Bounds → ℕ → Option Spot
first_chosen l a k = first_taken (chosen_at l) a k

-- what the lists of an accepted group have
pub record SoundRects (l : Rectangles) : Type 0 where
  pub sides : length l.rects ≡ 4 * length l.owners
  pub few : length l.owners ≤ rects_most
  pub owned : (r : ℕ) → r < length l.owners → at l.owners r < length l.ranks
  pub grids : length l.ranks ≤ entries_most
  -- grids that share a point never share a rank
  pub apart : (x y i j : ℕ) → i < j → j < length l.ranks → at l.ranks i ≡ at l.ranks j
      → grid_holds l i x y ≡ true → grid_holds l j x y ≡ true → ⊥
