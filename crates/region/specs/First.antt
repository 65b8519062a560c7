-- The southmost, then westmost point of a rectangle at which a test holds.
use Rattle.std.specs.Prelude.{◌≡◌, Bool, true, false, cond, ℕ, zero, suc, ◌+◌, ◌-◌, ◌≤◌, ◌<◌, Option, Some, None}
use Rattle.region.specs.declared.Spot.{Spot}

abbrev pub spot_at : (x y : ℕ) → Spot
spot_at x y = record { x = x; y = y }

-- the first if it is a point, else the second
abbrev pub or_else : Option Spot → Option Spot → Option Spot
or_else (Some s) t = Some s
or_else None t = t

-- in row y: the westmost of the n longitudes from x on at which p holds
unfoldable pub first_in_row : (ℕ → ℕ → Bool) → ℕ → ℕ → ℕ → Option Spot
first_in_row p y x zero = None
first_in_row p y x (suc n) = let r = first_in_row p y (suc x) n in cond (p x y) (Some (spot_at x y)) r

-- in the n rows from y on: the first row that has a point, and its westmost point
unfoldable pub first_in_rows : (ℕ → ℕ → Bool) → ℕ → ℕ → ℕ → ℕ → Option Spot
first_in_rows p x wide y zero = None
first_in_rows p x wide y (suc n) = let r = first_in_rows p x wide (suc y) n in or_else (first_in_row p y x wide) r

-- the southmost, then westmost point from west to east and from south to north at which p holds
unfoldable pub first_in : (ℕ → ℕ → Bool) → ℕ → ℕ → ℕ → ℕ → Option Spot
first_in p west east south north = first_in_rows p west (east + 1 - west) south (north + 1 - south)

-- (x, y) is that point: it lies inside, p holds there, and at no point of a row further south, or further west in its row
pub record IsFirst (p : ℕ → ℕ → Bool) (west east south north x y : ℕ) : Type 0 where
  pub west≤ : west ≤ x
  pub ≤east : x ≤ east
  pub south≤ : south ≤ y
  pub ≤north : y ≤ north
  pub here : p x y ≡ true
  pub below : (i j : ℕ) → west ≤ i → i ≤ east → south ≤ j → j < y → p i j ≡ false
  pub left : (i : ℕ) → west ≤ i → i < x → p i y ≡ false
