-- The earlier of two points, as an inner function answers it.
use Rattle.std.specs.Prelude.{Bool, cond, ◌&&◌, ◌||◌, ℕ, leb, ltb, eqb, Option, Some, None}
use Rattle.region.specs.declared.Spot.{Spot}

-- of two points the one further south, and in one row the one further west
abbrev pub earlierb : ℕ → ℕ → ℕ → ℕ → Bool
earlierb x y u v = ltb y v || (eqb y v && leb x u)

abbrev pub earlier : Option Spot → Option Spot → Option Spot
earlier None t = t
earlier (Some s) None = Some s
earlier (Some s) (Some t) = cond (earlierb s.x s.y t.x t.y) (Some s) (Some t)
