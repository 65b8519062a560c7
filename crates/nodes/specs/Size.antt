-- What the loader's inner functions answer: the size of a float in steps, without its sign, cut at 2^31.
use Rattle.std.specs.Prelude.{ℕ, ◌^◌, min, cond, nat_abs, Float}
use Rattle.nodes.specs.Load.{infinite, steps}

-- an infinity counts as 2^31
unfoldable pub size_of : ℕ → Float → ℕ
size_of q x = cond (infinite x) (2 ^ 31) (min (nat_abs (steps q x)) (2 ^ 31))
