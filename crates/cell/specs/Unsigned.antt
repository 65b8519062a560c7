-- The value of a cell in numbers that are not below 0: what code works on.
use Rattle.std.specs.Prelude.{ℕ, ◌+◌, ◌*◌, ◌/◌, Bool, ◌&&◌}
use Rattle.numbers.specs.Round.{nearest}
use Rattle.numbers.specs.Order.{within}
use Rattle.cell.specs.declared.Weights.{Weights}
use Rattle.cell.specs.declared.Corners.{Corners}

-- the weighted sum
abbrev pub summed : Weights → (a b c d : ℕ) → ℕ
summed w a b c d = w.w00 * a + w.w10 * b + w.w01 * c + w.w11 * d

-- over the total, rounded
unfoldable pub blended : Weights → (a b c d : ℕ) → ℕ
blended w a b c d = nearest (summed w a b c d) w.total

-- what is added to any corner, so that none is below 0: even, so that ties stay
abbrev pub corner_shift : ℕ
corner_shift = 2147483648

-- what is added to corners that lie no farther from 0, for the one-word way: even too
abbrev pub near_most : ℕ
near_most = 4194304

-- the greatest total for which their sum fits 64 bits, whatever they hold
abbrev pub near_total : ℕ
near_total = 18446744073709551615 / (2 * near_most)

unfoldable pub corners_near : Corners → Bool
corners_near v = within near_most v.v00 && within near_most v.v10 && within near_most v.v01 && within near_most v.v11
