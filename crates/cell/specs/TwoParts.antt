-- A whole number of any size in two parts, each of one word: how many times it holds 2 to the power 32, rounded down, and what is left over.
use Rattle.std.specs.Prelude.{ℕ, ◌-◌, ◌/◌, ◌%◌, ◌^◌, ℤ, pos, negsuc}
use Rattle.cell.specs.declared.TwoParts.{TwoParts}

unfoldable pub high_part : ℤ → ℤ
high_part (pos n) = pos (n / 2 ^ 32)
high_part (negsuc n) = negsuc (n / 2 ^ 32)

unfoldable pub low_part : ℤ → ℕ
low_part (pos n) = n % 2 ^ 32
low_part (negsuc n) = 2 ^ 32 - 1 - n % 2 ^ 32

abbrev pub parts_of : ℤ → TwoParts
parts_of z = record { high = high_part z; low = low_part z }
