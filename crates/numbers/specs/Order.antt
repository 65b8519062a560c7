-- Signed numbers: the lesser and the greater of two, a limit on the size, the distance from the least admitted number, and a signed number
-- where numbers are unsigned.
use Rattle.std.specs.Prelude.{ℕ, suc, ◌+◌, ◌-◌, Bool, cond, ◌&&◌, ℤ, pos, negsuc, neg_ℤ}
use Rattle.std.specs.Int.Signed.{le_z}

abbrev pub min_z : ℤ → ℤ → ℤ
min_z a b = cond (le_z a b) a b

abbrev pub max_z : ℤ → ℤ → ℤ
max_z a b = cond (le_z a b) b a

-- z lies from a to b
abbrev pub between : ℤ → ℤ → ℤ → Bool
between a b z = le_z a z && le_z z b

-- z lies from -m to m
abbrev pub within : ℕ → ℤ → Bool
within m z = between (neg_ℤ (pos m)) (pos m) z

-- z + m, of a z from -m upwards
abbrev pub raised : ℕ → ℤ → ℕ
raised m (pos n) = m + n
raised m (negsuc n) = m - suc n

-- what stands for a number below zero where numbers are unsigned: the greatest of 64 bits, beyond every limit
abbrev pub beyond : ℕ
beyond = 18446744073709551615

-- a signed number where numbers are unsigned
abbrev pub count_of : ℤ → ℕ
count_of (pos n) = n
count_of (negsuc n) = beyond
