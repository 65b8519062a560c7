-- What the functions that read a number answer.
use Rattle.std.specs.Prelude.{ℕ, ◌-◌, min, ℤ, pos, negsuc, Option, Some, None}
use Rattle.std.proofs.Math.Option as M

-- sizes are told apart up to here, which is beyond every limit
abbrev pub number_most : ℕ
number_most = 1000000000000000000

abbrev pub natural_of : M.Option ℕ → Option ℕ
natural_of M.none = None
natural_of (M.some n) = Some (min n number_most)

-- the number, or most or −most where it is beyond them
abbrev pub clamp : ℤ → ℤ
clamp (pos n) = pos (min n number_most)
clamp (negsuc n) = negsuc (min n (number_most - 1))

abbrev pub number_of : M.Option ℤ → Option ℤ
number_of M.none = None
number_of (M.some z) = Some (clamp z)
