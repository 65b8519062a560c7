-- What only inner functions cite: what is told of four numbers.
use Rattle.std.specs.Prelude.{ℕ, ◌+◌, ◌^◌, ◌<◌, ◌≡◌, Bool, ◌&&◌, List, ℤ}
use Rattle.std.specs.Int.Signed.{mag}
use Rattle.group.specs.Numbers.{is_zero}
use Rattle.abi.specs.Words.{name_words}
use Rattle.abi.specs.Abi.{number_at}

-- the four numbers from place k on are all 0
abbrev pub clear_from : List ℤ → ℕ → Bool
clear_from ns k = is_zero (number_at ns k) && is_zero (number_at ns (k + 1)) && is_zero (number_at ns (k + 2)) && is_zero (number_at ns (k + 3))

-- whether they are, and that those which may hold a name have 64 bits
pub record FourTold (ns : List ℤ) (k : ℕ) (r : Bool) : Type 0 where
  pub clear : r ≡ clear_from ns k
  pub sizes : (w : ℕ) → w < name_words → mag (number_at ns (k + w)) < 2 ^ 63
