-- Fields as numbers: what the inner functions that read them answer.
use Rattle.std.specs.Prelude as R
use Rattle.std.specs.Prelude.{ℕ, ◌≡◌, Bool, true, false, cond, List, map, eqb, ℤ, length}
use Rattle.std.proofs.Math.Option.{Option, none, some}
use Rattle.text.specs.Number.{clamp}
use Rattle.text.specs.Fields.{read_ints}

-- so many fields, each a number
abbrev pub read_count : ℕ → List (List ℕ) → Option (List ℤ)
read_count n fs = cond (eqb (length fs) n) (read_ints fs) none

-- the numbers as the code tells them apart
abbrev pub as_read : Option (List ℤ) → R.Option (List ℤ)
as_read none = R.None
as_read (some zs) = R.Some (map clamp zs)

-- whether numbers are read, and then the numbers as the code tells them apart
pub record NumbersRead (read : Option (List ℤ)) (r : Bool) (numbers : List ℤ) : Type 0 where
  pub good : r ≡ true → (zs : List ℤ) × (read ≡ some zs) × (map clamp zs ≡ numbers)
  pub bad : r ≡ false → read ≡ none
