-- The fields of a line: a keyword, and numbers.
use Rattle.std.specs.Prelude.{ℕ, Bool, true, false, ◌&&◌, List, [], ◌∷◌, eqb, ℤ}
use Rattle.std.proofs.Math.Option.{Option, none, some}
use Rattle.text.specs.Decimal.{read_int}

-- two texts have the same bytes
abbrev pub same : List ℕ → List ℕ → Bool
same [] [] = true
same [] (y ∷ ys) = false
same (x ∷ xs) [] = false
same (x ∷ xs) (y ∷ ys) = eqb x y && same xs ys

abbrev pub both : Option ℤ → Option (List ℤ) → Option (List ℤ)
both none zs = none
both (some z) none = none
both (some z) (some zs) = some (z ∷ zs)

-- the numbers in the fields, where each field is one
abbrev pub read_ints : List (List ℕ) → Option (List ℤ)
read_ints [] = some []
read_ints (f ∷ fs) = both (read_int f) (read_ints fs)
