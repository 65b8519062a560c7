-- Decimal numbers as text.
use Rattle.std.specs.Prelude.{ℕ, zero, suc, ◌+◌, ◌-◌, ◌*◌, ◌/◌, ◌%◌, Bool, cond, ◌&&◌, List, [], ◌∷◌, ◌++◌, eqb, leb, ltb, ℤ, pos, negsuc}
use Rattle.std.proofs.Math.Option.{Option, none, some}

-- `0` to `9`
abbrev pub is_digit : ℕ → Bool
is_digit b = leb 48 b && leb b 57

-- the number that the digits go on to from n
abbrev pub digits_from : ℕ → List ℕ → Option ℕ
digits_from n [] = some n
digits_from n (d ∷ ds) = cond (is_digit d) (digits_from (n * 10 + (d - 48)) ds) none

-- one digit, or several that do not begin with 0
abbrev pub read_nat : List ℕ → Option ℕ
read_nat [] = none
read_nat (d ∷ []) = digits_from 0 (d ∷ [])
read_nat (d ∷ e ∷ ds) = cond (eqb d 48) none (digits_from 0 (d ∷ e ∷ ds))

abbrev pub above : Option ℕ → Option ℤ
above none = none
above (some n) = some (pos n)

-- there is no −0
abbrev pub below : Option ℕ → Option ℤ
below none = none
below (some zero) = none
below (some (suc n)) = some (negsuc n)

-- a number below zero is led by `-`
abbrev pub read_int : List ℕ → Option ℤ
read_int [] = none
read_int (d ∷ ds) = cond (eqb d 45) (below (read_nat ds)) (above (read_nat (d ∷ ds)))

-- the last f digits of n, without leading zeros
abbrev pub decimal_in : ℕ → ℕ → List ℕ
decimal_in zero n = []
decimal_in (suc f) n = cond (ltb n 10) ((48 + n) ∷ []) (decimal_in f (n / 10) ++ ((48 + n % 10) ∷ []))

-- the digits of n, which has never more than n + 1 of them
unfoldable pub decimal : ℕ → List ℕ
decimal n = decimal_in (suc n) n

abbrev pub int_text : ℤ → List ℕ
int_text (pos n) = decimal n
int_text (negsuc n) = 45 ∷ decimal (suc n)
