-- The day factor of functions in a flat list: what an inner function answers.
use Rattle.std.specs.Prelude.{ℕ, cond, List, eqb, ℤ, pos}
use Rattle.group.specs.Numbers.{factor_one}
use Rattle.flat.specs.Functions.{function_in}
use Rattle.day.specs.Day.{function_factor, sum_of}

-- the factor of the first n functions; with none it is 1
unfoldable pub factor_in : List ℤ → ℕ → ℤ → ℤ
factor_in functions n t = cond (eqb n 0) (pos factor_one) (sum_of (λ i. function_factor (function_in functions i) t) n)
