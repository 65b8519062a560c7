-- `day_factor` meets its contract: the sum so far is that of the factors passed.
use Prim.Native.Nat.{ℕ, ◌≤◌}
use mathlib.Core.Path.{◌≡◌}
use mathlib.Core.List.{List}
use lib.IntN.{ℤ}
use Rattle.flat.specs.Functions.{function_in}
use Rattle.day.specs.Day.{function_factor, sum_of}
use Rattle.day.proofs.day_factor.Given as goal

-- the factor of function k
abbrev pub factor : List ℤ → ℤ → ℕ → ℤ
factor functions t k = function_factor (function_in functions k) t

abbrev pub invariant-loop-i : goal.invariant-loop-i
invariant-loop-i l = (l.i ≤ l.n) × (l.sum ≡ sum_of (factor l.functions l.day) l.i)
