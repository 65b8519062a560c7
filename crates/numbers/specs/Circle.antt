-- Numbers round a circle, unsigned: a number as it is, a whole turn more, or a whole turn less, in that order. What code works on.
use Rattle.std.specs.Prelude.{ℕ, zero, suc, ◌+◌, ◌-◌}

-- how many that are
abbrev pub turns : ℕ
turns = 3

-- what turn k adds, beside one whole turn that is taken off again
abbrev pub shift_of : (turn k : ℕ) → ℕ
shift_of turn zero = turn
shift_of turn (suc zero) = turn + turn
shift_of turn (suc (suc k)) = 0

abbrev pub turned_by : (turn k x : ℕ) → ℕ
turned_by turn k x = x + shift_of turn k - turn
