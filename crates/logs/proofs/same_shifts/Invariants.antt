-- `same_shifts`: the shifts so far are the results.
use mathlib.Core.Path.{◌≡◌}
use mathlib.Core.Bool.{true}
use Rattle.abi.specs.Abi.{number_at}
use Rattle.logs.specs.Line.{same_shifts}
use Rattle.logs.proofs.same_shifts.Given as goal

abbrev pub invariant-loop-q : goal.invariant-loop-q
invariant-loop-q l = same_shifts l.q l.shifts (number_at l.results) ≡ true
