-- `timed_nearest_even` meets its contract: each turn rounds one more.
use Rattle.timed.specs.Timed.{Rounded, word}
use Rattle.timed.proofs.timed_nearest_even.Given as goal

abbrev pub invariant-loop-i : goal.invariant-loop-i
invariant-loop-i l = Rounded (word l.numerators l.divisors) l.i l.initial.out l.out
