-- `timed_nearest_pairs` meets its contract: each turn rounds one more.
use Rattle.timed.specs.Timed.{Rounded, low_word}
use Rattle.timed.proofs.timed_nearest_pairs.Given as goal

abbrev pub invariant-loop-i : goal.invariant-loop-i
invariant-loop-i l = Rounded (low_word l.highs l.lows l.divisors) l.i l.initial.out l.out
