-- `digit`: the estimate by the divisor's upper digit, lowered until it is the digit. The measure is the estimate.
use Rattle.pair.proofs.DigitLaws.{Estimate}
use Rattle.pair.proofs.digit.Given as goal

abbrev pub invariant-loop-q : goal.invariant-loop-q
invariant-loop-q l = Estimate l.r l.x l.d l.q l.s

abbrev pub decreases-loop-q : goal.decreases-loop-q
decreases-loop-q l = l.q
