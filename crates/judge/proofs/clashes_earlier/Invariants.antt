-- `clashes_earlier` meets its contract, by the loop of FirstLaws.
use Rattle.numbers.proofs.FirstLaws.{Passed}
use Rattle.judge.specs.Keys.{clash}
use Rattle.judge.proofs.clashes_earlier.Given as goal

abbrev pub invariant-loop-j : goal.invariant-loop-j
invariant-loop-j l = Passed (clash l.shared l.fours l.keys l.k) l.k l.j
