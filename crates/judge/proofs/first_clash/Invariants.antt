-- `first_clash` meets its contract, by the loop of FirstLaws.
use Rattle.numbers.specs.First.{some}
use Rattle.numbers.proofs.FirstLaws.{Passed}
use Rattle.judge.specs.Keys.{clash}
use Rattle.judge.proofs.first_clash.Given as goal

abbrev pub invariant-loop-k : goal.invariant-loop-k
invariant-loop-k l = Passed (λ i. some (clash l.shared l.fours l.keys i) i) l.n l.k
