-- `some_reaches` meets its contract, by the loop of FirstLaws.
use Rattle.numbers.proofs.FirstLaws.{passed_some, found_some}
use Rattle.judge.specs.Keys.{some_reaches}
use Rattle.judge.proofs.some_reaches.Goals as goal

pub returns-then-sides-at : goal.returns-then-sides-at
unfolding some_reaches
returns-then-sides-at c = found_some _ _ _ c.loop-k.invariant c.loop-k-test.true c.if-sides-at.true

pub returns : goal.returns
unfolding some_reaches
returns c = passed_some _ _ _ c.loop-k.invariant c.loop-k-test.false
