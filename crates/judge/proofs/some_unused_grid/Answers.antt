-- `some_unused_grid` meets its contract, by the loop of FirstLaws.
use mathlib.Core.Path.{sym}
use borrow.Author.Tests.{le-leb}
use Rattle.numbers.proofs.FirstLaws.{passed_some, found_some}
use Rattle.judge.proofs.some_unused_grid.Goals as goal

pub returns-then-not-grid_clear : goal.returns-then-not-grid_clear
returns-then-not-grid_clear c =
    found_some _ _ _ c.loop-k.invariant c.loop-k-test.true
    (rw (le-leb c.args.from c.loop-k.k c.loop-k.auto.k, sym c.if-not-grid_clear.ensures))

pub returns : goal.returns
returns c = passed_some _ _ _ c.loop-k.invariant c.loop-k-test.false
