-- `some_unused_function` meets its contract, by the loop of FirstLaws.
use mathlib.Core.Path.{sym}
use borrow.Author.Tests.{le-leb}
use Rattle.numbers.proofs.FirstLaws.{passed_some, found_some}
use Rattle.judge.proofs.some_unused_function.Goals as goal

pub returns-then-not-function_blank : goal.returns-then-not-function_blank
returns-then-not-function_blank c =
    found_some _ _ _ c.loop-k.invariant c.loop-k-test.true
    (rw (le-leb c.args.from c.loop-k.k c.loop-k.auto.k, sym c.function_of_words.ensures, sym c.if-not-function_blank.ensures))

pub returns : goal.returns
returns c = passed_some _ _ _ c.loop-k.invariant c.loop-k-test.false
