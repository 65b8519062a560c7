-- `first_clash` meets its contract, by the loop of FirstLaws.
use mathlib.Core.Path.{◌≡◌, ◌∙◌, sym}
use native.Mathlib.Omega.{arith}
use Rattle.numbers.proofs.FirstLaws.{passed_end, passed_found}
use Rattle.judge.proofs.first_clash.Goals as goal

pub returns-then-clashes_earlier : goal.returns-then-clashes_earlier
returns-then-clashes_earlier c =
    passed_found _ _ _ c.loop-k.invariant c.loop-k-test.true
    (sym c.clashes_earlier.ensures ∙ c.if-clashes_earlier.true)

pub returns : goal.returns
returns c = let e : c.loop-k.k ≡ c.args.n = omega arith in sym e ∙ passed_end _ _ _ c.loop-k.invariant c.loop-k-test.false
