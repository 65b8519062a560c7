-- `first_bad_function` meets its contract, by the loop of FirstLaws.
use mathlib.Core.Path.{◌≡◌, ◌∙◌, sym}
use native.Mathlib.Omega.{arith}
use Rattle.numbers.proofs.FirstLaws.{passed_end, passed_found}
use Rattle.judge.proofs.first_bad_function.Goals as goal

pub returns-then-not-function_fits : goal.returns-then-not-function_fits
returns-then-not-function_fits c =
    passed_found _ _ _ c.loop-k.invariant c.loop-k-test.true
    (rw (sym c.function_of_words.ensures, sym c.if-not-function_fits.ensures))

pub returns : goal.returns
returns c = let e : c.loop-k.k ≡ c.args.n = omega arith in sym e ∙ passed_end _ _ _ c.loop-k.invariant c.loop-k-test.false
