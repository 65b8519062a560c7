-- `first_bad_function` meets its contract, by the loop of FirstLaws.
use mathlib.Core.Bool.{not}
use Rattle.numbers.proofs.FirstLaws.{Passed}
use Rattle.group.specs.Limits.{function_fits}
use Rattle.abi.specs.Abi.{function_of_words}
use Rattle.judge.proofs.first_bad_function.Given as goal

abbrev pub invariant-loop-k : goal.invariant-loop-k
invariant-loop-k l = Passed (λ j. not (function_fits (function_of_words l.words j))) l.n l.k
