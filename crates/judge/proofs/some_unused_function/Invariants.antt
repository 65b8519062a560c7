-- `some_unused_function` meets its contract, by the loop of FirstLaws.
use mathlib.Core.Bool.{not, ◌&&◌}
use lib.Dec.{leb}
use Rattle.numbers.proofs.FirstLaws.{Passed}
use Rattle.group.specs.Numbers.{functions_most}
use Rattle.group.specs.Limits.{function_blank}
use Rattle.abi.specs.Abi.{function_of_words}
use Rattle.judge.proofs.some_unused_function.Given as goal

abbrev pub invariant-loop-k : goal.invariant-loop-k
invariant-loop-k l = Passed (λ j. leb l.from j && not (function_blank (function_of_words l.words j))) functions_most l.k
