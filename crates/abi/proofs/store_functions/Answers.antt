-- `store_functions` meets its contract.
use mathlib.Core.Path.{refl}
use native.Mathlib.Omega.{arith}
use Rattle.group.specs.Numbers.{functions_most}
use Rattle.abi.specs.Words.{function_words, head_words}
use Rattle.abi.proofs.ListLaws.{run_none, run_more}
use Rattle.abi.proofs.store_functions.Goals as goal

pub loop-i-init : goal.loop-i-init
loop-i-init c = run_none _ functions_most _ head_words

pub loop-i-preserved : goal.loop-i-preserved
loop-i-preserved c =
    run_more _ function_words functions_most _ head_words _ _ _ _ (λ k. refl) c.loop-i.invariant (omega arith) c.store_numbers.ensures c.function_numbers.ensures
