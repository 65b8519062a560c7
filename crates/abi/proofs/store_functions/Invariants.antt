-- `store_functions` meets its contract.
use lib.ListN.{get_or}
use Rattle.group.specs.Numbers.{functions_most}
use Rattle.abi.specs.Words.{head_words}
use Rattle.group.specs.Blank.{blank_function}
use Rattle.abi.specs.Abi.{function_numbers}
use Rattle.abi.proofs.ListLaws.{Run}
use Rattle.abi.proofs.store_functions.Given as goal

abbrev pub invariant-loop-i : goal.invariant-loop-i
invariant-loop-i l = Run (λ k. function_numbers (get_or l.f-items k blank_function)) functions_most l.initial.out head_words l.i l.out
