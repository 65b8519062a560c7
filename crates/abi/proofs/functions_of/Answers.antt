-- `functions_of` meets its contract.
use borrow.Author.Rules.{rules}
use Rattle.group.specs.Numbers.{functions_most}
use Rattle.group.specs.Blank.{blank_function}
use Rattle.abi.specs.Abi.{function_of_words}
use Rattle.abi.proofs.ListLaws.{called_list}
use Rattle.abi.proofs.functions_of.Goals as goal

pub returns : goal.returns
returns c = called_list _ _ (function_of_words c.args.numbers.now) (λ k y t h. search rules) c.from_fn.result functions_most c.from_fn.ensures.items blank_function
