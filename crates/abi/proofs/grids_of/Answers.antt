-- `grids_of` meets its contract.
use borrow.Author.Rules.{rules}
use Rattle.group.specs.Numbers.{grids_most}
use Rattle.group.specs.Record.{no_grid}
use Rattle.abi.specs.Abi.{grid_of_words}
use Rattle.abi.proofs.ListLaws.{called_list}
use Rattle.abi.proofs.grids_of.Goals as goal

pub returns : goal.returns
returns c = called_list _ _ (grid_of_words c.args.numbers.now) (λ k y t h. search rules) c.from_fn.result grids_most c.from_fn.ensures.items no_grid
