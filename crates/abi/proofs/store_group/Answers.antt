-- `store_group` meets its contract.
use Rattle.abi.proofs.GroupLaws.{numbers_stored}
use Rattle.abi.proofs.store_group.Goals as goal

pub returns : goal.returns
returns c =
    numbers_stored c.args.group _ _ _ _ _ c.head_numbers.ensures c.store_numbers.ensures c.store_functions.ensures c.store_grids.ensures
