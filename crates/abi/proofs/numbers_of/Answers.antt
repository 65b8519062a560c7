-- `numbers_of` meets its contract.
use mathlib.Core.Path.{sym, ◌∙◌}
use Rattle.abi.proofs.ListLaws.{sets_whole}
use Rattle.abi.proofs.GroupLaws.{numbers_length}
use Rattle.abi.proofs.numbers_of.Goals as goal

pub returns : goal.returns
returns c =
    c.store_group.ensures ∙ sets_whole _ _ (sym (numbers_length c.args.group))
