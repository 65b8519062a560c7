-- `bytes_of` meets its contract.
use Prim.Native.Nat.{ℕ, ◌/◌, ◌%◌}
use lib.ListN.{get_or}
use borrow.Author.Rules.{rules}
use Rattle.group.specs.Numbers.{name_most}
use Rattle.abi.specs.Abi.{byte_of}
use Rattle.abi.proofs.ListLaws.{called_list}
use Rattle.abi.proofs.bytes_of.Goals as goal

pub returns : goal.returns
returns c =
    called_list _ _ (λ (j : ℕ). byte_of (get_or c.args.words (j / 8) 0) (j % 8)) (λ k y t h. search rules) c.from_fn.result name_most c.from_fn.ensures.items 0
