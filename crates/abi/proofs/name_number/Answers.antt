-- `name_number` meets its contract.
use Prim.Native.Nat.{ℕ, ◌+◌, ◌*◌}
use mathlib.Core.Path.{ap, ◌∙◌}
use borrow.Author.Rules.{rules}
use Rattle.std.specs.Int.{w64, from_le_bytes}
use Rattle.abi.specs.Abi.{byte_at, stored}
use Rattle.abi.proofs.NumberLaws.{told}
use Rattle.abi.proofs.ListLaws.{called_list}
use Rattle.abi.proofs.WordLaws.{word_read}
use Rattle.abi.proofs.name_number.Goals as goal

pub returns : goal.returns
returns c =
    let bytes = c.args.name.bytes in let w = c.args.w in
    let eight = called_list _ _ (λ (j : ℕ). byte_at bytes (w * 8 + j)) (λ k y t h. search rules) c.from_fn-bytes.result 8 c.from_fn-bytes.ensures.items 0 in
    let word = c.from_le_bytes.ensures ∙ ap (from_le_bytes w64) eight ∙ word_read bytes w in
    told c.as_stored.type_inv (c.as_stored.ensures ∙ ap stored word)
