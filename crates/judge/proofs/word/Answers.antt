-- `word` meets its contract.
use Prim.Native.Nat.{ℕ, ◌+◌}
use mathlib.Core.Path.{ap, ◌∙◌}
use borrow.Author.Rules.{rules}
use lib.ListN.{get_or}
use Rattle.std.specs.Int.{w64, from_be_bytes}
use Rattle.abi.proofs.ListLaws.{called_list}
use Rattle.judge.proofs.KeyLaws.{word_read}
use Rattle.judge.proofs.word.Goals as goal

pub returns : goal.returns
returns c =
    let a = c.args in
    let eight = called_list _ _ (λ (j : ℕ). get_or a.name.bytes (a.from + j) 0) (λ k y t h. search rules) c.from_fn-bytes.result 8 c.from_fn-bytes.ensures.items 0 in
    c.from_be_bytes.ensures ∙ ap (from_be_bytes w64) eight ∙ word_read a.name a.from
