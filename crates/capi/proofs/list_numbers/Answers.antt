-- `list_numbers` meets its contract.
use mathlib.Core.Path.{◌≡◌, refl, ◌∙◌}
use mathlib.Core.List.{[], ◌∷◌}
use borrow.Author.Rules.{rules}
use lib.IntN.{pos}
use lib.ListN.{replicate}
use mir.Syntax.{w64}
use mir.Val.{to_z, of_z}
use Rattle.capi.specs.InForce.{list_words}
use Rattle.capi.proofs.AnswerLaws.{list_stored}
use Rattle.capi.proofs.list_numbers.Goals as goal

pub returns : goal.returns
returns c =
    let n = c.as_stored.result in
    let count : to_z w64 (of_z w64 n) ≡ n = search rules in
    list_stored c.args.list (replicate list_words (pos 0)) _ _ _ refl (λ i. (count ∙ c.as_stored.ensures) i ∷ []) c.store_numbers.ensures
    c.store_entries.ensures
