-- `bulhyemik_field` meets its contract.
use Prim.Native.Nat.{ℕ, ◌+◌}
use mathlib.Core.Path.{ap, ◌∙◌}
use mathlib.Core.List.{[], ◌∷◌}
use lib.ListN.{drop}
use Rattle.text.specs.Parts.{up_to}
use Rattle.capi.specs.Answers.{field_part}
use Rattle.capi.proofs.bulhyemik_field.Goals as goal

pub returns : goal.returns
unfolding field_part
returns c =
    let from = c.part_start-from.ensures in
    let to = c.find_from-to.ensures ∙ ap (λ (a : ℕ). a + up_to 9 (drop a c.args.line.now)) from in
    λ i. from i ∷ to i ∷ []
