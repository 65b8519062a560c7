-- `lookup` meets its contract: a record that is stored as numbers is looked up as it was.
use mathlib.Core.Path.{◌∙◌}
use mir.Syntax.{w64}
use mir.ValLaws.{to_z-of_z}
use Rattle.abi.specs.Abi.{group_of_words}
use Rattle.abi.proofs.ShapeLaws.{machine_shaped}
use Rattle.judge.proofs.StoredLaws.{stored_told}
use Rattle.lookup.specs.Lookup.{looked_in, looked}
use Rattle.lookup.proofs.lookup.Goals as goal
use Rattle.std.specs.Prelude.{Err}

pub returns : goal.returns
unfolding looked
returns c =
    let a = c.args in
    c.look_words.ensures
    ∙ (λ i. looked (group_of_words (c.numbers_of-words.ensures i)) a.nodes.now a.point (to_z-of_z w64 a.day c.ranges.day i))
    ∙ stored_told a.group (machine_shaped a.group _ c.well_formed.0) Err (λ g. looked_in g a.nodes.now a.point a.day)
