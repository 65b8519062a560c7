-- `explain` meets its contract: a record that is stored as numbers is explained as it was.
use mathlib.Core.Path.{sym, ◌∙◌}
use mir.Syntax.{w64}
use mir.ValLaws.{to_z-of_z}
use Rattle.std.specs.Prelude.{Err}
use Rattle.abi.specs.Abi.{group_of_words}
use Rattle.abi.proofs.ShapeLaws.{machine_shaped}
use Rattle.judge.proofs.StoredLaws.{stored_told}
use Rattle.lookup.specs.Lookup.{looked_in}
use Rattle.explain.specs.Explain.{explained_by, explained}
use Rattle.explain.proofs.ExplainLaws.{explained_judged}
use Rattle.explain.proofs.explain.Goals as goal

pub returns : goal.returns
returns c =
    let a = c.args in
    c.explain_words.ensures
    ∙ (λ i. explained (group_of_words (c.numbers_of-words.ensures i)) a.nodes.now a.point (to_z-of_z w64 a.day c.ranges.day i))
    ∙ explained_judged _ a.nodes.now a.point a.day
    ∙ stored_told a.group (machine_shaped a.group _ c.well_formed.0) Err (λ g. explained_by g a.nodes.now a.point a.day (looked_in g a.nodes.now a.point a.day))
    ∙ sym (explained_judged a.group a.nodes.now a.point a.day)
