-- `hole` meets its contract: a record that is stored as numbers has the same hole.
use mathlib.Core.Path.{ap, ◌∙◌}
use mathlib.Core.List.{List}
use lib.IntN.{ℤ}
use Rattle.std.specs.Prelude.{Ok, Err}
use Rattle.abi.specs.Abi.{group_of_words}
use Rattle.abi.proofs.ShapeLaws.{machine_shaped}
use Rattle.inforce.specs.Hole.{hole_in, accepted_hole, hole_of}
use Rattle.inforce.proofs.StageLaws.{area_stored}
use Rattle.inforce.proofs.hole.Goals as goal

pub returns : goal.returns
unfolding hole_of
returns c =
    let a = c.args in
    c.hole_words.ensures ∙ ap (λ (ns : List ℤ). hole_of (group_of_words ns) a.area) c.numbers_of-words.ensures
    ∙ area_stored a.group (machine_shaped a.group _ c.well_formed.0) a.area Err (λ g. Ok (accepted_hole (hole_in g a.area)))
