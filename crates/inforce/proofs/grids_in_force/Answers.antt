-- `grids_in_force` meets its contract: a record that is stored as numbers has the same grids in force.
use mathlib.Core.Path.{ap, ◌∙◌}
use mathlib.Core.List.{List}
use lib.IntN.{ℤ}
use Rattle.std.specs.Prelude.{Ok, Err}
use Rattle.abi.specs.Abi.{group_of_words}
use Rattle.abi.proofs.ShapeLaws.{machine_shaped}
use Rattle.inforce.specs.InForce.{in_force_in, accepted_list, in_force_of}
use Rattle.inforce.proofs.StageLaws.{area_stored}
use Rattle.inforce.proofs.grids_in_force.Goals as goal

pub returns : goal.returns
unfolding in_force_of
returns c =
    let a = c.args in
    c.force_words.ensures ∙ ap (λ (ns : List ℤ). in_force_of (group_of_words ns) a.area) c.numbers_of-words.ensures
    ∙ area_stored a.group (machine_shaped a.group _ c.well_formed.0) a.area Err (λ g. Ok (accepted_list (in_force_in g a.area)))
