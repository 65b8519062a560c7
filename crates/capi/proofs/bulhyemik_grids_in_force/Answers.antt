-- `bulhyemik_grids_in_force` meets its contract.
use mathlib.Core.Path.{◌∙◌}
use mir.Facts.{to_z-of_z}
use Rattle.capi.proofs.AnswerLaws.{same_area, in_force_told}
use Rattle.capi.proofs.bulhyemik_grids_in_force.Goals as goal

pub returns : goal.returns
returns c =
    let f = c.ranges in
    let area = c.area_of.ensures ∙ same_area (to_z-of_z f.west) (to_z-of_z f.east) (to_z-of_z f.south) (to_z-of_z f.north) in
    in_force_told c.args.group.now _ _ _ _ _ _ area c.force_words-found.ensures c.told.ensures c.listed.ensures
