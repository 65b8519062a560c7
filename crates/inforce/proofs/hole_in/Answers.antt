-- `hole_in` meets its contract: the group's flat lists are sound, and the hole over them is the group's.
use mathlib.Core.Path.{◌≡◌, ◌∙◌, ap, sym, subst}
use Rattle.std.specs.Prelude.{Some}
use Rattle.abi.specs.Abi.{group_of_words}
use Rattle.inforce.specs.Flat.{FlatSound, Admitted, flat_hole}
use Rattle.inforce.specs.Hole.{hole_in, accepted_hole}
use Rattle.inforce.proofs.AreaLaws.{area_admitted}
use Rattle.inforce.proofs.GroupLaws.{group_flat, group_hole, narrow_hole}
use Rattle.inforce.proofs.StageLaws.{ready_judged}
use Rattle.inforce.proofs.hole_in.Goals as goal
use Rattle.inforce.proofs.hole_in.Goals.{After-hole_flat}

-- what was found is the group's
found : (c : After-hole_flat) → c.hole_flat.result ≡ hole_in (group_of_words c.args.words.now) c.args.area
found c =
    let a = c.args in let r = c.requires in let j = ready_judged r in
    c.hole_flat.ensures
    ∙ (λ i. flat_hole a.sides.now a.ranks.now (c.grid_count-n.ensures i) (c.area_from_least.ensures i))
    ∙ group_hole (group_of_words a.words.now) j.0 a.sides.now a.ranks.now r.sided a.area j.1

pub hole_flat-requires : goal.hole_flat-requires
hole_flat-requires c =
    let a = c.args in let r = c.requires in let j = ready_judged r in (
      subst (FlatSound a.sides.now a.ranks.now) (sym c.grid_count-n.ensures) (group_flat (group_of_words a.words.now) j.0 a.sides.now a.ranks.now r.sided r.room),
      subst Admitted (sym c.area_from_least.ensures) (area_admitted a.area j.1),
    )

pub returns-in_err-spot : goal.returns-in_err-spot
returns-in_err-spot c =
    let q = goal.at.returns-in_err-spot c in
    c.from_residual.ensures ∙ ap accepted_hole (sym c.in_err-spot.was ∙ found q.After-hole_flat)

pub shown_hole-requires : goal.shown_hole-requires
shown_hole-requires c =
    let a = c.args in let j = ready_judged c.requires in
    let q = goal.at.shown_hole-requires c in
    narrow_hole (group_of_words a.words.now) a.area j.1 c.in_ok-spot.spot (sym (found q.After-hole_flat) ∙ c.in_ok-spot.was)

pub returns : goal.returns
returns c =
    let q = goal.at.returns c in
    ap Some c.shown_hole.ensures ∙ ap accepted_hole (sym c.in_ok-spot.was ∙ found q.After-hole_flat)
