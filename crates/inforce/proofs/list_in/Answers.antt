-- `list_in` meets its contract: the group's flat lists are sound, and the list over them is the group's.
use mathlib.Core.Path.{◌≡◌, ◌∙◌, ap, sym, subst}
use Rattle.group.specs.declared.Group.{Group}
use Rattle.abi.specs.Abi.{group_of_words}
use Rattle.coverage.specs.Listing.{listing_of}
use Rattle.inforce.specs.Flat.{FlatSound, Admitted, flat_listing}
use Rattle.inforce.specs.InForce.{in_force_in}
use Rattle.inforce.specs.Handed.{shown_list}
use Rattle.inforce.proofs.ShownLaws.{shown_whole}
use Rattle.inforce.proofs.AreaLaws.{area_admitted}
use Rattle.inforce.proofs.GroupLaws.{group_flat, group_listed, narrow_list}
use Rattle.inforce.proofs.StageLaws.{ready_judged}
use Rattle.inforce.proofs.list_in.Goals as goal

pub list_flat-l-requires : goal.list_flat-l-requires
list_flat-l-requires c =
    let a = c.args in let r = c.requires in let j = ready_judged r in
    let g : Group = group_of_words a.words.now in (
      subst (FlatSound a.sides.now a.ranks.now) (sym c.grid_count-n.ensures) (group_flat g j.0 a.sides.now a.ranks.now r.sided r.room),
      subst Admitted (sym c.area_from_least.ensures) (area_admitted a.area j.1),
    )

pub shown_list-requires : goal.shown_list-requires
shown_list-requires c =
    let a = c.args in let r = c.requires in let j = ready_judged r in
    let g : Group = group_of_words a.words.now in
    let listing : c.list_flat-l.result ≡ listing_of (in_force_in g a.area) =
    c.list_flat-l.ensures
    ∙ (λ i. flat_listing a.sides.now a.ranks.now (c.grid_count-n.ensures i) (c.area_from_least.ensures i))
    ∙ group_listed g j.0 a.sides.now a.ranks.now r.sided a.area j.1 in
    rw listing (narrow_list g j.0 a.area j.1)

pub returns : goal.returns
returns c =
    let a = c.args in let r = c.requires in let j = ready_judged r in
    let g : Group = group_of_words a.words.now in
    let listing : c.list_flat-l.result ≡ listing_of (in_force_in g a.area) =
    c.list_flat-l.ensures
    ∙ (λ i. flat_listing a.sides.now a.ranks.now (c.grid_count-n.ensures i) (c.area_from_least.ensures i))
    ∙ group_listed g j.0 a.sides.now a.ranks.now r.sided a.area j.1 in
    c.shown_list.ensures ∙ ap shown_list listing ∙ shown_whole (in_force_in g a.area)
