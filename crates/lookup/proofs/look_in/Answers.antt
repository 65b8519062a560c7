-- `look_in` meets its contract: the flat lists say what the record says.
use Prim.Native.Nat.{◌*◌, ◌≤◌}
use mathlib.Core.Path.{◌≡◌, sym, ap, ◌∙◌, subst}
use native.Mathlib.Omega.{arith}
use lib.IntN.{ℤ, nat_abs}
use lib.ListN.{length}
use mir.Syntax.{w64}
use mir.Val.{to_z, of_z}
use mir.ValLaws.{to_z-of_z}
use Rattle.group.specs.declared.Group.{Group}
use Rattle.group.specs.Numbers.{lon_turn, day_fits, factor_most}
use Rattle.abi.specs.Abi.{group_of_words}
use Rattle.numbers.specs.Lists.{at}
use Rattle.choice.specs.Rect.{turn_holds}
use Rattle.choice.specs.Choice.{chosen}
use Rattle.flat.specs.Frames.{frame_at}
use Rattle.judge.proofs.Accepted.{accepted, accepted_head}
use Rattle.day.specs.Day.{factor_of}
use Rattle.day.specs.Flat.{factor_in}
use Rattle.day.proofs.DayLaws.{factor_bound}
use Rattle.lookup.specs.Lookup.{fix_at}
use Rattle.lookup.specs.Flat.{offset_in, function_rows, FunctionsFit}
use Rattle.lookup.proofs.BridgeLaws.{turn_room, told_most, told_chosen, told_fix}
use Rattle.lookup.proofs.FunctionLaws.{rows_fit, rows_factor}
use borrow.Author.Rules.{rules}
use Rattle.lookup.proofs.look_in.Goals as goal
use Rattle.lookup.proofs.look_in.Goals.{After-factor_on-factor}

pub chosen_flat-c-requires : goal.chosen_flat-c-requires
chosen_flat-c-requires c =
    let g = group_of_words c.args.words.now in let n = (accepted_head g c.requires.0.accepted).grids in let e = c.grid_count.ensures in
    let r = c.requires.1.room.room in
    let w = turn_room g c.args.nodes.now c.args.point c.args.day c.requires.0 c.lon_from_least-x.ensures in
    (record { few = omega (arith, n, e); sides_room = omega (arith, n, e, r.sides_room); ranks_room = omega (arith, n, e, r.ranks_room) }, w.0, w.1)

pub used_at-at-requires : goal.used_at-at-requires
used_at-at-requires c =
    let g = group_of_words c.args.words.now in let n = (accepted_head g c.requires.0.accepted).grids in
    let w = turn_room g c.args.nodes.now c.args.point c.args.day c.requires.0 c.lon_from_least-x.ensures in
    let m =
    told_most g c.args.nodes.now c.args.point c.args.day c.requires.0 c.args.sides.now c.args.ranks.now c.args.frames.now c.requires.1.flat c.lat_from_least-y.ensures c.lon_from_least-x.ensures c.chosen_flat-c.result
    (c.chosen_flat-c.ensures ∙ ap (chosen (λ k. turn_holds lon_turn c.args.sides.now k c.lon_from_least-x.result c.lat_from_least-y.result) (at c.args.ranks.now)) c.grid_count.ensures) in
    (omega (arith, n, m, c.requires.1.room.room.sides_room), w.0, w.1)

pub factor_on-factor-requires : goal.factor_on-factor-requires
factor_on-factor-requires c =
    let a = c.requires.0.accepted in let e = c.function_count.ensures in (
      search rules,
      omega (arith, (accepted_head (group_of_words c.args.words.now) a).functions, e),
      subst (FunctionsFit c.args.words.now) (sym e) (rows_fit c.args.words.now a),
      ap day_fits (to_z-of_z w64 c.args.day c.ranges.day) ∙ c.requires.0.day,
    )

-- behind the factor
module _ (c : After-factor_on-factor) where
  abbrev g : Group
  g = group_of_words c.args.words.now

  factor : to_z w64 (of_z w64 c.factor_on-factor.result) ≡ factor_of g.function g.functions c.args.day
  factor =
      to_z-of_z w64 c.factor_on-factor.result (record { sfits = c.factor_on-factor.type_inv }) ∙ c.factor_on-factor.ensures
      ∙ (λ i. factor_in (function_rows c.args.words.now) (c.function_count.ensures i) (to_z-of_z w64 c.args.day c.ranges.day i))
      ∙ rows_factor c.args.words.now c.requires.0.accepted c.args.day

  choice : c.chosen_flat-c.result ≡ chosen (λ k. turn_holds lon_turn c.args.sides.now k c.lon_from_least-x.result c.lat_from_least-y.result) (at c.args.ranks.now) g.grids
  choice =
      c.chosen_flat-c.ensures
      ∙ ap (chosen (λ k. turn_holds lon_turn c.args.sides.now k c.lon_from_least-x.result c.lat_from_least-y.result) (at c.args.ranks.now)) c.grid_count.ensures

  few : g.grids * 7 ≤ length c.args.frames.now
  few = omega (arith, (accepted_head g c.requires.0.accepted).grids, c.requires.1.room.frames_room)

pub fix_chosen-requires : goal.fix_chosen-requires
fix_chosen-requires c =
    let q = (goal.at.fix_chosen-requires c).After-factor_on-factor in let a = c.requires.0.accepted in (
      rw c.parameter_count.ensures
          (told_chosen (g q) c.args.nodes.now c.args.point c.args.day c.requires.0 c.args.sides.now c.args.ranks.now c.args.frames.now c.requires.1.flat c.lat_from_least-y.ensures c.lon_from_least-x.ensures c.chosen_flat-c.result c.used_at-at.result (choice q) c.used_at-at.ensures (few q)),
      subst (λ (z : ℤ). nat_abs z ≤ factor_most) (sym (factor q))
          (factor_bound (g q).function c.args.day (g q).functions (accepted_head (g q) a).functions (accepted (g q) a).function),
    )

pub returns : goal.returns
returns c =
    let q = (goal.at.returns c).After-factor_on-factor in let at = c.used_at-at.result in
    c.fix_chosen.ensures
    ∙ (λ i. fix_at c.chosen_flat-c.result (λ k. offset_in (frame_at c.args.frames.now k) (c.parameter_count.ensures i) at c.lat_from_least-y.result) c.args.nodes.now (to_z w64 (of_z w64 c.factor_on-factor.result)))
    ∙ told_fix (g q) c.args.nodes.now c.args.point c.args.day c.requires.0 c.args.sides.now c.args.ranks.now c.args.frames.now c.requires.1.flat c.lat_from_least-y.ensures c.lon_from_least-x.ensures c.chosen_flat-c.result at (choice q) c.used_at-at.ensures (factor q)
