-- `list_flat` meets its contract: the rows of the grids' parts, the ranks and the order are parts of the lists.
use mathlib.Core.Path.{◌∙◌}
use native.Mathlib.Omega.{arith}
use Rattle.flat.specs.Turned.{RowRoom}
use Rattle.ingroup.proofs.RankLaws.{order_grids}
use Rattle.inforce.proofs.FlatLaws.{order_ranked, order_of, order_few, order_numbers, flat_sound, flat_list}
use Rattle.inforce.proofs.list_flat.Goals as goal

pub turn_rows-count-requires : goal.turn_rows-count-requires
turn_rows-count-requires c =
    let a = c.args in let p = c.requires.0 in let b = c.order_by_rank-grids.ensures.0 in
    let w = order_of a.sides.now a.ranks.now a.n p _ _ b in
    let few = order_few a.sides.now a.ranks.now a.n p _ _ b in (
      order_grids a.sides.now _ a.n p.turnable w,
      record { rows_room = omega arith; owners_room = omega arith; shifts_room = omega arith },
    )

pub in_force-requires : goal.in_force-requires
in_force-requires c =
    let a = c.args in let p = c.requires.0 in let b = c.order_by_rank-grids.ensures.0 in
    let w = order_of a.sides.now a.ranks.now a.n p _ _ b in
    let few = order_few a.sides.now a.ranks.now a.n p _ _ b in
    let t = c.turn_rows-count.ensures in let m = c.turn_rows-count.new in
    let room : RowRoom m.rows m.owners m.shifts c.turn_rows-count.result = record {
      rows_room = omega (arith, few, t.0.few, t.1.rows_long);
      owners_room = omega (arith, few, t.0.few, t.1.owners_long);
      shifts_room = omega (arith, few, t.0.few, t.1.shifts_long);
    } in
    (flat_sound a.sides.now a.ranks.now a.n p _ _ _ _ _ w few t.0 room, order_numbers a.sides.now a.ranks.now a.n p _ _ b)

pub returns : goal.returns
returns c =
    let a = c.args in let p = c.requires.0 in let b = c.order_by_rank-grids.ensures.0 in
    let w = order_of a.sides.now a.ranks.now a.n p _ _ b in
    let few = order_few a.sides.now a.ranks.now a.n p _ _ b in
    let t = c.turn_rows-count.ensures in let m = c.turn_rows-count.new in
    let room : RowRoom m.rows m.owners m.shifts c.turn_rows-count.result = record {
      rows_room = omega (arith, few, t.0.few, t.1.rows_long);
      owners_room = omega (arith, few, t.0.few, t.1.owners_long);
      shifts_room = omega (arith, few, t.0.few, t.1.shifts_long);
    } in
    c.in_force.ensures
    ∙ flat_list a.sides.now a.ranks.now a.n p _ _ _ _ _ w few t.0 room a.a c.requires.1
    (order_ranked a.sides.now a.ranks.now a.n p _ _ b)
