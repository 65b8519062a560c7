-- `hole_flat` meets its contract: the rows of the grids' parts and the ranks are parts of the lists.
use Prim.Native.Nat.{◌+◌, ◌≤◌}
use mathlib.Core.Path.{◌∙◌}
use native.Mathlib.Omega.{arith}
use lib.ListN.{length}
use Rattle.flat.specs.Turned.{RowRoom}
use Rattle.ingroup.proofs.RankLaws.{order_grids}
use Rattle.inforce.proofs.FlatLaws.{numbers_length, numbers_of, flat_sound, flat_hole_lem}
use Rattle.inforce.proofs.hole_flat.Goals as goal

pub turn_rows-count-requires : goal.turn_rows-count-requires
turn_rows-count-requires c =
    let a = c.args in let p = c.requires.0 in let o = c.fill_indices.new.out in
    let long : a.n + 1 ≤ length o = omega (arith, p.room.few, c.fill_indices.ensures.1.long) in
    let few = numbers_length o a.n long in
    let w = numbers_of o a.n long c.fill_indices.ensures.0 in
    let k = p.room.few in (
      order_grids a.sides.now _ a.n p.turnable w,
      record { rows_room = omega arith; owners_room = omega arith; shifts_room = omega arith },
    )

pub hole-requires : goal.hole-requires
hole-requires c =
    let a = c.args in let p = c.requires.0 in let o = c.fill_indices.new.out in
    let long : a.n + 1 ≤ length o = omega (arith, p.room.few, c.fill_indices.ensures.1.long) in
    let few = numbers_length o a.n long in
    let w = numbers_of o a.n long c.fill_indices.ensures.0 in
    let t = c.turn_rows-count.ensures in let m = c.turn_rows-count.new in
    let room : RowRoom m.rows m.owners m.shifts c.turn_rows-count.result = record {
      rows_room = omega (arith, few, t.0.few, t.1.rows_long);
      owners_room = omega (arith, few, t.0.few, t.1.owners_long);
      shifts_room = omega (arith, few, t.0.few, t.1.shifts_long);
    } in
    flat_sound a.sides.now a.ranks.now a.n p _ _ _ _ _ w (omega (arith, few, p.room.few)) t.0 room

pub returns : goal.returns
returns c =
    let a = c.args in let p = c.requires.0 in let o = c.fill_indices.new.out in
    let long : a.n + 1 ≤ length o = omega (arith, p.room.few, c.fill_indices.ensures.1.long) in
    let few = numbers_length o a.n long in
    let w = numbers_of o a.n long c.fill_indices.ensures.0 in
    let t = c.turn_rows-count.ensures in let m = c.turn_rows-count.new in
    let room : RowRoom m.rows m.owners m.shifts c.turn_rows-count.result = record {
      rows_room = omega (arith, few, t.0.few, t.1.rows_long);
      owners_room = omega (arith, few, t.0.few, t.1.owners_long);
      shifts_room = omega (arith, few, t.0.few, t.1.shifts_long);
    } in
    c.hole.ensures ∙ flat_hole_lem a.sides.now a.ranks.now a.n p _ _ _ _ _ w (omega (arith, few, p.room.few)) t.0 room a.a c.requires.1
