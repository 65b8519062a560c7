-- `chosen_flat` meets its contract: the grids' rectangles and ranks are parts of the lists.
use Prim.Native.Nat.{◌*◌}
use mathlib.Core.Path.{◌∙◌, sym}
use lib.Seq.{length-take-le}
use Rattle.group.specs.Numbers.{lon_turn}
use Rattle.choice.proofs.PartLaws.{chosen_part}
use Rattle.lookup.proofs.chosen_flat.Goals as goal

pub slice_bounds-chosen_at-end : goal.slice_bounds-chosen_at-end
slice_bounds-chosen_at-end c =
    sym (length-take-le (c.args.grids * 4) c.args.sides.now c.requires.0.sides_room)

pub slice_bounds-chosen_at-end-2 : goal.slice_bounds-chosen_at-end-2
slice_bounds-chosen_at-end-2 c =
    sym (length-take-le c.args.grids c.args.ranks.now c.requires.0.ranks_room)

pub returns : goal.returns
returns c =
    let a = c.args in
    c.chosen_at.ensures ∙ chosen_part a.sides.now a.ranks.now a.grids lon_turn a.x a.y c.requires.0.sides_room c.requires.0.ranks_room
