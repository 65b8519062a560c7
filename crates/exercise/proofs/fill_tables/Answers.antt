-- `fill_tables` meets its contract.
use Prim.Native.Nat.{ℕ, ◌*◌, ◌≤◌}
use mathlib.Core.Path.{◌≡◌, sym, ◌∙◌, subst}
use native.Mathlib.Omega.{arith}
use lib.Seq.{length-take-le}
use Rattle.std.specs.Prelude.{Ok}
use Rattle.group.specs.declared.Group.{Group}
use Rattle.group.specs.Numbers.{grids_most}
use Rattle.abi.specs.Abi.{group_of_words}
use Rattle.flat.specs.Turned.{SidesTurnable}
use Rattle.judge.specs.Judge.{judged}
use Rattle.judge.proofs.Accepted.{accepted_head}
use Rattle.ingroup.proofs.InGroupLaws.{flat_turnable}
use Rattle.exercise.proofs.TableLaws.{tabled}
use Rattle.exercise.proofs.fill_tables.Goals as goal

-- what an accepted group's ranks and sides have room for
ranked : (g : Group) (n ranks : ℕ) → judged g ≡ Ok tt → n ≡ g.grids → grids_most ≤ ranks → n ≤ ranks
ranked g n ranks e h m = omega (arith, (accepted_head g e).grids)

sided : (g : Group) (sides : ℕ) → judged g ≡ Ok tt → grids_most * 4 ≤ sides → g.grids * 4 ≤ sides
sided g sides e m = omega (arith, (accepted_head g e).grids)

pub slice_bounds-rank_rows-end : goal.slice_bounds-rank_rows-end
slice_bounds-rank_rows-end c =
    sym (length-take-le _ c.args.ranks.now (ranked _ _ _ c.requires.0 c.grid_count-n.ensures c.requires.1.room.room.ranks_room))

pub rank_rows-tables-requires : goal.rank_rows-tables-requires
rank_rows-tables-requires c =
    let g = group_of_words c.args.words.now in
    let few : c.grid_count-n.result ≤ grids_most = omega (arith, c.grid_count-n.ensures, (accepted_head g c.requires.0).grids) in
    let e = length-take-le _ c.args.ranks.now (ranked _ _ _ c.requires.0 c.grid_count-n.ensures c.requires.1.room.room.ranks_room) in (
      omega arith,
      subst (SidesTurnable c.args.sides.now) (sym (e ∙ c.grid_count-n.ensures))
          (flat_turnable g c.requires.0 c.args.sides.now c.args.ranks.now c.requires.1.flat.sided (sided _ _ c.requires.0 c.requires.1.room.room.sides_room)),
      record { rows_room = omega arith; owners_room = omega arith; shifts_room = omega arith },
    )

pub returns : goal.returns
returns c =
    let n = c.grid_count-n in let room = c.requires.1.room.room in
    tabled (group_of_words c.args.words.now) _ n.result c.args.sides.now c.args.ranks.now n.ensures
    (ranked _ _ _ c.requires.0 n.ensures room.ranks_room) (sided _ _ c.requires.0 room.sides_room) c.requires.1.flat c.rank_rows-tables.ensures.0
