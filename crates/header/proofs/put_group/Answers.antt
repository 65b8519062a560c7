-- `header::put_group` meets its contract.
use Prim.Native.Nat.{◌≤◌}
use mathlib.Core.Path.{sym, subst}
use mathlib.Core.List.{◌++◌}
use native.Mathlib.Omega.{arith}
use lib.ListN.{length-take}
use lib.Seq.{get_or-take}
use Rattle.group.specs.Numbers.{name_most}
use Rattle.group.specs.declared.Grid.{Grid}
use Rattle.text.proofs.PutLaws.{room_first, room_next, wrote_both}
use Rattle.judge.proofs.Accepted.{accepted_head}
use Rattle.line.proofs.NameLaws.{name_len}
use Rattle.header.proofs.LengthLaws.{head_parts, grids_wide}
use Rattle.header.proofs.HeaderLaws.{head_run, function_run, grid_run, runs_room, runs_wrote}
use Rattle.header.proofs.put_group.Goals as goal

pub put_head-p-requires : goal.put_head-p-requires
put_head-p-requires c =
    let g = c.args.group in
    let room₁ = runs_room g c.args.out.now c.requires.1 in
    ((name_len g.name (head_parts g c.requires.0).0).1, room_first 0 (head_run g) (function_run g ++ grid_run g) c.args.out.now room₁)

pub shared_ref_as_front-put_each : goal.shared_ref_as_front-put_each
shared_ref_as_front-put_each c = (accepted_head c.args.group c.requires.0).functions

pub put_each-q-requires-clause-room : goal.put_each-q-requires-clause-room
put_each-q-requires-clause-room c =
    let g = c.args.group in
    let room₁ = runs_room g c.args.out.now c.requires.1 in
    let room₂ = room_next 0 (head_run g) (function_run g ++ grid_run g) c.args.out.now _ _ c.put_head-p.ensures room₁ in
    room_first c.put_head-p.result (function_run g) (grid_run g) c.put_head-p.new.out room₂

pub shared_ref_as_front-put_each-2 : goal.shared_ref_as_front-put_each-2
shared_ref_as_front-put_each-2 c = (accepted_head c.args.group c.requires.0).grids

pub put_each-requires-clause-texts : goal.put_each-requires-clause-texts
put_each-requires-clause-texts c =
    let g = c.args.group in
    λ k d h.
    let l = length-take g.grids g.grid in
    subst (λ (x : Grid). x.name.len ≤ name_most) (sym (get_or-take g.grids g.grid k d (omega arith))) (grids_wide g c.requires.0 k d (omega arith) (omega arith))

pub put_each-requires-clause-room : goal.put_each-requires-clause-room
put_each-requires-clause-room c =
    let g = c.args.group in
    let room₁ = runs_room g c.args.out.now c.requires.1 in
    let room₂ = room_next 0 (head_run g) (function_run g ++ grid_run g) c.args.out.now _ _ c.put_head-p.ensures room₁ in
    room_next c.put_head-p.result (function_run g) (grid_run g) c.put_head-p.new.out _ _ c.put_each-q.ensures room₂

pub returns : goal.returns
returns c =
    let g = c.args.group in
    let room₁ = runs_room g c.args.out.now c.requires.1 in
    let room₂ = room_next 0 (head_run g) (function_run g ++ grid_run g) c.args.out.now _ _ c.put_head-p.ensures room₁ in
    let more = wrote_both c.put_head-p.result (function_run g) (grid_run g) c.put_head-p.new.out _ _ _ _ c.put_each-q.ensures c.put_each.ensures room₂ in
    runs_wrote g c.args.out.now _ _ (wrote_both 0 (head_run g) (function_run g ++ grid_run g) c.args.out.now _ _ _ _ c.put_head-p.ensures more room₁)
