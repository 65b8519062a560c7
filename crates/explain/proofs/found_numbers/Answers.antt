-- `found_numbers` meets its contract: the flat lists say what the record says.
use Prim.Native.Nat.{◌-◌, ◌*◌, ◌≤◌}
use mathlib.Core.Path.{◌≡◌, sym, ap, ◌∙◌, subst}
use native.Mathlib.Omega.{arith}
use borrow.Author.Rules.{rules}
use lib.IntN.{ℤ, nat_abs}
use lib.ListN.{length}
use mir.Syntax.{w64}
use mir.Val.{SFits, to_z, of_z}
use mir.ValLaws.{to_z-of_z}
use Rattle.group.specs.Numbers.{day_fits, factor_most}
use Rattle.group.specs.Record.{grid_at}
use Rattle.abi.specs.Abi.{group_of_words}
use Rattle.flat.specs.Frames.{frame_at}
use Rattle.judge.proofs.Accepted.{accepted, accepted_head}
use Rattle.ingroup.proofs.InGroupLaws.{flat_ranked}
use Rattle.cell.specs.Cell.{is_beyond}
use Rattle.day.specs.Day.{factor_of}
use Rattle.day.specs.Flat.{factor_in}
use Rattle.day.proofs.DayLaws.{factor_bound}
use Rattle.fix.specs.declared.Offset.{Offset}
use Rattle.fix.specs.Fix.{corner_some}
use Rattle.fix.specs.Inside.{InsideGrid, RangeListed}
use Rattle.lookup.specs.Lookup.{offset_of}
use Rattle.lookup.specs.Flat.{offset_in, function_rows, FunctionsFit}
use Rattle.lookup.proofs.BridgeLaws.{turn_room}
use Rattle.lookup.proofs.FunctionLaws.{rows_fit, rows_factor}
use Rattle.explain.proofs.PieceLaws.{pieces_told, few, some_parameter, others_told, distance_most, used_told, seen, lies}
use Rattle.explain.proofs.found_numbers.Goals as goal
use Rattle.explain.proofs.found_numbers.Goals.{After-offset_in-l}

-- where the point lies, and the day's factor
offset : (c : After-offset_in-l) → let a = c.args in let g = group_of_words a.words.now in
    c.offset_in-l.result ≡ offset_in (frame_at a.frames.now (a.c - 1)) g.parameters c.used_at-used.result c.lat_from_least-y.result
offset c = c.offset_in-l.ensures ∙ (λ i. offset_in (c.frame_at-frame.ensures i) (c.parameter_count.ensures i) c.used_at-used.result c.lat_from_least-y.result)

is_seen : (c : After-offset_in-l) → let a = c.args in let g = group_of_words a.words.now in
    c.offset_in-l.result ≡ offset_of (grid_at g (a.c - 1)) g.parameters a.point
is_seen c =
    let a = c.args in
    offset c
    ∙ seen (group_of_words a.words.now) a.nodes.now a.point a.day a.c c.requires.0 a.sides.now a.ranks.now a.frames.now c.requires.1.flat
    c.lat_from_least-y.ensures c.lon_from_least-x.ensures c.used_at-used.ensures

factor : (c : After-offset_in-l) → let a = c.args in let g = group_of_words a.words.now in
    to_z w64 (of_z w64 c.factor_on-factor.result) ≡ factor_of g.function g.functions a.day
factor c =
    let a = c.args in
    let fits : SFits w64 c.factor_on-factor.result = search rules in
    to_z-of_z w64 c.factor_on-factor.result fits ∙ c.factor_on-factor.ensures
    ∙ (λ i. factor_in (function_rows a.words.now) (c.function_count.ensures i) (to_z-of_z w64 a.day c.ranges.day i))
    ∙ rows_factor a.words.now c.requires.0.ready.accepted a.day

pub ranks_beside-others-requires : goal.ranks_beside-others-requires
ranks_beside-others-requires c =
    let a = c.args in let g = group_of_words a.words.now in let h = c.requires.0.ready in
    let n = (accepted_head g h.accepted).grids in let e = c.grid_count.ensures in let r = c.requires.1.room.room in
    let w = turn_room g a.nodes.now a.point a.day h c.lon_from_least-x.ensures in (
      record { few = omega (arith, n, e); sides_room = omega (arith, n, e, r.sides_room); ranks_room = omega (arith, n, e, r.ranks_room) },
      w.0,
      w.1,
      λ i l. (flat_ranked g h.accepted a.sides.now a.ranks.now c.requires.1.flat.sided i (omega (arith, l, e))).1,
    )

pub used_at-used-requires : goal.used_at-used-requires
used_at-used-requires c =
    let a = c.args in let g = group_of_words a.words.now in
    let w = turn_room g a.nodes.now a.point a.day c.requires.0.ready c.lon_from_least-x.ensures in
    (omega (arith, few g a.nodes.now a.point a.day a.c c.requires.0, c.requires.1.room.room.sides_room), w.0, w.1)

pub lowered-lon-requires : goal.lowered-lon-requires
lowered-lon-requires c =
    let a = c.args in let g = group_of_words a.words.now in (
      distance_most g a.nodes.now a.point a.day a.c c.requires.0 a.sides.now a.ranks.now a.frames.now c.requires.1.flat
          c.lat_from_least-y.ensures c.lon_from_least-x.ensures c.used_at-used.ensures,
      omega arith,
    )

pub factor_on-factor-requires : goal.factor_on-factor-requires
factor_on-factor-requires c =
    let a = c.args in let h = c.requires.0.ready in let e = c.function_count.ensures in (
      search rules,
      omega (arith, (accepted_head (group_of_words a.words.now) h.accepted).functions, e),
      subst (FunctionsFit a.words.now) (sym e) (rows_fit a.words.now h.accepted),
      ap day_fits (to_z-of_z w64 a.day c.ranges.day) ∙ h.day,
    )

pub frame_at-frame-requires : goal.frame_at-frame-requires
frame_at-frame-requires c =
    let a = c.args in
    omega (arith, few (group_of_words a.words.now) a.nodes.now a.point a.day a.c c.requires.0, c.requires.1.room.frames_room, c.requires.0.some)

pub all_numbers-requires : goal.all_numbers-requires
all_numbers-requires c =
    let a = c.args in let g = group_of_words a.words.now in let r = c.requires.0 in let q = (goal.at.all_numbers-requires c).After-offset_in-l in
    let room : g.grids * 7 ≤ length a.frames.now = omega (arith, (accepted_head g r.ready.accepted).grids, c.requires.1.room.frames_room) in
    let h = lies g a.nodes.now a.point a.day a.c r a.sides.now a.ranks.now a.frames.now c.requires.1.flat
    c.lat_from_least-y.ensures c.lon_from_least-x.ensures c.used_at-used.ensures room in (
      subst InsideGrid (sym (offset q)) (h.inside r.some),
      subst (λ (l : Offset). RangeListed l (length a.nodes.now)) (sym (offset q)) (h.listed r.some),
      omega (arith, some_parameter g a.nodes.now a.point a.day a.c r, ap (λ (l : Offset). l.np) (offset q)),
      few g a.nodes.now a.point a.day a.c r,
      subst (λ (z : ℤ). nat_abs z ≤ factor_most) (sym (factor q))
          (factor_bound g.function a.day g.functions (accepted_head g r.ready.accepted).functions (accepted g r.ready.accepted).function),
      ap (λ (l : Offset). corner_some is_beyond l a.nodes.now) (is_seen q) ∙ r.small,
    )

pub returns : goal.returns
returns c =
    let a = c.args in let g = group_of_words a.words.now in let r = c.requires.0 in let q = (goal.at.returns c).After-offset_in-l in
    let lon_fits : SFits w64 c.lowered-lon.result = search rules in
    c.all_numbers.ensures
    ∙ pieces_told g a.nodes.now a.point a.day a.c
    (to_z-of_z w64 c.lowered-lon.result lon_fits
    ∙ used_told g a.nodes.now a.point a.day a.c r a.sides.now a.ranks.now a.frames.now c.requires.1.flat c.lat_from_least-y.ensures c.lon_from_least-x.ensures c.used_at-used.ensures c.lowered-lon.ensures)
    (is_seen q) (factor q)
    (others_told g a.nodes.now a.point a.day a.c r a.sides.now a.ranks.now a.frames.now c.requires.1.flat c.lat_from_least-y.ensures c.lon_from_least-x.ensures c.grid_count.ensures c.ranks_beside-others.ensures)
