-- `fix_from` meets its contract, parameter by parameter.
use Prim.Native.Nat.{◌≤◌}
use mathlib.Core.Bool.{true, false, not}
use mathlib.Core.Path.{◌≡◌, sym, ap, ◌∙◌, subst}
use native.Mathlib.Omega.{arith}
use borrow.Author.Tests.{ltb-false, not-false}
use lib.Dec.{ltb}
use lib.IntN.{ℤ, nat_abs}
use mir.Syntax.{w64}
use mir.Val.{to_z, of_z}
use mir.ValLaws.{to_z-of_z}
use Rattle.cell.proofs.ValueLaws.{or_false_left, or_false_right}
use Rattle.group.specs.Numbers.{factor_most}
use Rattle.cell.specs.Unsigned.{near_total, corners_near}
use Rattle.fix.specs.Fix.{result_at, fix_in}
use Rattle.fix.specs.Parts.{fault_at}
use Rattle.fix.proofs.PartLaws.{missing, none, weighed, near_sound, near_sized, result, fix_results}
use Rattle.fix.proofs.fix_from.Goals as goal
use Rattle.fix.proofs.fix_from.Goals.{Start, Else-w-all_near, Else-not-all_near, Else-not-all_near-2, After-result_of-first, After-result_of-second}

-- the factor, as it is handed on
sized : (s : Start) → nat_abs (to_z w64 (of_z w64 s.args.factor)) ≤ factor_most
sized s = subst (λ (z : ℤ). nat_abs z ≤ factor_most) (sym (to_z-of_z w64 s.args.factor s.ranges.factor)) s.requires.2

far : (s : Start) → fix_in s.args.l s.args.nodes.now (to_z w64 (of_z w64 s.args.factor)) s.args.grid ≡ fix_in s.args.l s.args.nodes.now s.args.factor s.args.grid
far s = ap (λ (z : ℤ). fix_in s.args.l s.args.nodes.now z s.args.grid) (to_z-of_z w64 s.args.factor s.ranges.factor)

-- ---- parameter 0
-- what the test told
total : (u : Else-w-all_near) → u.args.w.total ≤ near_total
total u = ltb-false near_total u.args.w.total (or_false_left (ltb near_total u.args.w.total) (not u.all_near.result) u.if-w-all_near.false)

near1 : (u : Else-w-all_near) → corners_near u.corners_at-u.result ≡ true
near1 u = sym u.all_near.ensures ∙ not-false u.all_near.result (or_false_right (ltb near_total u.args.w.total) (not u.all_near.result) u.if-w-all_near.false)

sound1 : (u : Else-w-all_near) → fault_at u.args.l u.args.nodes.now 0 ≡ false
sound1 u = near_sound u.args.l u.args.nodes.now 0 u.requires.0.inside u.requires.0.weights u.corners_at-u.ensures u.requires.1 (near1 u)

result1 : (c : After-result_of-first) → to_z w64 (of_z w64 c.result_of-first.result) ≡ result_at c.args.l c.args.nodes.now c.args.factor 0
result1 c =
    result c.args.l c.args.nodes.now 0 c.requires.0.inside c.requires.0.weights c.corners_at-u.ensures c.requires.1
    c.args.factor c.ranges.factor (record { sfits = c.value_one_word.type_inv }) c.value_one_word.ensures (record { sfits = c.result_of-first.type_inv }) c.result_of-first.ensures

pub corners_at-u-requires : goal.corners_at-u-requires
corners_at-u-requires c = (c.requires.0.inside, c.requires.0.listed, c.requires.0.low, c.requires.1)

pub fix_far-requires : goal.fix_far-requires
fix_far-requires c = (c.requires.0, c.requires.1, sized (goal.at.fix_far-requires c).Start)

pub returns-then-w-all_near : goal.returns-then-w-all_near
returns-then-w-all_near c = c.fix_far.ensures ∙ far (goal.at.returns-then-w-all_near c).Start

pub value_one_word-requires : goal.value_one_word-requires
value_one_word-requires c =
    let u = (goal.at.value_one_word-requires c).Else-w-all_near in (
      weighed c.args.l c.args.nodes.now 0 c.requires.0.inside c.requires.0.weights c.corners_at-u.ensures c.requires.1,
      total u,
      near1 u,
    )

pub result_of-first-requires : goal.result_of-first-requires
result_of-first-requires c =
    near_sized c.args.l c.args.nodes.now 0 c.requires.0.inside c.requires.0.weights c.corners_at-u.ensures c.requires.1 (near1 (goal.at.result_of-first-requires c).Else-w-all_near)
    c.args.factor c.ranges.factor c.requires.2 (record { sfits = c.value_one_word.type_inv }) c.value_one_word.ensures

pub returns-then-l-le1 : goal.returns-then-l-le1
returns-then-l-le1 c =
    let l = c.args.l in let nodes = c.args.nodes.now in let p = goal.at.returns-then-l-le1 c in
    fix_results l nodes c.args.factor c.args.grid c.requires.0.inside.np_most (sound1 p.Else-w-all_near) (missing l nodes 1 (omega arith)) (missing l nodes 2 (omega arith))
    (result1 p.After-result_of-first) (none l nodes 1 c.args.factor (omega arith)) (none l nodes 2 c.args.factor (omega arith))

-- ---- parameter 1
near2 : (u : Else-not-all_near) → corners_near u.corners_at-v.result ≡ true
near2 u = sym u.all_near-2.ensures ∙ u.if-not-all_near.false

sound2 : (u : Else-not-all_near) → fault_at u.args.l u.args.nodes.now 1 ≡ false
sound2 u = near_sound u.args.l u.args.nodes.now 1 u.requires.0.inside u.requires.0.weights u.corners_at-v.ensures u.if-l-le1.false (near2 u)

result2 : (c : After-result_of-second) → to_z w64 (of_z w64 c.result_of-second.result) ≡ result_at c.args.l c.args.nodes.now c.args.factor 1
result2 c =
    result c.args.l c.args.nodes.now 1 c.requires.0.inside c.requires.0.weights c.corners_at-v.ensures c.if-l-le1.false
    c.args.factor c.ranges.factor (record { sfits = c.value_one_word-2.type_inv }) c.value_one_word-2.ensures (record { sfits = c.result_of-second.type_inv }) c.result_of-second.ensures

pub corners_at-v-requires : goal.corners_at-v-requires
corners_at-v-requires c = (c.requires.0.inside, c.requires.0.listed, c.requires.0.low, c.if-l-le1.false)

pub fix_far-requires-then-not-all_near : goal.fix_far-requires-then-not-all_near
fix_far-requires-then-not-all_near c = (c.requires.0, c.requires.1, sized (goal.at.fix_far-requires-then-not-all_near c).Start)

pub returns-then-not-all_near : goal.returns-then-not-all_near
returns-then-not-all_near c = c.fix_far-then-not-all_near.ensures ∙ far (goal.at.returns-then-not-all_near c).Start

pub value_one_word-requires-2 : goal.value_one_word-requires-2
value_one_word-requires-2 c =
    let p = goal.at.value_one_word-requires-2 c in (
      weighed c.args.l c.args.nodes.now 1 c.requires.0.inside c.requires.0.weights c.corners_at-v.ensures c.if-l-le1.false,
      total p.Else-w-all_near,
      near2 p.Else-not-all_near,
    )

pub result_of-second-requires : goal.result_of-second-requires
result_of-second-requires c =
    near_sized c.args.l c.args.nodes.now 1 c.requires.0.inside c.requires.0.weights c.corners_at-v.ensures c.if-l-le1.false (near2 (goal.at.result_of-second-requires c).Else-not-all_near)
    c.args.factor c.ranges.factor c.requires.2 (record { sfits = c.value_one_word-2.type_inv }) c.value_one_word-2.ensures

pub returns-then-l-le2 : goal.returns-then-l-le2
returns-then-l-le2 c =
    let l = c.args.l in let nodes = c.args.nodes.now in let p = goal.at.returns-then-l-le2 c in
    fix_results l nodes c.args.factor c.args.grid c.requires.0.inside.np_most (sound1 p.Else-w-all_near) (sound2 p.Else-not-all_near) (missing l nodes 2 (omega arith))
    (result1 p.After-result_of-first) (result2 p.After-result_of-second) (none l nodes 2 c.args.factor (omega arith))

-- ---- parameter 2
near3 : (u : Else-not-all_near-2) → corners_near u.corners_at-t.result ≡ true
near3 u = sym u.all_near-3.ensures ∙ u.if-not-all_near-2.false

pub corners_at-t-requires : goal.corners_at-t-requires
corners_at-t-requires c = (c.requires.0.inside, c.requires.0.listed, c.requires.0.low, c.if-l-le2.false)

pub fix_far-requires-then-not-all_near-2 : goal.fix_far-requires-then-not-all_near-2
fix_far-requires-then-not-all_near-2 c = (c.requires.0, c.requires.1, sized (goal.at.fix_far-requires-then-not-all_near-2 c).Start)

pub returns-then-not-all_near-2 : goal.returns-then-not-all_near-2
returns-then-not-all_near-2 c = c.fix_far-then-not-all_near-2.ensures ∙ far (goal.at.returns-then-not-all_near-2 c).Start

pub value_one_word-requires-3 : goal.value_one_word-requires-3
value_one_word-requires-3 c =
    let p = goal.at.value_one_word-requires-3 c in (
      weighed c.args.l c.args.nodes.now 2 c.requires.0.inside c.requires.0.weights c.corners_at-t.ensures c.if-l-le2.false,
      total p.Else-w-all_near,
      near3 p.Else-not-all_near-2,
    )

pub result_of-third-requires : goal.result_of-third-requires
result_of-third-requires c =
    near_sized c.args.l c.args.nodes.now 2 c.requires.0.inside c.requires.0.weights c.corners_at-t.ensures c.if-l-le2.false (near3 (goal.at.result_of-third-requires c).Else-not-all_near-2)
    c.args.factor c.ranges.factor c.requires.2 (record { sfits = c.value_one_word-3.type_inv }) c.value_one_word-3.ensures

pub returns : goal.returns
returns c =
    let l = c.args.l in let nodes = c.args.nodes.now in let p = goal.at.returns c in
    fix_results l nodes c.args.factor c.args.grid c.requires.0.inside.np_most (sound1 p.Else-w-all_near) (sound2 p.Else-not-all_near)
    (near_sound l nodes 2 c.requires.0.inside c.requires.0.weights c.corners_at-t.ensures c.if-l-le2.false (near3 p.Else-not-all_near-2))
    (result1 p.After-result_of-first) (result2 p.After-result_of-second)
    (result l nodes 2 c.requires.0.inside c.requires.0.weights c.corners_at-t.ensures c.if-l-le2.false
    c.args.factor c.ranges.factor (record { sfits = c.value_one_word-3.type_inv }) c.value_one_word-3.ensures (record { sfits = c.result_of-third.type_inv }) c.result_of-third.ensures)
