-- `fix_far` meets its contract, parameter by parameter.
use borrow.Author.Rules.{rules}
use mathlib.Core.Bool.{false}
use mathlib.Core.Path.{◌≡◌, ◌∙◌}
use native.Mathlib.Omega.{arith}
use mir.Syntax.{w64}
use mir.Val.{to_z, of_z}
use Rattle.cell.specs.Cell.{is_beyond, used_some}
use Rattle.cell.proofs.Order6.{in_word_lem, used_either}
use Rattle.fix.specs.Fix.{result_at}
use Rattle.fix.specs.Parts.{fault_at}
use Rattle.fix.proofs.PartLaws.{missing, none, tested, weighed, sized, result, marked, fix_refused, fix_results}
use Rattle.fix.proofs.fix_far.Goals as goal
use Rattle.fix.proofs.fix_far.Goals.{After-used_marked, After-used_marked-2, After-used_marked-3, After-result_of-first, After-result_of-second, Else-used_marked, Else-used_marked-2}

-- ---- parameter 0
beyond1 : (c : After-used_marked) → c.used_marked.result ≡ used_some is_beyond c.args.w c.corners_at-u.result
beyond1 c =
    let v = c.corners_at-u.result in
    c.used_marked.ensures
    ∙ used_either c.args.w v (in_word_lem v.v00 (search rules)) (in_word_lem v.v10 (search rules)) (in_word_lem v.v01 (search rules)) (in_word_lem v.v11 (search rules))

sound1 : (c : After-used_marked) → c.used_marked.result ≡ false → fault_at c.args.l c.args.nodes.now 0 ≡ false
sound1 c e = tested c.args.l c.args.nodes.now 0 c.requires.0.inside c.requires.0.weights c.corners_at-u.ensures c.requires.1 false (beyond1 c) e

result1 : (c : After-result_of-first) → to_z w64 (of_z w64 c.result_of-first.result) ≡ result_at c.args.l c.args.nodes.now c.args.factor 0
result1 c =
    result c.args.l c.args.nodes.now 0 c.requires.0.inside c.requires.0.weights c.corners_at-u.ensures c.requires.1
    c.args.factor c.ranges.factor (record { sfits = c.value_two_words.type_inv }) c.value_two_words.ensures (record { sfits = c.result_of-first.type_inv }) c.result_of-first.ensures

pub corners_at-u-requires : goal.corners_at-u-requires
corners_at-u-requires c = (c.requires.0.inside, c.requires.0.listed, c.requires.0.low, c.requires.1)

pub returns-then-used_marked : goal.returns-then-used_marked
returns-then-used_marked c =
    let a = c.args in
    c.no_data.ensures
    ∙ fix_refused a.l a.nodes.now a.factor a.grid 0 c.requires.1
    (marked a.l a.nodes.now 0 c.requires.0.inside c.requires.0.weights c.corners_at-u.ensures c.requires.1 c.used_marked.ensures c.if-used_marked.true)

pub value_two_words-requires : goal.value_two_words-requires
value_two_words-requires c =
    weighed c.args.l c.args.nodes.now 0 c.requires.0.inside c.requires.0.weights c.corners_at-u.ensures c.requires.1

pub result_of-first-requires : goal.result_of-first-requires
result_of-first-requires c =
    sized c.args.l c.args.nodes.now 0 c.requires.0.inside c.requires.0.weights c.corners_at-u.ensures c.requires.1
    c.args.factor c.ranges.factor c.requires.2 (beyond1 (goal.at.result_of-first-requires c).After-used_marked) c.if-used_marked.false
    (record { sfits = c.value_two_words.type_inv }) c.value_two_words.ensures

pub returns-then-l-le1 : goal.returns-then-l-le1
returns-then-l-le1 c =
    let l = c.args.l in let nodes = c.args.nodes.now in let p = goal.at.returns-then-l-le1 c in
    fix_results l nodes c.args.factor c.args.grid c.requires.0.inside.np_most
    (sound1 p.After-used_marked c.if-used_marked.false) (missing l nodes 1 (omega arith)) (missing l nodes 2 (omega arith))
    (result1 p.After-result_of-first) (none l nodes 1 c.args.factor (omega arith)) (none l nodes 2 c.args.factor (omega arith))

-- ---- parameter 1
beyond2 : (c : After-used_marked-2) → c.used_marked-2.result ≡ used_some is_beyond c.args.w c.corners_at-v.result
beyond2 c =
    let v = c.corners_at-v.result in
    c.used_marked-2.ensures
    ∙ used_either c.args.w v (in_word_lem v.v00 (search rules)) (in_word_lem v.v10 (search rules)) (in_word_lem v.v01 (search rules)) (in_word_lem v.v11 (search rules))

sound2 : (c : After-used_marked-2) → c.used_marked-2.result ≡ false → fault_at c.args.l c.args.nodes.now 1 ≡ false
sound2 c e = tested c.args.l c.args.nodes.now 1 c.requires.0.inside c.requires.0.weights c.corners_at-v.ensures c.if-l-le1.false false (beyond2 c) e

result2 : (c : After-result_of-second) → to_z w64 (of_z w64 c.result_of-second.result) ≡ result_at c.args.l c.args.nodes.now c.args.factor 1
result2 c =
    result c.args.l c.args.nodes.now 1 c.requires.0.inside c.requires.0.weights c.corners_at-v.ensures c.if-l-le1.false
    c.args.factor c.ranges.factor (record { sfits = c.value_two_words-2.type_inv }) c.value_two_words-2.ensures (record { sfits = c.result_of-second.type_inv }) c.result_of-second.ensures

pub corners_at-v-requires : goal.corners_at-v-requires
corners_at-v-requires c = (c.requires.0.inside, c.requires.0.listed, c.requires.0.low, c.if-l-le1.false)

pub returns-then-used_marked-2 : goal.returns-then-used_marked-2
returns-then-used_marked-2 c =
    let a = c.args in
    c.no_data-then-used_marked-2.ensures
    ∙ fix_refused a.l a.nodes.now a.factor a.grid 1 c.if-l-le1.false
    (marked a.l a.nodes.now 1 c.requires.0.inside c.requires.0.weights c.corners_at-v.ensures c.if-l-le1.false c.used_marked-2.ensures c.if-used_marked-2.true)

pub value_two_words-requires-2 : goal.value_two_words-requires-2
value_two_words-requires-2 c =
    weighed c.args.l c.args.nodes.now 1 c.requires.0.inside c.requires.0.weights c.corners_at-v.ensures c.if-l-le1.false

pub result_of-second-requires : goal.result_of-second-requires
result_of-second-requires c =
    sized c.args.l c.args.nodes.now 1 c.requires.0.inside c.requires.0.weights c.corners_at-v.ensures c.if-l-le1.false
    c.args.factor c.ranges.factor c.requires.2 (beyond2 (goal.at.result_of-second-requires c).After-used_marked-2) c.if-used_marked-2.false
    (record { sfits = c.value_two_words-2.type_inv }) c.value_two_words-2.ensures

pub returns-then-l-le2 : goal.returns-then-l-le2
returns-then-l-le2 c =
    let l = c.args.l in let nodes = c.args.nodes.now in let p = goal.at.returns-then-l-le2 c in
    fix_results l nodes c.args.factor c.args.grid c.requires.0.inside.np_most
    (sound1 p.After-used_marked c.if-used_marked.false) (sound2 p.After-used_marked-2 c.if-used_marked-2.false) (missing l nodes 2 (omega arith))
    (result1 p.After-result_of-first) (result2 p.After-result_of-second) (none l nodes 2 c.args.factor (omega arith))

-- ---- parameter 2
beyond3 : (c : After-used_marked-3) → c.used_marked-3.result ≡ used_some is_beyond c.args.w c.corners_at-t.result
beyond3 c =
    let v = c.corners_at-t.result in
    c.used_marked-3.ensures
    ∙ used_either c.args.w v (in_word_lem v.v00 (search rules)) (in_word_lem v.v10 (search rules)) (in_word_lem v.v01 (search rules)) (in_word_lem v.v11 (search rules))

pub corners_at-t-requires : goal.corners_at-t-requires
corners_at-t-requires c = (c.requires.0.inside, c.requires.0.listed, c.requires.0.low, c.if-l-le2.false)

pub returns-then-used_marked-3 : goal.returns-then-used_marked-3
returns-then-used_marked-3 c =
    let a = c.args in
    c.no_data-then-used_marked-3.ensures
    ∙ fix_refused a.l a.nodes.now a.factor a.grid 2 c.if-l-le2.false
    (marked a.l a.nodes.now 2 c.requires.0.inside c.requires.0.weights c.corners_at-t.ensures c.if-l-le2.false c.used_marked-3.ensures c.if-used_marked-3.true)

pub value_two_words-requires-3 : goal.value_two_words-requires-3
value_two_words-requires-3 c =
    weighed c.args.l c.args.nodes.now 2 c.requires.0.inside c.requires.0.weights c.corners_at-t.ensures c.if-l-le2.false

pub result_of-third-requires : goal.result_of-third-requires
result_of-third-requires c =
    sized c.args.l c.args.nodes.now 2 c.requires.0.inside c.requires.0.weights c.corners_at-t.ensures c.if-l-le2.false
    c.args.factor c.ranges.factor c.requires.2 (beyond3 (goal.at.result_of-third-requires c).After-used_marked-3) c.if-used_marked-3.false
    (record { sfits = c.value_two_words-3.type_inv }) c.value_two_words-3.ensures

pub returns : goal.returns
returns c =
    let l = c.args.l in let nodes = c.args.nodes.now in let p = goal.at.returns c in
    fix_results l nodes c.args.factor c.args.grid c.requires.0.inside.np_most
    (sound1 p.After-used_marked c.if-used_marked.false) (sound2 p.After-used_marked-2 c.if-used_marked-2.false)
    (tested l nodes 2 c.requires.0.inside c.requires.0.weights c.corners_at-t.ensures c.if-l-le2.false false (beyond3 p.After-used_marked-3) c.if-used_marked-3.false)
    (result1 p.After-result_of-first) (result2 p.After-result_of-second)
    (result l nodes 2 c.requires.0.inside c.requires.0.weights c.corners_at-t.ensures c.if-l-le2.false
    c.args.factor c.ranges.factor (record { sfits = c.value_two_words-3.type_inv }) c.value_two_words-3.ensures (record { sfits = c.result_of-third.type_inv }) c.result_of-third.ensures)
