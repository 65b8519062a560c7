-- `judge_lines` meets its contract.
use Prim.Native.Nat.{◌≤◌}
use mathlib.Core.Path.{sym, ◌∙◌, subst}
use native.Mathlib.Omega.{arith}
use lib.ListN.{length}
use Rattle.abi.specs.Abi.{group_of_words}
use Rattle.exercise.proofs.ScaleLaws.{scale_none}
use Rattle.header.proofs.ItemLaws.{end_le}
use Rattle.logs.specs.Reading.{Scaled}
use Rattle.logs.proofs.LoopLaws.{passed_none, passed_all, line_unclosed, line_bad, line_good}
use Rattle.logs.proofs.judge_lines.Goals as goal
use Rattle.logs.proofs.judge_lines.Goals.{After-find_from-e}

ends : (c : After-find_from-e) → c.find_from-e.result ≤ length c.args.log.now
ends c = end_le c.args.log.now c.loop-next.next c.find_from-e.result c.find_from-e.ensures c.loop-next.invariant.0.room

pub loop-next-init : goal.loop-next-init
loop-next-init c =
    let a = c.args in let g = group_of_words a.words.now in
    (passed_none g a.nodes.now a.log.now, subst (Scaled g) (sym c.no_scale-scale.ensures) (scale_none g))

pub returns-then-e-log : goal.returns-then-e-log
returns-then-e-log c = line_unclosed c.loop-next.invariant.0 _ c.find_from-e.ensures c.loop-next-test.true c.if-e-log.true

pub slice_bounds-judge_line-end : goal.slice_bounds-judge_line-end
slice_bounds-judge_line-end c = omega (arith, ends (goal.at.slice_bounds-judge_line-end c).After-find_from-e)

pub returns-in-Some : goal.returns-in-Some
returns-in-Some c =
    line_bad c.loop-next.invariant.0 _ c.find_from-e.ensures c.loop-next-test.true c.if-e-log.false _ (sym c.judge_line-turn.ensures.kind ∙ c.in-Some.is)

pub overflow_add-next : goal.overflow_add-next
overflow_add-next c = omega (arith, ends (goal.at.overflow_add-next c).After-find_from-e, c.well_formed)

pub loop-next-smaller : goal.loop-next-smaller
loop-next-smaller c =
    let e = c.find_from-e.ensures in let b = ends (goal.at.loop-next-smaller c).After-find_from-e in let t = c.loop-next-test.true in
    omega arith

pub loop-next-preserved : goal.loop-next-preserved
loop-next-preserved c = (
  line_good c.loop-next.invariant.0 _ c.find_from-e.ensures c.loop-next-test.true c.if-e-log.false (sym c.judge_line-turn.ensures.kind ∙ c.in_default.is),
  c.judge_line-turn.ensures.scale,
)

pub returns : goal.returns
returns c = passed_all c.loop-next.invariant.0 c.loop-next-test.false
