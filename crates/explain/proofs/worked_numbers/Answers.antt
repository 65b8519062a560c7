-- `worked_numbers` meets its contract.
use mathlib.Core.Path.{ap}
use native.Mathlib.Omega.{arith}
use borrow.Author.Rules.{rules}
use mir.Syntax.{w32, w64}
use mir.Val.{SFits}
use Rattle.numbers.proofs.OrderLaws.{size_fits}
use Rattle.cell.specs.declared.TwoParts.{TwoParts}
use Rattle.cell.specs.Cell.{weighted_sum}
use Rattle.cell.proofs.SumLaws.{low_below}
use Rattle.explain.proofs.WorkedLaws.{worked_none, weighed, result_sizes, worked_told}
use Rattle.explain.proofs.worked_numbers.Goals as goal

pub returns-then-l-p : goal.returns-then-l-p
returns-then-l-p c = let a = c.args in worked_none a.l a.nodes.now a.factor a.p c.if-l-p.true

pub weighted_sum-sum-requires : goal.weighted_sum-sum-requires
weighted_sum-sum-requires c = weighed c.requires.0.inside c.requires.0.weights

pub value_two_words-value-requires : goal.value_two_words-value-requires
value_two_words-value-requires c = weighed c.requires.0.inside c.requires.0.weights

pub result_of-result-requires : goal.result_of-result-requires
result_of-result-requires c =
    let a = c.args in let fz : SFits w64 c.value_two_words-value.result = search rules in
    result_sizes a.l a.nodes.now a.factor a.p c.requires.0.inside c.requires.0.weights c.corners_at-v.ensures
    (omega (arith, c.if-l-p.false)) c.value_two_words-value.ensures fz c.requires.2 c.requires.1 c.ranges.factor

pub overflow_cast-result-5 : goal.overflow_cast-result-5
overflow_cast-result-5 c =
    let e = ap (λ (r : TwoParts). r.low) c.weighted_sum-sum.ensures in
    let b = low_below (weighted_sum c.args.w c.corners_at-v.result) in
    size_fits _ (omega arith)

pub returns : goal.returns
returns c =
    let a = c.args in let v = c.corners_at-v.result in
    let f00 : SFits w32 v.v00 = search rules in let f10 : SFits w32 v.v10 = search rules in
    let f01 : SFits w32 v.v01 = search rules in let f11 : SFits w32 v.v11 = search rules in
    let fz : SFits w64 c.value_two_words-value.result = search rules in let fs : SFits w64 c.weighted_sum-sum.result.high = search rules in
    let fr : SFits w64 c.result_of-result.result = search rules in
    worked_told a.l a.nodes.now a.factor a.p c.requires.0.inside c.requires.0.weights c.corners_at-v.ensures
    (omega (arith, c.if-l-p.false)) c.value_two_words-value.ensures fz f00 f10 f01 f11
    c.weighted_sum-sum.ensures fs c.result_of-result.ensures fr c.ranges.factor
