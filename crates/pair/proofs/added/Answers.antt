-- `added`: the high words, and what the low ones carry.
use native.Mathlib.Omega.{arith}
use Rattle.pair.specs.Pair.{pair_value}
use Rattle.pair.proofs.PairLaws.{highs_fit, carry_fits, carry_sum}
use Rattle.pair.proofs.added.Goals as goal

pub overflow_add-result : goal.overflow_add-result
overflow_add-result c = omega (arith, highs_fit c.args.x c.args.y c.requires)

pub overflow_add-result-2 : goal.overflow_add-result-2
overflow_add-result-2 c = omega (arith, carry_fits c.args.x c.args.y c.requires _ c.overflowing_add-low.ensures.overflow)

pub returns : goal.returns
unfolding pair_value
returns c =
    let low = c.overflowing_add-low in
    omega (arith, low.ensures.value, carry_sum c.args.x.low c.args.y.low low.result.1 (omega arith) (omega arith) low.ensures.overflow)
