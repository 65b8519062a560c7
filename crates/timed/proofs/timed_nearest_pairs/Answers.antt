-- `timed_nearest_pairs` meets its contract: each turn rounds one more.
use Prim.Native.Nat.{ℕ, ◌%◌, ◌^◌, ◌<◌}
use mathlib.Core.Path.{ap, ◌∙◌}
use native.Mathlib.Omega.{arith}
use Rattle.pair.specs.Pair.{pair_value}
use Rattle.pair.proofs.PairLaws.{pair_low_word}
use Rattle.timed.proofs.RoundedLaws.{rounded_more}
use Rattle.timed.proofs.timed_nearest_pairs.Goals as goal

pub loop-i-preserved : goal.loop-i-preserved
unfolding pair_value
loop-i-preserved c =
    let n = c.nearest_pair-rounded in
    let low_fits : n.result.low < 2 ^ 64 = omega arith in
    rounded_more _ _ c.loop-i.invariant (omega arith) (pair_low_word n.result low_fits ∙ ap (λ (m : ℕ). m % 2 ^ 64) n.ensures)
