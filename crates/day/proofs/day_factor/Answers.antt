-- `day_factor` meets its contract: the sum so far is that of the factors passed.
use Prim.Native.Nat.{◌+◌}
use mathlib.Core.Path.{◌≡◌, sym, ap, ap₂, ◌∙◌, subst}
use native.Mathlib.Omega.{arith}
use lib.IntN.{◌+ℤ◌}
use mir.Syntax.{w64}
use mir.Val.{SFits, to_z}
use mir.ValLaws.{to_z-of_z}
use Rattle.numbers.proofs.Machine.{through}
use Rattle.numbers.proofs.OrderLaws.{size_fits}
use Rattle.group.specs.Numbers.{function_factor_most}
use Rattle.flat.specs.Functions.{function_in}
use Rattle.day.specs.Day.{function_factor, sum_of}
use Rattle.numbers.proofs.SignedLaws.{held}
use Rattle.day.proofs.DayLaws.{function_bound, sum_none, sum_more, sum_bound, flat_none, flat_some}
use Rattle.day.proofs.day_factor.Invariants.{factor}
use Rattle.day.proofs.day_factor.Goals as goal
use Rattle.day.proofs.day_factor.Goals.{After-function_factor-sum}

pub returns-then-n-eq0 : goal.returns-then-n-eq0
returns-then-n-eq0 c = let a = c.args in sym (flat_none a.functions.now a.day a.n c.if-n-eq0.true)

pub loop-i-init : goal.loop-i-init
loop-i-init c = (omega arith, sym (sum_none _))

-- the sum with the next factor
more : (c : After-function_factor-sum) → to_z w64 c.loop-i.sum-bits +ℤ held c.function_factor-sum.result ≡ sum_of (factor c.args.functions.now (held c.args.day)) (c.loop-i.i + 1)
more c =
    ap₂ ◌+ℤ◌ c.loop-i.invariant.1
    (to_z-of_z w64 c.function_factor-sum.result (record { sfits = c.function_factor-sum.type_inv }) ∙ c.function_factor-sum.ensures
    ∙ ap (λ f. function_factor f (held c.args.day)) c.function_at-f.ensures)
    ∙ sym (sum_more _ c.loop-i.i)

fits : (c : After-function_factor-sum) → SFits w64 (sum_of (factor c.args.functions.now (held c.args.day)) (c.loop-i.i + 1))
fits c =
    let b =
    sum_bound (factor c.args.functions.now (held c.args.day)) function_factor_most (c.loop-i.i + 1)
    (λ k l. function_bound (function_in c.args.functions.now k) (held c.args.day) (c.requires.2 k (omega arith))) in
    size_fits _ (omega arith)

pub overflow_add-sum : goal.overflow_add-sum
overflow_add-sum c = subst (SFits w64) (sym (more c)) (fits c)

pub loop-i-preserved : goal.loop-i-preserved
loop-i-preserved c = (omega arith, through w64 (more c) (fits c))

pub returns : goal.returns
returns c =
    let l = c.loop-i in let e : l.i ≡ c.args.n = omega arith in
    l.invariant.1
    ∙ (λ i. sum_of (factor c.args.functions.now (to_z-of_z w64 c.args.day c.ranges.day i)) (e i))
    ∙ sym (flat_some c.args.functions.now c.args.day c.args.n c.if-n-eq0.false)
