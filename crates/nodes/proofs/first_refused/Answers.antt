-- `first_refused`: no float of the blocks before a is refused.
use mathlib.Core.Path.{◌≡◌, sym, ◌∙◌}
use Prim.Native.Nat.{min}
use native.Mathlib.Nat.{le_refl}
use native.Mathlib.Omega.{arith}
use lib.ListN.{length}
use Rattle.numbers.proofs.FirstLaws.{passed_end, passed_found}
use Rattle.nodes.specs.Load.{first_refused}
use Rattle.nodes.proofs.Blocks.{passed_to}
use Rattle.nodes.proofs.first_refused.Goals as goal

pub returns-then-i-e : goal.returns-then-i-e
unfolding first_refused
returns-then-i-e c =
    let f = c.refused_from-i.ensures in
    let t = c.if-i-e.true in
    passed_found _ _ c.refused_from-i.result (passed_to _ _ c.loop-a.a c.refused_from-i.result c.loop-a.invariant c.loop-a-test.true (omega arith) f.clear) (omega arith) (f.found t)

pub loop-a-preserved : goal.loop-a-preserved
loop-a-preserved c =
    let f = c.refused_from-i.ensures in
    passed_to _ _ c.loop-a.a _ c.loop-a.invariant c.loop-a-test.true (omega arith) (λ k h m. f.clear k h (omega arith))

pub returns-else-i-e : goal.returns-else-i-e
unfolding first_refused
returns-else-i-e c =
    let f = c.refused_from-i.ensures in
    passed_end _ _ _ (passed_to _ _ c.loop-a.a _ c.loop-a.invariant c.loop-a-test.true (le_refl _) (λ k h m. f.clear k h (omega arith))) (le_refl _)

pub returns : goal.returns
unfolding first_refused
returns c =
    let e : min c.loop-a.a (length c.args.floats.now) ≡ length c.args.floats.now = omega arith in
    sym e ∙ passed_end _ _ _ c.loop-a.invariant (omega arith)
