-- `fill`: block after block.
use mathlib.Core.Path.{◌≡◌, subst}
use Prim.Native.Nat.{ℕ, min}
use native.Mathlib.Omega.{arith}
use lib.ListN.{length}
use Rattle.nodes.specs.Plain.{Filled}
use Rattle.nodes.proofs.Blocks.{filled_none}
use Rattle.nodes.proofs.fill.Goals as goal

pub loop-a-init : goal.loop-a-init
loop-a-init c =
    let a = c.args in
    let e : 0 ≡ min 0 (length a.floats.now) = omega arith in
    subst (λ (k : ℕ). Filled a.q a.flag a.floats.now k a.nodes.now) e (filled_none a.q a.flag a.floats.now a.nodes.now c.requires.limits.1)

pub fill_block-requires : goal.fill_block-requires
fill_block-requires c =
    let p = c.requires.limits in
    let a = c.args in
    let e : min c.loop-a.a (length a.floats.now) ≡ c.loop-a.a = omega arith in
    record {
      limits = (p.0, omega arith, omega arith);
      filled = (subst (λ (k : ℕ). Filled a.q a.flag a.floats.now k c.loop-a.nodes) e c.loop-a.invariant, c.requires.none_refused);
    }
