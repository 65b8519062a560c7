-- `with_sign`: the size as an i32, and 0 less it.
use mathlib.Core.Path.{◌≡◌, sym, ap, ◌∙◌, subst}
use mathlib.Core.Bool.{Bool}
use Prim.Native.Nat.{ℕ, zero, suc, ◌<◌, ◌^◌}
use native.Mathlib.Omega.{arith}
use lib.IntN.{ℤ, pos, neg_ℤ, ◌-ℤ◌, +ℤ_idl}
use mir.Syntax.{w32}
use mir.Val.{SFits, to_z}
use mir.ValLaws.{to_z_pos}
use Rattle.numbers.proofs.Machine.{through}
use Rattle.nodes.specs.Load.{signed}
use Rattle.nodes.proofs.with_sign.Goals as goal

below_zero : (n : ℕ) → n < 2 ^ 31 → pos 0 -ℤ to_z w32 n ≡ neg_ℤ (pos n)
below_zero n h = ap (λ (z : ℤ). pos 0 -ℤ z) (to_z_pos w32 n h) ∙ +ℤ_idl (neg_ℤ (pos n))

fits : (n : ℕ) → n < 2 ^ 31 → SFits w32 (neg_ℤ (pos n))
fits zero h = record { sfits = omega arith }
fits (suc n) h = record { sfits = omega arith }

pub overflow_sub-result : goal.overflow_sub-result
overflow_sub-result c = subst (SFits w32) (sym (below_zero _ c.requires)) (fits _ c.requires)

pub returns-then-below : goal.returns-then-below
returns-then-below c =
    let n = c.args.n in
    through w32 (below_zero n c.requires) (fits n c.requires)
    ∙ ap (λ (b : Bool). signed b n) (sym c.if-below.true)

pub returns-else-below : goal.returns-else-below
returns-else-below c =
    let n = c.args.n in to_z_pos w32 n c.requires ∙ ap (λ (b : Bool). signed b n) (sym c.if-below.false)
