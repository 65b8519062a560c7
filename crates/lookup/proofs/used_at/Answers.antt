-- `used_at` meets its contract.
use Prim.Native.Nat.{ℕ, suc, ◌-◌}
use mathlib.Core.Path.{◌≡◌, ap, ◌∙◌}
use native.Mathlib.Omega.{arith}
use native.Mathlib.Decide.{dec_lt}
use Rattle.lookup.specs.Flat.{used_at}
use Rattle.lookup.proofs.used_at.Goals as goal

-- a number that is not 0 is one more than the one before it
suc_before : (n : ℕ) → (n ≡ 0 → ⊥) → suc (n - 1) ≡ n
suc_before n h = elim (dec_lt 0 n) [ yes lt ↦ omega arith | no ge ↦ absurd (h (omega arith)) ]

pub returns : goal.returns
returns c =
    let a = c.args in
    c.used_lon.ensures ∙ ap (λ (n : ℕ). used_at a.sides.now n a.x a.y) (suc_before a.c c.if-c-eq0.false)
