-- What is answered where no grid is chosen, and where one is.
use Prim.Native.Nat.{ℕ, suc, ◌-◌}
use mathlib.Core.Path.{◌≡◌, ap, ◌∙◌}
use mathlib.Core.List.{List}
use native.Mathlib.Omega.{arith}
use lib.IntN.{ℤ}
use Rattle.fix.specs.declared.Offset.{Offset}
use Rattle.fix.specs.Fix.{fix_in}
use Rattle.lookup.specs.Lookup.{fix_at}
use Rattle.std.specs.Prelude.{Err}

module _ (c : ℕ) (offset : ℕ → Offset) (nodes : List ℤ) (factor : ℤ) where
  pub fix_at_none : c ≡ 0 → fix_at c offset nodes factor ≡ Err (record { number = 7; place = 0 })
  unfolding fix_at
  fix_at_none e = ap (λ (n : ℕ). fix_at n offset nodes factor) e

  pub fix_at_some : (c ≡ 0 → ⊥) → fix_at c offset nodes factor ≡ fix_in (offset (c - 1)) nodes factor c
  unfolding fix_at
  fix_at_some h =
      let q : c ≡ suc (c - 1) = omega arith in let r : suc (c - 1) ≡ c = omega arith in
      ap (λ (n : ℕ). fix_at n offset nodes factor) q ∙ ap (λ (n : ℕ). fix_in (offset (c - 1)) nodes factor n) r

  pub fix_at_suc : (k : ℕ) → c ≡ suc k → fix_at c offset nodes factor ≡ fix_in (offset k) nodes factor (suc k)
  unfolding fix_at
  fix_at_suc k e = ap (λ (n : ℕ). fix_at n offset nodes factor) e
