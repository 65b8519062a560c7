-- The test for equal numbers, also of one that the code tells apart only up to a limit.
use Prim.Native.Nat.{ℕ, ◌<◌}
use mathlib.Core.Path.{◌≡◌, sym, ap, ◌∙◌, subst}
use mathlib.Core.Bool.{true}
use native.Mathlib.Omega.{arith}
use lib.IntN.{ℤ, pos, negsuc, nat_abs}
use lib.Signed.{le_z}
use borrow.Author.Tests.{leb-true}
use Rattle.numbers.proofs.Bools.{and_left, and_right, both, same_test}
use Rattle.numbers.proofs.OrderLaws.{le_z_refl}
use Rattle.text.specs.Number.{number_most, clamp}
use Rattle.text.proofs.FieldLaws.{clamp_id}
use Rattle.line.proofs.LineLaws.{unclamped}
use Rattle.logs.specs.Line.{equal}

pub equal_refl : (x y : ℤ) → x ≡ y → equal x y ≡ true
equal_refl x y e = subst (λ (z : ℤ). equal x z ≡ true) e (both (le_z_refl x) (le_z_refl x))

pub equal_true : (x y : ℤ) → equal x y ≡ true → x ≡ y
equal_true x y e = go x y (and_left (le_z x y) (le_z y x) e) (and_right (le_z x y) (le_z y x) e)
  where
    go : (x y : ℤ) → le_z x y ≡ true → le_z y x ≡ true → x ≡ y
    go (pos a) (pos b) p q = let h = leb-true a b p in let k = leb-true b a q in ap pos (omega arith)
    go (pos a) (negsuc b) p q = let z : ◌≡◌ {A = ℕ} 0 1 = cc in absurd (omega arith)
    go (negsuc a) (pos b) p q = let z : ◌≡◌ {A = ℕ} 0 1 = cc in absurd (omega arith)
    go (negsuc a) (negsuc b) p q = let h = leb-true b a p in let k = leb-true a b q in ap negsuc (omega arith)

-- a number beyond the limit is no small one
pub equal_clamped : (x y : ℤ) → nat_abs y < number_most → equal (clamp x) y ≡ equal x y
equal_clamped x y h =
    same_test (equal (clamp x) y) (equal x y)
    (λ e.
    let q = equal_true (clamp x) y e in let n = ap nat_abs q in
    equal_refl x y (sym (unclamped x (omega arith)) ∙ q))
    (λ e.
    let q = equal_true x y e in let n = ap nat_abs q in
    equal_refl (clamp x) y (clamp_id x (omega arith) ∙ q))
