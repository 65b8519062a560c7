-- Signed numbers as the machine holds them, the order of two of them, and how far they lie apart.
use Prim.Native.Nat.{ℕ, ◌+◌, ◌*◌, ◌≤◌, ◌<◌}
use mathlib.Core.Path.{◌≡◌, refl, sym, ◌∙◌}
use mathlib.Core.Bool.{Bool, true, false, cond}
use mathlib.Core.Logic.{⊎_elim}
use native.Mathlib.Nat.{mul-add, mul-le-mul_right}
use native.Mathlib.Omega.{arith}
use borrow.Author.Tests.{leb-true, leb-false, le-leb, lt-leb}
use lib.Dec.{leb}
use lib.IntN.{ℤ, pos, ◌+ℤ◌, ◌-ℤ◌, ◌*ℤ◌, nat_abs}
use lib.Signed.{◌≤ℤ◌, ◌<ℤ◌, le_z}
use mir.Syntax.{w64}
use mir.Val.{SFits, to_z, of_z}
use mir.ValLaws.{to_z-of_z}
use Rattle.numbers.proofs.Diff.{up, dn, up_or_dn, up_pos, dn_pos, ≤_diff, <_diff, diff_<, diff__, diff_self, nat_abs_diff, le_z_leb}
use Rattle.numbers.proofs.OrderLaws.{size_add, size_mul}

-- what is read of a number's bits
abbrev pub held : ℤ → ℤ
held z = to_z w64 (of_z w64 z)

-- a test of two numbers that are read
pub tested : {b : Bool} (x y : ℤ) → SFits w64 x → SFits w64 y → le_z (held x) (held y) ≡ b → le_z x y ≡ b
tested x y p q e = sym (λ i. le_z (to_z-of_z w64 x p i) (to_z-of_z w64 y q i)) ∙ e

-- the difference of two numbers that are read
pub gap_is : (x y : ℤ) → SFits w64 x → SFits w64 y → held x -ℤ held y ≡ x -ℤ y
gap_is x y p q i = to_z-of_z w64 x p i -ℤ to_z-of_z w64 y q i

-- one of two numbers, by a test
pub pick : (P : ℤ → Type 0) (c : Bool) {x y : ℤ} → (c ≡ true → P x) → (c ≡ false → P y) → P (cond c x y)
pick P true f g = f refl
pick P false f g = g refl

-- ---- order

order : (x y : ℤ) → le_z x y ≡ leb (up x + dn y) (up y + dn x)
order x y =
    le_z_leb {x = x} {y = y} {a = up x + dn y} {b = up y + dn x} {k = dn x + dn y} (record { diff = omega arith }) (record { diff = omega arith })

pub not_above : (x y : ℤ) → le_z x y ≡ true → up x + dn y ≤ up y + dn x
not_above x y e = leb-true _ _ (sym (order x y) ∙ e)

pub above : (x y : ℤ) → le_z x y ≡ false → up y + dn x < up x + dn y
above x y e = leb-false _ _ (sym (order x y) ∙ e)

pub is_not_above : (x y : ℤ) → x ≤ℤ y → le_z x y ≡ true
is_not_above x y h = order x y ∙ le-leb _ _ (≤_diff h)

pub is_above : (x y : ℤ) → y <ℤ x → le_z x y ≡ false
is_above x y h = order x y ∙ lt-leb _ _ (<_diff h)

-- ---- how far two numbers lie apart

pub size_less : (x y : ℤ) → nat_abs (x -ℤ y) ≤ nat_abs x + nat_abs y
size_less x y =
    let d = (diff__ (diff_self x) (diff_self y)).diff in
    let m = nat_abs_diff x in let n = nat_abs_diff y in let k = nat_abs_diff (x -ℤ y) in
    ⊎_elim (λ e. omega arith) (λ e. omega arith) (up_or_dn (x -ℤ y))

-- of an x not below y
pub gap : (x y : ℤ) → up y + dn x ≤ up x + dn y → (nat_abs (x -ℤ y) + (up y + dn x) ≡ up x + dn y) × (dn (x -ℤ y) ≡ 0)
gap x y h =
    let d = (diff__ (diff_self x) (diff_self y)).diff in let k = nat_abs_diff (x -ℤ y) in
    ⊎_elim (λ e. (omega arith, omega arith)) (λ e. (omega arith, omega arith)) (up_or_dn (x -ℤ y))

pub gap_positive : (x y : ℤ) → up y + dn x < up x + dn y → pos 0 <ℤ (x -ℤ y)
gap_positive x y h =
    let d = (diff__ (diff_self x) (diff_self y)).diff in let u = up_pos 0 in let v = dn_pos 0 in
    diff_< (omega arith)

-- the way from a to b by way of t
pub way : (a t b : ℤ) → le_z t a ≡ false → le_z b t ≡ false → nat_abs (b -ℤ t) + nat_abs (t -ℤ a) ≡ nat_abs (b -ℤ a)
way a t b f e =
    let h = above t a f in let k = above b t e in
    let p = (gap b t (omega arith)).0 in let q = (gap t a (omega arith)).0 in let r = (gap b a (omega arith)).0 in
    omega arith

-- ---- sizes

pub size_sum : (m : ℕ) (u v x y : ℤ) → nat_abs u ≤ m → nat_abs v ≤ m → nat_abs (u *ℤ x +ℤ v *ℤ y) ≤ m * (nat_abs x + nat_abs y)
size_sum m u v x y h k =
    let a = size_add (u *ℤ x) (v *ℤ y) in
    let p = mul-le-mul_right (nat_abs x) h in let q = mul-le-mul_right (nat_abs y) k in
    omega (arith, size_mul u x, size_mul v y, mul-add m (nat_abs x) (nat_abs y))
