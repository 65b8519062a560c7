-- A signed number as the machine holds it.
use Prim.Native.Nat.{ℕ, ◌+◌, ◌-◌, ◌*◌, ◌%◌, ◌^◌, ◌≤◌, ◌<◌}
use mathlib.Core.Path.{◌≡◌, sym, ap, ◌∙◌, subst}
use mathlib.Core.Logic.{⊎_elim}
use native.Mathlib.Omega.{arith}
use lib.IntN.{ℤ, pos, ◌+ℤ◌, ◌-ℤ◌, nat_abs}
use mathlib.Core.Bool.{true}
use native.Mathlib.Nat.{one-mul}
use lib.Dec.{T, lit<}
use lib.Pow.{shl_exact}
use lib.Signed.{lt_z, lt_z_yes}
use mir.Syntax.{Width}
use mir.Val.{SFits, to_z, of_z, hbits}
use mir.ValLaws.{to_z-of_z}
use Rattle.numbers.proofs.Diff.{up, dn, Diff, up_or_dn, up_mag, diff_of, diff_self, diff_+, diff__, diff_pos, less_of, nat_abs_diff, up_pos, dn_pos, <_diff}
use Rattle.numbers.proofs.OrderLaws.{size_add, raised_is}
use Rattle.numbers.specs.Order.{raised}

-- what is read back of x's bits, where x is y and y fits
pub through : (w : Width) {x y : ℤ} → x ≡ y → SFits w y → to_z w (of_z w x) ≡ y
through w {x} {y} e h = ap (λ (z : ℤ). to_z w (of_z w z)) e ∙ to_z-of_z w y h

-- a difference of two numbers in half a width's range fits that width
pub diff_fits : (w : Width) {z : ℤ} {a b : ℕ} → Diff z a b → a < 2 ^ hbits w → b ≤ 2 ^ hbits w → SFits w z
diff_fits w {z} d h k =
    let e = d.diff in
    record { sfits = ⊎_elim (λ p. up_mag z (omega arith) (omega arith)) (λ p. up_mag z (omega arith) (omega arith)) (up_or_dn z) }

-- a fact that a callee gives of what it was passed, a signed number v in its bits, is a fact of v
pub passed : (w : Width) {v : ℤ} → SFits w v → (P : ℤ → Type 0) → P (to_z w (of_z w v)) → P v
passed w {v} h P t = subst P (to_z-of_z w v h) t

-- a test against 0
pub below_zero : (v : ℤ) → lt_z v (pos 0) ≡ true → (up v ≡ 0) × (0 < dn v)
below_zero v e =
    let h = <_diff (lt_z_yes {a = v} {b = pos 0} (subst T (sym e) tt)) in
    let u = up_pos 0 in let d = dn_pos 0 in
    ⊎_elim (λ p. (omega arith, omega arith)) (λ p. absurd (omega arith)) (up_or_dn v)

-- a number and the same raised
pub diff_raised : (m : ℕ) (z : ℤ) → nat_abs z ≤ m → Diff z (raised m z) m
diff_raised m z h = diff_of z (raised m z) m (sym (raised_is m z h))

-- the distance of two numbers is that of the raised ones
pub raised_apart : (m : ℕ) (x y : ℤ) → nat_abs x ≤ m → nat_abs y ≤ m → nat_abs (x -ℤ y) ≡ (raised m x - raised m y) + (raised m y - raised m x)
raised_apart m x y h k =
    let d = (diff__ (diff_raised m x h) (diff_raised m y k)).diff in let n = nat_abs_diff (x -ℤ y) in
    ⊎_elim (λ e. omega arith) (λ e. omega arith) (up_or_dn (x -ℤ y))

-- a raised number lowered again
pub lowered_size : (m x : ℕ) → x ≤ m + m → nat_abs (pos x -ℤ pos m) ≤ m
lowered_size m x h =
    let z = pos x -ℤ pos m in
    let d = (diff__ (diff_pos x) (diff_pos m)).diff in let n = nat_abs_diff z in
    ⊎_elim (λ e. omega arith) (λ e. omega arith) (up_or_dn z)

pub raised_lowered : (m x : ℕ) → x ≤ m + m → raised m (pos x -ℤ pos m) ≡ x
raised_lowered m x h =
    let z = pos x -ℤ pos m in
    let d = (diff__ (diff_pos x) (diff_pos m)).diff in
    let r = (diff_raised m z (lowered_size m x h)).diff in
    omega arith

pub lowered_raised : (m : ℕ) (z : ℤ) → nat_abs z ≤ m → pos (raised m z) -ℤ pos m ≡ z
lowered_raised m z h = sym (less_of z (raised m z) m (sym (raised_is m z h)))

-- a number with another added or taken off, raised
module _ (m t : ℕ) (x : ℤ) (h : nat_abs x + t ≤ m) where
  pub add_size : nat_abs (x +ℤ pos t) ≤ m
  add_size = omega (arith, size_add x (pos t))

  pub less_size : nat_abs (x -ℤ pos t) ≤ m
  less_size =
      let z = x -ℤ pos t in let d = (diff__ (diff_self x) (diff_pos t)).diff in
      let n = nat_abs_diff z in let k = nat_abs_diff x in
      ⊎_elim (λ e. omega arith) (λ e. omega arith) (up_or_dn z)

  pub raised_add : raised m (x +ℤ pos t) ≡ raised m x + t
  raised_add =
      let d = (diff_+ (diff_self x) (diff_pos t)).diff in
      omega (arith, (diff_raised m (x +ℤ pos t) add_size).diff, (diff_raised m x (omega arith)).diff)

  pub raised_less : raised m (x -ℤ pos t) ≡ raised m x - t
  raised_less =
      let d = (diff__ (diff_self x) (diff_pos t)).diff in
      omega (arith, (diff_raised m (x -ℤ pos t) less_size).diff, (diff_raised m x (omega arith)).diff)

-- 1 shifted left by k
pub one_shifted : (k : ℕ) → k < 64 → 1 * 2 ^ k % 2 ^ 64 ≡ 2 ^ k
one_shifted k h = shl_exact 1 k 64 (lit< tt) (omega arith) ∙ one-mul (2 ^ k)
