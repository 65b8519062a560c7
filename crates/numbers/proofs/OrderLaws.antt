-- Signed numbers by their sizes: what fits an i64, and the order of signed numbers as an order of unsigned ones.
use Prim.Native.Nat.{ℕ, zero, suc, ◌+◌, ◌*◌, ◌-◌, ◌<◌, ◌≤◌, ◌^◌}
use mathlib.Core.Path.{◌≡◌, refl, sym, ◌∙◌, ap}
use mathlib.Core.Bool.{Bool, true, false, cond, ◌&&◌}
use native.Mathlib.Omega.{arith}
use lib.Dec.{leb, ltb}
use lib.IntN.{ℤ, pos, negsuc, nat_abs, neg_ℤ, ◌+ℤ◌, ◌*ℤ◌}
use lib.Signed.{le_z}
use mir.Syntax.{w64}
use mir.Val.{SFits}
use borrow.Author.Tests.{leb-true, leb-false, ltb-true, le-leb, lt-leb}
use Rattle.numbers.proofs.Bools.{and_left, and_right, both, same_test}
use Rattle.numbers.specs.Order.{between, within, raised, min_z, max_z}

-- sizes
pub size_fits : (z : ℤ) → nat_abs z < 2 ^ 63 → SFits w64 z
size_fits (pos n) h = record { sfits = h }
size_fits (negsuc n) h = record { sfits = omega arith }

pub size_neg : (n : ℕ) → nat_abs (neg_ℤ (pos n)) ≡ n
size_neg zero = refl
size_neg (suc n) = refl

sub_size : (a b : ℕ) (t : Bool) → ltb a b ≡ t → nat_abs (cond t (negsuc (b - suc a)) (pos (a - b))) ≤ a + b
sub_size a b true e = let h = ltb-true a b e in omega arith
sub_size a b false e = omega arith

pub size_add : (a b : ℤ) → nat_abs (a +ℤ b) ≤ nat_abs a + nat_abs b
size_add (pos a) (pos b) = omega arith
size_add (pos a) (negsuc b) = sub_size a (suc b) (ltb a (suc b)) refl
size_add (negsuc a) (pos b) = let h = sub_size b (suc a) (ltb b (suc a)) refl in omega arith
size_add (negsuc a) (negsuc b) = omega arith

pub size_mul : (a b : ℤ) → nat_abs (a *ℤ b) ≡ nat_abs a * nat_abs b
size_mul (pos a) (pos b) = refl
size_mul (pos a) (negsuc b) = size_neg (a * suc b)
size_mul (negsuc a) (pos b) = size_neg (suc a * b)
size_mul (negsuc a) (negsuc b) = refl

pub within_size : (m : ℕ) (z : ℤ) → within m z ≡ true → nat_abs z ≤ m
within_size m (pos n) e = leb-true n m (and_right (le_z (neg_ℤ (pos m)) (pos n)) (leb n m) e)
within_size zero (negsuc n) e = absurd (let z : ◌≡◌ {A = ℕ} 0 1 = cc in omega arith)
within_size (suc m) (negsuc n) e = let h = leb-true n m (and_left (leb n m) true e) in omega arith

pub zero_of : (z : ℤ) → within 0 z ≡ true → z ≡ pos 0
zero_of z e = go z (within_size 0 z e)
  where
    go : (z : ℤ) → nat_abs z ≤ 0 → z ≡ pos 0
    go (pos n) h = ap pos (omega arith)
    go (negsuc n) h = absurd (omega arith)

-- tests of two orders agree where each order follows from the other
pub leb_same : (x y u v : ℕ) → (x ≤ y → u ≤ v) → (u ≤ v → x ≤ y) → leb x y ≡ leb u v
leb_same x y u v f g =
    same_test (leb x y) (leb u v) (λ e. le-leb u v (f (leb-true x y e))) (λ e. le-leb x y (g (leb-true u v e)))

-- a limit on the size, as a test of it
pub within_test : (m : ℕ) (z : ℤ) → within m z ≡ leb (nat_abs z) m
within_test zero (pos n) = rw (le-leb 0 n (omega arith))
within_test (suc m) (pos n) = refl
within_test zero (negsuc n) = sym (lt-leb (suc n) 0 (omega arith))
within_test (suc m) (negsuc n) = go (leb n m) ∙ leb_same n m (suc n) (suc m) (λ h. omega arith) (λ h. omega arith)
  where
    go : (b : Bool) → (b && true) ≡ b
    go true = refl
    go false = refl

-- raised numbers: of two numbers of size at most m, the order is that of the raised ones
pub raised_order : (m : ℕ) (a b : ℤ) → nat_abs a ≤ m → nat_abs b ≤ m → le_z a b ≡ leb (raised m a) (raised m b)
raised_order m (pos a) (pos b) f g = leb_same a b (m + a) (m + b) (λ h. omega arith) (λ h. omega arith)
raised_order m (pos a) (negsuc b) f g = sym (lt-leb (m + a) (m - suc b) (omega arith))
raised_order m (negsuc a) (pos b) f g = sym (le-leb (m - suc a) (m + b) (omega arith))
raised_order m (negsuc a) (negsuc b) f g = leb_same b a (m - suc a) (m - suc b) (λ h. omega arith) (λ h. omega arith)

sub_pos : (m n : ℕ) (t : Bool) → ltb m n ≡ t → n ≤ m → pos (m - n) ≡ cond t (negsuc (n - suc m)) (pos (m - n))
sub_pos m n true e h = absurd (let k = ltb-true m n e in omega arith)
sub_pos m n false e h = refl

pub raised_is : (m : ℕ) (z : ℤ) → nat_abs z ≤ m → pos (raised m z) ≡ z +ℤ pos m
raised_is m (pos n) h = ap pos (omega arith)
raised_is m (negsuc n) h = sub_pos m (suc n) (ltb m (suc n)) refl h

pub raised_bound : (m : ℕ) (z : ℤ) → nat_abs z ≤ m → raised m z ≤ m + m
raised_bound m (pos n) h = omega arith
raised_bound m (negsuc n) h = omega arith

-- of a number no larger in size than b
pub raised_within : (m b : ℕ) (z : ℤ) → nat_abs z ≤ b → b ≤ m → (m - b ≤ raised m z) × (raised m z ≤ m + b)
raised_within m b (pos n) h k = (omega arith, omega arith)
raised_within m b (negsuc n) h k = (omega arith, omega arith)

-- the order of signed numbers, as tests
pub le_z_refl : (a : ℤ) → le_z a a ≡ true
le_z_refl (pos a) = le-leb a a (omega arith)
le_z_refl (negsuc a) = le-leb a a (omega arith)

pub le_z_trans : (a b c : ℤ) → le_z a b ≡ true → le_z b c ≡ true → le_z a c ≡ true
le_z_trans (pos a) (pos b) (pos c) e f = let h = leb-true a b e in let k = leb-true b c f in le-leb a c (omega arith)
le_z_trans (pos a) (pos b) (negsuc c) e f = f
le_z_trans (pos a) (negsuc b) c e f = absurd (let z : ◌≡◌ {A = ℕ} 0 1 = cc in omega arith)
le_z_trans (negsuc a) b (pos c) e f = refl
le_z_trans (negsuc a) (pos b) (negsuc c) e f = absurd (let z : ◌≡◌ {A = ℕ} 0 1 = cc in omega arith)
le_z_trans (negsuc a) (negsuc b) (negsuc c) e f = let h = leb-true b a e in let k = leb-true c b f in le-leb c a (omega arith)

pub le_z_total : (a b : ℤ) → le_z a b ≡ false → le_z b a ≡ true
le_z_total (pos a) (pos b) e = let h = leb-false a b e in le-leb b a (omega arith)
le_z_total (pos a) (negsuc b) e = refl
le_z_total (negsuc a) (pos b) e = absurd (let z : ◌≡◌ {A = ℕ} 0 1 = cc in omega arith)
le_z_total (negsuc a) (negsuc b) e = let h = leb-false b a e in le-leb a b (omega arith)

-- two spans that overlap share a number
module _ (a b c d : ℤ) where
  shared_pick : (t : Bool) → le_z a c ≡ t → le_z a b ≡ true → le_z c d ≡ true → le_z a d ≡ true → le_z c b ≡ true
      → (x : ℤ) × ((between a b x ≡ true) × (between c d x ≡ true))
  shared_pick true e p q u v = (c, (both e v, both (le_z_refl c) q))
  shared_pick false e p q u v = (a, (both (le_z_refl a) p, both (le_z_total a c e) u))

  pub overlap_shared : le_z a b ≡ true → le_z c d ≡ true → (le_z a d && le_z c b) ≡ true → (x : ℤ) × ((between a b x ≡ true) × (between c d x ≡ true))
  overlap_shared p q e = shared_pick (le_z a c) refl p q (and_left (le_z a d) (le_z c b) e) (and_right (le_z a d) (le_z c b) e)

min_max_by : (a b : ℤ) (t : Bool) → le_z a b ≡ t → le_z (cond t a b) (cond t b a) ≡ true
min_max_by a b true e = e
min_max_by a b false e = le_z_total a b e

pub min_max : (a b : ℤ) → le_z (min_z a b) (max_z a b) ≡ true
min_max a b = min_max_by a b (le_z a b) refl

-- a number between two others is no larger in size than their limit
pub le_z_size : (m : ℕ) (a b z : ℤ) → nat_abs a ≤ m → nat_abs b ≤ m → le_z a z ≡ true → le_z z b ≡ true → nat_abs z ≤ m
le_z_size m a (pos b) (pos z) f g h k = omega (arith, leb-true z b k)
le_z_size m a (negsuc b) (pos z) f g h k = absurd (let w : ◌≡◌ {A = ℕ} 0 1 = cc in omega arith)
le_z_size m (pos a) b (negsuc z) f g h k = absurd (let w : ◌≡◌ {A = ℕ} 0 1 = cc in omega arith)
le_z_size m (negsuc a) b (negsuc z) f g h k = omega (arith, leb-true z a h)
