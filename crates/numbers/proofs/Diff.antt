-- Signed numbers read by `omega`: z is up z − dn z, and each law of ℤ is an equation or an order of natural numbers.
-- `up` and `dn` are shut, so `omega` takes `up z` and `dn z` as unknowns; the laws below are what it is handed.
use Prim.Native.Nat.{ℕ, zero, suc, ◌+◌, ◌-◌, ◌*◌, ◌≤◌, ◌<◌}
use mathlib.Core.Path.{◌≡◌, refl, sym, ap, ◌∙◌, subst}
use mathlib.Core.Bool.{Bool, true, false, not, cond}
use mathlib.Core.Logic.{◌⊎◌, inl, inr}
use native.Mathlib.Nat.{mul-add, mul-zero}
use native.Mathlib.Omega.{arith}
use lib.Dec.{T, ltb, leb, ltb→lt, nltb→le, leb→le, le→leb, lt→ltb}
use lib.IntN.{ℤ, pos, negsuc, neg_ℤ, sub_ℕ, ◌+ℤ◌, ◌-ℤ◌, ◌*ℤ◌, nat_abs}
use lib.Signed.{◌≤ℤ◌, ◌<ℤ◌, le_z, lt_z, mag}

pub up : ℤ → ℕ
up (pos n) = n
up (negsuc n) = 0

pub dn : ℤ → ℕ
dn (pos n) = 0
dn (negsuc n) = suc n

-- z is a − b
pub record Diff (z : ℤ) (a b : ℕ) : Type 0 where
  pub diff : up z + b ≡ a + dn z

pub up_pos : (n : ℕ) → up (pos n) ≡ n
unfolding up
up_pos n = refl

pub dn_pos : (n : ℕ) → dn (pos n) ≡ 0
unfolding dn
dn_pos n = refl

pub up_negsuc : (n : ℕ) → up (negsuc n) ≡ 0
unfolding up
up_negsuc n = refl

pub dn_negsuc : (n : ℕ) → dn (negsuc n) ≡ suc n
unfolding dn
dn_negsuc n = refl

-- one of the two is 0
pub up_or_dn : (z : ℤ) → (up z ≡ 0) ⊎ (dn z ≡ 0)
unfolding up dn
up_or_dn (pos n) = inr refl
up_or_dn (negsuc n) = inl refl

pub diff_self : (z : ℤ) → Diff z (up z) (dn z)
diff_self z = record { diff = refl }

pub diff_pos : (n : ℕ) → Diff (pos n) n 0
unfolding up dn
diff_pos n = record { diff = refl }

-- ---- equality and order

pub diff_≡ : {x y : ℤ} → up x + dn y ≡ up y + dn x → x ≡ y
unfolding up dn
diff_≡ {x = pos m} {y = pos n} e = ap pos (omega arith)
diff_≡ {x = pos m} {y = negsuc n} e = absurd (omega arith)
diff_≡ {x = negsuc m} {y = pos n} e = absurd (omega arith)
diff_≡ {x = negsuc m} {y = negsuc n} e = ap negsuc (omega arith)

le_from' : (x y : ℤ) → up x + dn y ≤ up y + dn x → T (le_z x y)
unfolding up dn
le_from' (pos m) (pos n) h = le→leb m n (omega arith)
le_from' (pos m) (negsuc n) h = absurd (omega arith)
le_from' (negsuc m) (pos n) h = tt
le_from' (negsuc m) (negsuc n) h = le→leb n m (omega arith)

pub diff_≤ : {x y : ℤ} → up x + dn y ≤ up y + dn x → x ≤ℤ y
diff_≤ {x} {y} h = record { le = le_from' x y h }

le_to' : (x y : ℤ) → T (le_z x y) → up x + dn y ≤ up y + dn x
unfolding up dn
le_to' (pos m) (pos n) t = omega (arith, leb→le m n t)
le_to' (pos m) (negsuc n) t = absurd t
le_to' (negsuc m) (pos n) t = omega arith
le_to' (negsuc m) (negsuc n) t = omega (arith, leb→le n m t)

pub ≤_diff : {x y : ℤ} → x ≤ℤ y → up x + dn y ≤ up y + dn x
≤_diff {x} {y} h = le_to' x y h.le

lt_from' : (x y : ℤ) → up x + dn y < up y + dn x → T (lt_z x y)
unfolding up dn
lt_from' (pos m) (pos n) h = lt→ltb m n (omega arith)
lt_from' (pos m) (negsuc n) h = absurd (omega arith)
lt_from' (negsuc m) (pos n) h = tt
lt_from' (negsuc m) (negsuc n) h = lt→ltb n m (omega arith)

pub diff_< : {x y : ℤ} → up x + dn y < up y + dn x → x <ℤ y
diff_< {x} {y} h = record { lt = lt_from' x y h }

lt_to' : (x y : ℤ) → T (lt_z x y) → up x + dn y < up y + dn x
unfolding up dn
lt_to' (pos m) (pos n) t = omega (arith, ltb→lt m n t)
lt_to' (pos m) (negsuc n) t = absurd t
lt_to' (negsuc m) (pos n) t = omega arith
lt_to' (negsuc m) (negsuc n) t = omega (arith, ltb→lt n m t)

pub <_diff : {x y : ℤ} → x <ℤ y → up x + dn y < up y + dn x
<_diff {x} {y} h = lt_to' x y h.lt

-- ---- sums, negation, products

diff_subℕ : (a b : ℕ) → Diff (sub_ℕ a b) a b
unfolding up dn
diff_subℕ a b = go (ltb a b) refl
  where
    go : (t : Bool) → ltb a b ≡ t → Diff (cond t (negsuc (b - suc a)) (pos (a - b))) a b
    go true e = let h = ltb→lt a b (subst T (sym e) tt) in record { diff = omega arith }
    go false e = let h = nltb→le a b (subst (λ (t : Bool). T (not t)) (sym e) tt) in record { diff = omega arith }

sum : (x y : ℤ) → Diff (x +ℤ y) (up x + up y) (dn x + dn y)
unfolding up dn
sum (pos a) (pos b) = record { diff = omega arith }
sum (pos a) (negsuc b) = let d = (diff_subℕ a (suc b)).diff in record { diff = omega arith }
sum (negsuc a) (pos b) = let d = (diff_subℕ b (suc a)).diff in record { diff = omega arith }
sum (negsuc a) (negsuc b) = record { diff = omega arith }

pub up_neg : (z : ℤ) → up (neg_ℤ z) ≡ dn z
unfolding up dn
up_neg (pos zero) = refl
up_neg (pos (suc n)) = refl
up_neg (negsuc n) = refl

pub dn_neg : (z : ℤ) → dn (neg_ℤ z) ≡ up z
unfolding up dn
dn_neg (pos zero) = refl
dn_neg (pos (suc n)) = refl
dn_neg (negsuc n) = refl

pub diff_neg : {z : ℤ} {a b : ℕ} → Diff z a b → Diff (neg_ℤ z) b a
diff_neg {z} d = let u = up_neg z in let v = dn_neg z in let e = d.diff in record { diff = omega arith }

pub diff_+ : {x y : ℤ} {a b c d : ℕ} → Diff x a b → Diff y c d → Diff (x +ℤ y) (a + c) (b + d)
diff_+ {x} {y} p q = let s = (sum x y).diff in let e = p.diff in let f = q.diff in record { diff = omega arith }

pub diff__ : {x y : ℤ} {a b c d : ℕ} → Diff x a b → Diff y c d → Diff (x -ℤ y) (a + d) (b + c)
diff__ p q = diff_+ p (diff_neg q)

-- a natural number times a signed one
up_dn_scale : (w : ℕ) (x : ℤ) → up (pos w *ℤ x) + w * dn x ≡ w * up x + dn (pos w *ℤ x)
unfolding up dn
up_dn_scale w (pos n) = omega (arith, mul-zero w)
up_dn_scale w (negsuc n) = let u = up_neg (pos (w * suc n)) in let v = dn_neg (pos (w * suc n)) in omega (arith, mul-zero w)

pub diff_scale : (w : ℕ) {x : ℤ} {a b : ℕ} → Diff x a b → Diff (pos w *ℤ x) (w * a) (w * b)
diff_scale w {x} {a} {b} d =
    let e : w * (up x + b) ≡ w * (a + dn x) = ap (λ (n : ℕ). w * n) d.diff in
    record { diff = omega (arith, e, mul-add w (up x) b, mul-add w a (dn x), up_dn_scale w x) }

-- one reading of two numbers
pub diff_one : {x y : ℤ} {a b : ℕ} → Diff x a b → Diff y a b → x ≡ y
diff_one p q = let e = p.diff in let f = q.diff in diff_≡ (omega arith)

-- another reading of the same number
pub diff_as : {z : ℤ} {a b c d : ℕ} → Diff z a b → a + d ≡ c + b → Diff z c d
diff_as p e = let f = p.diff in record { diff = omega arith }

-- ---- magnitudes
pub nat_abs_diff : (z : ℤ) → nat_abs z ≡ up z + dn z
unfolding up dn
nat_abs_diff (pos n) = omega arith
nat_abs_diff (negsuc n) = omega arith

-- the machine's range, in the two parts
pub mag_up : (z : ℤ) {H : ℕ} → mag z < H → (up z < H) × (dn z ≤ H)
unfolding up dn
mag_up (pos n) h = (h, omega arith)
mag_up (negsuc n) h = (omega arith, h)

pub up_mag : (z : ℤ) {H : ℕ} → up z < H → dn z ≤ H → mag z < H
unfolding up dn
up_mag (pos n) h k = h
up_mag (negsuc n) h k = k

-- x plus b is a
pub diff_of : (x : ℤ) (a b : ℕ) → x +ℤ pos b ≡ pos a → Diff x a b
diff_of x a b e =
    let s = (diff_+ (diff_self x) (diff_pos b)).diff in
    let u : up (x +ℤ pos b) ≡ a = ap up e ∙ up_pos a in
    let v : dn (x +ℤ pos b) ≡ 0 = ap dn e ∙ dn_pos a in
    record { diff = omega arith }

pub of_diff : (x : ℤ) (a b : ℕ) → Diff x a b → x +ℤ pos b ≡ pos a
of_diff x a b d =
    let s = (diff_+ (diff_self x) (diff_pos b)).diff in let e = d.diff in
    let u = up_pos a in let v = dn_pos a in
    diff_≡ (omega arith)

-- x plus b is a, so that x is a less b
pub less_of : (x : ℤ) (a b : ℕ) → x +ℤ pos b ≡ pos a → x ≡ pos a -ℤ pos b
less_of x a b e = diff_one (diff_of x a b e) (diff_as (diff__ (diff_pos a) (diff_pos b)) (omega arith))

-- one reading of two numbers, given by an equation
pub diff_join : {x y : ℤ} {a a' b : ℕ} → Diff x a b → a ≡ a' → Diff y a' b → x ≡ y
diff_join p e q = let f = p.diff in let g = q.diff in diff_≡ (omega arith)

-- a test of two numbers with one shift
bool_iff : (x y : Bool) → (T x → T y) → (T y → T x) → x ≡ y
bool_iff true true f g = refl
bool_iff true false f g = absurd (f tt)
bool_iff false true f g = absurd (g tt)
bool_iff false false f g = refl

pub le_z_leb : {x y : ℤ} {a b k : ℕ} → Diff x a k → Diff y b k → le_z x y ≡ leb a b
le_z_leb {x} {y} {a} {b} p q =
    let e = p.diff in let f = q.diff in
    bool_iff (le_z x y) (leb a b)
    (λ t. let h = ≤_diff {x = x} {y = y} (record { le = t }) in le→leb a b (omega arith))
    (λ t. let h = leb→le a b t in (diff_≤ {x = x} {y = y} (omega arith)).le)
