-- More laws of rounding: its range, its order, and over 1.
use Prim.Native.Nat.{ℕ, suc, ◌*◌, ◌≤◌, ◌<◌}
use mathlib.Core.Path.{◌≡◌, sym, ap, ◌∙◌, subst}
use mathlib.Core.Logic.{⊎_elim}
use native.Mathlib.Nat.{mul-le-mul_right, suc-mul, eq_of_mul-eq-mul_right}
use native.Mathlib.Decide.{dec_lt}
use native.Mathlib.Omega.{arith}
use lib.IntN.{ℤ, pos, negsuc, nat_abs, one, *ℤ_comm, *ℤ-one}
use lib.Signed.{◌≤ℤ◌}
use Rattle.numbers.specs.Round.{nearest, round_z}
use Rattle.numbers.proofs.Nearest.{three_ways, nearest_near, nearest_zero, nearest_0, nearest_le}
use Rattle.numbers.proofs.Diff.{up, dn, up_pos, dn_pos, up_negsuc, dn_negsuc, up_neg, dn_neg, up_or_dn, diff_≤, ≤_diff}
use Rattle.numbers.proofs.RoundZ.{round_pos, round_multiple, round_size}

-- over a divisor that may be 0
by_divisor : (P : ℕ → Type 0) (d : ℕ) → (0 < d → P d) → P 0 → P d
by_divisor P d f z = go (dec_lt 0 d)
  where
    go : Dec (0 < d) → P d
    go (yes h) = f h
    go (no h) = let e : 0 ≡ d = omega arith in subst P e z

pub round_bound : (m d : ℕ) (z : ℤ) → nat_abs z ≤ m * d → nat_abs (round_z z d) ≤ m
round_bound m d z h =
    rw (round_size z d)
    (by_divisor (λ d. nat_abs z ≤ m * d → nearest (nat_abs z) d ≤ m) d (nearest_le m (nat_abs z) d) (λ g. rw (nearest_zero (nat_abs z)) (omega arith)) h)

pub round_none : (d : ℕ) → round_z (pos 0) d ≡ pos 0
round_none d = round_pos 0 d ∙ ap pos (nearest_0 d)

pub round_whole : (z : ℤ) → round_z z 1 ≡ z
unfolding one
round_whole z = ap (λ (x : ℤ). round_z x 1) (sym (*ℤ_comm (pos 1) z ∙ *ℤ-one z)) ∙ round_multiple z 1 (omega arith)

-- ---- order

pub nearest_mono : (n m d : ℕ) → n ≤ m → nearest n d ≤ nearest m d
nearest_mono n m d l =
    by_divisor (λ d. nearest n d ≤ nearest m d) d
    (λ h. three_ways (nearest n d) (nearest m d) (λ k. omega arith) (λ k. omega arith) (crossed h))
    (rw (nearest_zero n, nearest_zero m) (omega arith))
  where
    crossed : 0 < d → nearest m d < nearest n d → nearest n d ≤ nearest m d
    crossed h k =
        let p = nearest n d in let q = nearest m d in
        let a = nearest_near n d h in let b = nearest_near m d h in
        let s = suc-mul q d in let g = mul-le-mul_right d k in let a1 = a.above in let b1 = b.below in
        let i : suc q ≡ p = eq_of_mul-eq-mul_right d h (suc q) p (omega arith) in
        let x = b.even_below (omega arith) in let y = a.even_above (omega arith) in
        omega arith

round_up : (z : ℤ) (d : ℕ) → up (round_z z d) ≡ nearest (up z) d
unfolding round_z
round_up (pos n) d = rw (up_pos (nearest n d), up_pos n)
round_up (negsuc n) d = rw (up_neg (pos (nearest (suc n) d)), dn_pos (nearest (suc n) d), up_negsuc n, nearest_0 d)

round_dn : (z : ℤ) (d : ℕ) → dn (round_z z d) ≡ nearest (dn z) d
unfolding round_z
round_dn (pos n) d = rw (dn_pos (nearest n d), dn_pos n, nearest_0 d)
round_dn (negsuc n) d = rw (dn_neg (pos (nearest (suc n) d)), up_pos (nearest (suc n) d), dn_negsuc n)

pub round_mono : (x y : ℤ) (d : ℕ) → x ≤ℤ y → round_z x d ≤ℤ round_z y d
round_mono x y d l =
    let h = ≤_diff l in
    let u : up x ≤ up y = ⊎_elim (λ e. omega arith) (λ e. omega arith) (up_or_dn x) in
    let v : dn y ≤ dn x = ⊎_elim (λ e. omega arith) (λ e. omega arith) (up_or_dn y) in
    let a = nearest_mono (up x) (up y) d u in let b = nearest_mono (dn y) (dn x) d v in
    diff_≤ (omega (arith, round_up x d, round_dn x d, round_up y d, round_dn y d))
