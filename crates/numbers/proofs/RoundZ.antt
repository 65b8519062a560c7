-- Laws of `round_z`.
use Prim.Native.Nat.{ℕ, zero, suc, ◌+◌, ◌-◌, ◌*◌, ◌%◌, ◌≤◌, ◌<◌}
use mathlib.Core.Path.{◌≡◌, refl, sym, ap, ◌∙◌, subst}
use mathlib.Core.Logic.{⊎_elim}
use native.Mathlib.Nat.{mul_comm, mul-zero, mul_assoc, add-mul, le-mul_of_pos_right}
use native.Mathlib.Omega.{arith}
use lib.IntN.{ℤ, pos, negsuc, neg_ℤ, ◌-ℤ◌, ◌*ℤ◌, nat_abs, neg_ℤ-neg_ℤ}
use lib.Signed.{◌≤ℤ◌}
use Rattle.numbers.specs.Round.{nearest, round_z}
use Rattle.numbers.proofs.Nearest.{half_step, nearest_0, nearest_multiple, nearest_ge, nearest_add_even, nearest_reflect}
use Rattle.numbers.proofs.OrderLaws.{size_neg}
use Rattle.numbers.proofs.Diff.{up, dn, Diff, up_pos, dn_pos, up_negsuc, dn_negsuc, up_neg, dn_neg, diff_≤, ≤_diff, diff_self, diff_scale, diff_neg, diff__, nat_abs_diff, up_or_dn}

pub round_pos : (n d : ℕ) → round_z (pos n) d ≡ pos (nearest n d)
unfolding round_z
round_pos n d = refl

-- symmetric about zero
pub round_neg : (z : ℤ) (d : ℕ) → round_z (neg_ℤ z) d ≡ neg_ℤ (round_z z d)
unfolding round_z
round_neg (pos zero) d = rw (nearest_0 d)
round_neg (pos (suc n)) d = refl
round_neg (negsuc n) d = sym (neg_ℤ-neg_ℤ (pos (nearest (suc n) d)))

-- what a number plus an even number of whole steps rounds to: the way from signed to unsigned and back
pub round_biased : {z : ℤ} {a : ℕ} (d k : ℕ) → 0 < d → k % 2 ≡ 0 → Diff z a (k * d) → Diff (round_z z d) (nearest a d) k
unfolding round_z
round_biased {z} {a} d k h ev p = go z p.diff
  where
    go : (z : ℤ) → up z + k * d ≡ a + dn z → Diff (round_z z d) (nearest a d) k
    go (pos n) e =
        let x = up_pos n in let y = dn_pos n in
        let u = up_pos (nearest n d) in let v = dn_pos (nearest n d) in
        let s : nearest a d ≡ nearest (n + k * d) d = ap (λ (x : ℕ). nearest x d) (omega arith) in
        let t = nearest_add_even n d k h ev in
        record { diff = omega arith }
    go (negsuc n) e =
        let x = up_negsuc n in let y = dn_negsuc n in
        let q = nearest (suc n) d in
        let u = up_pos q in let v = dn_pos q in let u' = up_neg (pos q) in let v' = dn_neg (pos q) in
        let t = nearest_reflect a (suc n) d k h ev (omega arith) in
        record { diff = omega arith }

-- below zero the rounded size, with its sign
pub round_negpos : (m d : ℕ) → round_z (neg_ℤ (pos m)) d ≡ neg_ℤ (pos (nearest m d))
round_negpos m d = round_neg (pos m) d ∙ ap neg_ℤ (round_pos m d)

-- exact on whole multiples
pub round_multiple : (x : ℤ) (d : ℕ) → 0 < d → round_z (pos d *ℤ x) d ≡ x
round_multiple (pos n) d h = round_pos (d * n) d ∙ ap pos (ap (λ (x : ℕ). nearest x d) (mul_comm d n) ∙ nearest_multiple n d h)
round_multiple (negsuc n) d h = round_negpos (d * suc n) d ∙ ap (λ (x : ℕ). neg_ℤ (pos x)) (ap (λ (x : ℕ). nearest x d) (mul_comm d (suc n)) ∙ nearest_multiple (suc n) d h)

-- between: from whole steps below and above
pub round_≥ : (a z : ℤ) (d : ℕ) → 0 < d → (pos d *ℤ a) ≤ℤ z → a ≤ℤ round_z z d
round_≥ a z d h l =
    let k = 2 * (dn z + dn a) in
    let e : dn z + dn a ≤ (dn z + dn a) * d = le-mul_of_pos_right (dn z + dn a) h in
    let f : k * d ≡ 2 * ((dn z + dn a) * d) = mul_assoc 2 (dn z + dn a) d in
    let a' = up z + k * d - dn z in
    let p : Diff z a' (k * d) = record { diff = omega arith } in
    let r = (round_biased d k h (omega arith) p).diff in
    let b = up a + k - dn a in
    let m = ≤_diff l in
    let n = (diff_scale d (diff_self a)).diff in
    let b1 : b * d + dn a * d ≡ (up a + k) * d = sym (add-mul b (dn a) d) ∙ ap (λ (x : ℕ). x * d) (omega arith) in
    let b2 = add-mul (up a) k d in
    let c1 = mul_comm (up a) d in let c2 = mul_comm (dn a) d in
    let g : b ≤ nearest a' d = nearest_ge b a' d h (omega arith) in
    diff_≤ (omega arith)

pub round_≤ : (b z : ℤ) (d : ℕ) → 0 < d → z ≤ℤ (pos d *ℤ b) → round_z z d ≤ℤ b
round_≤ b z d h l =
    let m = ≤_diff l in
    let n = (diff_scale d (diff_self b)).diff in
    let n' = (diff_scale d (diff_neg (diff_self b))).diff in
    let u = up_neg z in let v = dn_neg z in let u1 = up_neg b in let v1 = dn_neg b in
    let r = round_≥ (neg_ℤ b) (neg_ℤ z) d h (diff_≤ (omega arith)) in
    let s = ≤_diff (subst (λ (x : ℤ). neg_ℤ b ≤ℤ x) (round_neg z d) r) in
    let u2 = up_neg (round_z z d) in let v2 = dn_neg (round_z z d) in
    diff_≤ (omega arith)

-- at most half a step from the exact fraction: 2·|d·q − z| ≤ d
pub round_half_step : (z : ℤ) (d : ℕ) → 0 < d → 2 * nat_abs ((pos d *ℤ round_z z d) -ℤ z) ≤ d
round_half_step z d h =
    let r = round_z z d in
    let s = (diff__ (diff_scale d (diff_self r)) (diff_self z)).diff in
    let w = (pos d *ℤ r) -ℤ z in
    let a = nat_abs_diff w in
    let p = parts z d h in
    ⊎_elim (λ e. omega arith) (λ e. omega arith) (up_or_dn w)
  where
    -- in the two parts of z and of its rounding
    parts : (z : ℤ) (d : ℕ) → 0 < d → (2 * (d * up (round_z z d) + dn z) ≤ 2 * (d * dn (round_z z d) + up z) + d) × (2 * (d * dn (round_z z d) + up z) ≤ 2 * (d * up (round_z z d) + dn z) + d)
    parts (pos n) d h =
        let q = nearest n d in
        let e = half_step n d h in let f = mul_comm q d in let g = mul-zero d in
        let u : up (round_z (pos n) d) ≡ q = ap up (round_pos n d) ∙ up_pos q in
        let v : dn (round_z (pos n) d) ≡ 0 = ap dn (round_pos n d) ∙ dn_pos q in
        let u1 = up_pos n in let v1 = dn_pos n in
        rw (u, v) (omega arith)
    parts (negsuc n) d h =
        let q = nearest (suc n) d in
        let e = half_step (suc n) d h in let f = mul_comm q d in let g = mul-zero d in
        let u : up (round_z (negsuc n) d) ≡ 0 = ap up (round_negpos (suc n) d) ∙ up_neg (pos q) ∙ dn_pos q in
        let v : dn (round_z (negsuc n) d) ≡ q = ap dn (round_negpos (suc n) d) ∙ dn_neg (pos q) ∙ up_pos q in
        let u1 = up_negsuc n in let v1 = dn_negsuc n in
        rw (u, v) (omega arith)

-- the size of a rounded number is its rounded size
pub round_size : (z : ℤ) (d : ℕ) → nat_abs (round_z z d) ≡ nearest (nat_abs z) d
unfolding round_z
round_size (pos n) d = refl
round_size (negsuc n) d = size_neg (nearest (suc n) d)
