-- The value of a cell: at most half a step from the exact fraction, within the range of the used corners, blind to the others.
use Prim.Native.Nat.{ℕ, ◌+◌, ◌-◌, ◌*◌, ◌%◌, ◌^◌, ◌≤◌, ◌<◌}
use mathlib.Core.Path.{◌≡◌, refl, sym, ap, ◌∙◌, subst}
use mathlib.Core.Bool.{Bool, true, false, ◌&&◌, ◌||◌}
use mathlib.Core.Logic.{inl, inr, ⊎_elim, ◌↔◌}
use native.Mathlib.Nat.{mul-le-mul_left, mul_comm, mul-add, add-mul, mul-zero, zero-mul}
use native.Mathlib.Omega.{arith}
use borrow.Author.Tests.{ltb-true, ltb-false, lt-ltb, leb-false, lt-leb, not-true, not-false}
use lib.Dec.{T, ltb}
use mir.Syntax.{w32}
use mir.Val.{Fits}
use lib.IntN.{ℤ, pos, neg_ℤ, ◌+ℤ◌, ◌-ℤ◌, ◌*ℤ◌, nat_abs, zero-*ℤ}
use lib.Signed.{le_z, ◌≤ℤ◌, ≤ℤ_refl}
use Rattle.numbers.specs.Round.{round_z}
use Rattle.numbers.proofs.Bools.{and_left, and_right, both, or_cases, or_left, or_right}
use Rattle.numbers.proofs.Nearest.{nearest_le}
use Rattle.numbers.proofs.Diff.{up, dn, Diff, diff_self, diff_+, diff_scale, diff_as, diff_≡, diff_≤, ≤_diff, nat_abs_diff, up_or_dn, up_neg, dn_neg, up_pos, dn_pos}
use Rattle.numbers.proofs.RoundZ.{round_biased, round_≥, round_≤, round_half_step}
use Rattle.numbers.proofs.OrderLaws.{within_size, within_test, le_z_refl}
use Rattle.group.specs.Numbers.{value_most, mark, value_fits, is_mark}
use Rattle.cell.specs.declared.Weights.{Weights}
use Rattle.cell.specs.declared.Corners.{Corners}
use Rattle.cell.specs.Cell.{used, used_some, is_beyond, weighted_sum, value_of, weights_of}
use Rattle.cell.specs.Sizes.{Distances, Weighed}
use Rattle.cell.specs.Used.{Unless, EachUsed, SomeUsed, SameUsed}
use Rattle.cell.specs.Unsigned.{summed, blended}
use Rattle.cell.proofs.WeightLaws.{weighed}

unless_map : {w : ℕ} {P Q : Type 0} → (P → Q) → Unless w P → Unless w Q
unless_map f (inl e) = inl e
unless_map f (inr p) = inr (f p)

pub each_map : {P Q : ℤ → Type 0} {w : Weights} {v : Corners} → ((z : ℤ) → P z → Q z) → EachUsed P w v → EachUsed Q w v
each_map {v} f a =
    record {
      at00 = unless_map (f v.v00) a.at00;
      at10 = unless_map (f v.v10) a.at10;
      at01 = unless_map (f v.v01) a.at01;
      at11 = unless_map (f v.v11) a.at11;
    }

-- ---- a test that no used corner passes

pub or_false_left : (a b : Bool) → (a || b) ≡ false → a ≡ false
or_false_left true b e = e
or_false_left false b e = refl

pub or_false_right : (a b : Bool) → (a || b) ≡ false → b ≡ false
or_false_right true b e = absurd (let z : ◌≡◌ {A = ℕ} 0 1 = cc in omega arith)
or_false_right false b e = e

unused_or : (w : ℕ) (t : Bool) → (used w && t) ≡ false → Unless w (t ≡ false)
unused_or w t e = pick (ltb 0 w) refl e
  where
    pick : (b : Bool) → ltb 0 w ≡ b → (b && t) ≡ false → Unless w (t ≡ false)
    pick true h e = inr e
    pick false h e = let k = ltb-false 0 w h in inl (omega arith)

pub none_used : (test : ℤ → Bool) (w : Weights) (v : Corners) → used_some test w v ≡ false → EachUsed (λ z. test z ≡ false) w v
unfolding used_some
none_used test w v e =
    let a = used w.w00 && test v.v00 in
    let b = used w.w10 && test v.v10 in
    let c = used w.w01 && test v.v01 in
    let d = used w.w11 && test v.v11 in
    let h = or_false_left (a || b || c) d e in
    let k = or_false_left (a || b) c h in
    record {
      at00 = unused_or w.w00 (test v.v00) (or_false_left a b k);
      at10 = unused_or w.w10 (test v.v10) (or_false_right a b k);
      at01 = unused_or w.w01 (test v.v01) (or_false_right (a || b) c h);
      at11 = unused_or w.w11 (test v.v11) (or_false_right (a || b || c) d e);
    }

-- used corners that are not beyond the limits
pub none_beyond : (w : Weights) (v : Corners) → used_some is_beyond w v ≡ false → EachUsed (λ z. nat_abs z ≤ value_most) w v
none_beyond w v e = each_map (λ z h. within_size value_most z (not-false (value_fits z) h)) (none_used is_beyond w v e)

-- ---- a test that some used corner passes

-- it is passed exactly where some used corner has the property that it tests
module _ (test : ℤ → Bool) (P : ℤ → Type 0) (tests : (z : ℤ) → (test z ≡ true) ↔ P z) (w : Weights) (v : Corners) where
  abbrev passes : ℕ → ℤ → Bool
  passes n z = used n && test z

  has : (n : ℕ) (z : ℤ) → passes n z ≡ true → (0 < n) × P z
  has n z e = (ltb-true 0 n (and_left (used n) (test z) e), (tests z).0 (and_right (used n) (test z) e))

  passed : (n : ℕ) (z : ℤ) → (0 < n) × P z → passes n z ≡ true
  passed n z h = both (lt-ltb 0 n h.0) ((tests z).1 h.1)

  pub used_some_lem : used_some test w v ≡ true → SomeUsed P w v
  unfolding used_some
  used_some_lem e =
      let a = passes w.w00 v.v00 in let b = passes w.w10 v.v10 in let c = passes w.w01 v.v01 in let d = passes w.w11 v.v11 in
      ⊎_elim
      (λ h.
      ⊎_elim
      (λ k. ⊎_elim (λ m. inl (has w.w00 v.v00 m)) (λ m. inr (inl (has w.w10 v.v10 m))) (or_cases a b k))
      (λ k. inr (inr (inl (has w.w01 v.v01 k))))
      (or_cases (a || b) c h))
      (λ h. inr (inr (inr (has w.w11 v.v11 h))))
      (or_cases (a || b || c) d e)

  pub some_used : SomeUsed P w v → used_some test w v ≡ true
  unfolding used_some
  some_used u =
      let a = passes w.w00 v.v00 in let b = passes w.w10 v.v10 in let c = passes w.w01 v.v01 in let d = passes w.w11 v.v11 in
      ⊎_elim
      (λ h. or_left d (or_left c (or_left b (passed w.w00 v.v00 h))))
      (⊎_elim
      (λ h. or_left d (or_left c (or_right a (passed w.w10 v.v10 h))))
      (⊎_elim
      (λ h. or_left d (or_right (a || b) (passed w.w01 v.v01 h)))
      (λ h. or_right (a || b || c) (passed w.w11 v.v11 h))))
      u

-- what the two tests of a corner say
pub is_mark_lem : (z : ℤ) → (is_mark z ≡ true) ↔ (z ≡ mark)
is_mark_lem z = (one, λ e. subst (λ (y : ℤ). is_mark y ≡ true) (sym e) (both (le_z_refl mark) (le_z_refl mark)))
  where
    one : is_mark z ≡ true → z ≡ mark
    one e =
        let x = ≤_diff {x = mark} {y = z} (record { le = subst T (sym (and_left (le_z mark z) (le_z z mark) e)) tt }) in
        let y = ≤_diff {x = z} {y = mark} (record { le = subst T (sym (and_right (le_z mark z) (le_z z mark) e)) tt }) in
        diff_≡ (omega arith)

pub is_beyond_lem : (z : ℤ) → (is_beyond z ≡ true) ↔ (value_most < nat_abs z)
is_beyond_lem z = (
  λ e. leb-false (nat_abs z) value_most (sym (within_test value_most z) ∙ not-true (value_fits z) e),
  λ h. rw (within_test value_most z ∙ lt-leb (nat_abs z) value_most h) refl,
)

-- ---- a corner of weight 0 changes nothing

used_0 : (w : ℕ) (s t : Bool) → w ≡ 0 → (used w && s) ≡ (used w && t)
used_0 w s t e = rw e refl

test_same : (test : ℤ → Bool) (w : ℕ) (x y : ℤ) → Unless w (x ≡ y) → (used w && test x) ≡ (used w && test y)
test_same test w x y (inl e) = used_0 w (test x) (test y) e
test_same test w x y (inr e) = ap (λ (z : ℤ). used w && test z) e

pub some_same : (test : ℤ → Bool) (w : Weights) (u v : Corners) → SameUsed w u v → used_some test w u ≡ used_some test w v
unfolding used_some
some_same test w u v a i =
    test_same test w.w00 u.v00 v.v00 a.at00 i || test_same test w.w10 u.v10 v.v10 a.at10 i
    || test_same test w.w01 u.v01 v.v01 a.at01 i || test_same test w.w11 u.v11 v.v11 a.at11 i

term_same : (w : ℕ) (x y : ℤ) → Unless w (x ≡ y) → pos w *ℤ x ≡ pos w *ℤ y
term_same w x y (inl e) = ap (λ (n : ℕ). pos n *ℤ x) e ∙ zero-*ℤ x ∙ sym (ap (λ (n : ℕ). pos n *ℤ y) e ∙ zero-*ℤ y)
term_same w x y (inr e) = ap (λ (z : ℤ). pos w *ℤ z) e

pub value_same : (w : Weights) (u v : Corners) → SameUsed w u v → value_of w u ≡ value_of w v
unfolding value_of
value_same w u v a i =
    round_z
    (term_same w.w00 u.v00 v.v00 a.at00 i +ℤ term_same w.w10 u.v10 v.v10 a.at10 i
    +ℤ term_same w.w01 u.v01 v.v01 a.at01 i +ℤ term_same w.w11 u.v11 v.v11 a.at11 i)
    w.total

-- ---- at most half a step from the exact fraction

pub value_half_step : {w : Weights} → Weighed w → (v : Corners)
    → 2 * nat_abs ((pos w.total *ℤ value_of w v) -ℤ weighted_sum w v) ≤ w.total
unfolding value_of
value_half_step {w} p v = round_half_step (weighted_sum w v) w.total p.positive

-- ---- never outside the range of the used corners

term_≤ : (w : ℕ) (x y : ℤ) → Unless w (x ≤ℤ y) → w * up x + w * dn y ≤ w * up y + w * dn x
term_≤ w x y (inl e) =
    let z : (n : ℕ) → w * n ≡ 0 = λ n. ap (λ (m : ℕ). m * n) e ∙ zero-mul n in
    omega (arith, z (up x), z (dn y), z (up y), z (dn x))
term_≤ w x y (inr h) =
    omega (arith, mul-le-mul_left w (≤_diff h), mul-add w (up x) (dn y), mul-add w (up y) (dn x))

-- the weighted sum, in its two parts
module _ (w : Weights) where
  parts : ℕ → ℕ → ℕ → ℕ → ℕ
  parts a b c d = w.w00 * a + w.w10 * b + w.w01 * c + w.w11 * d

  sum_parts : {v : Corners} {a b c d a' b' c' d' : ℕ} → Diff v.v00 a a' → Diff v.v10 b b' → Diff v.v01 c c' → Diff v.v11 d d'
      → Diff (weighted_sum w v) (parts a b c d) (parts a' b' c' d')
  unfolding parts
  sum_parts p q r s = diff_+ (diff_+ (diff_+ (diff_scale w.w00 p) (diff_scale w.w10 q)) (diff_scale w.w01 r)) (diff_scale w.w11 s)

  -- of one number in every corner
  parts_one : Weighed w → (n : ℕ) → parts n n n n ≡ n * w.total
  unfolding parts
  parts_one p n =
      let x = w.w00 in let y = w.w10 in let z = w.w01 in let u = w.w11 in
      let t : (x + y + z + u) * n ≡ w.total * n = ap (λ (m : ℕ). m * n) p.sum in
      omega (arith, add-mul (x + y + z) u n, add-mul (x + y) z n, add-mul x y n, mul_comm n w.total)

module _ {w : Weights} (p : Weighed w) (v : Corners) where
  ends : Diff (weighted_sum w v) (parts w (up v.v00) (up v.v10) (up v.v01) (up v.v11)) (parts w (dn v.v00) (dn v.v10) (dn v.v01) (dn v.v11))
  ends = sum_parts w (diff_self v.v00) (diff_self v.v10) (diff_self v.v01) (diff_self v.v11)

  pub value_least : (l : ℤ) → EachUsed (λ z. l ≤ℤ z) w v → l ≤ℤ value_of w v
  unfolding value_of parts
  value_least l a =
      let m = ends.diff in
      let s = (diff_scale w.total (diff_self l)).diff in
      let t0 = term_≤ w.w00 l v.v00 a.at00 in let t1 = term_≤ w.w10 l v.v10 a.at10 in
      let t2 = term_≤ w.w01 l v.v01 a.at01 in let t3 = term_≤ w.w11 l v.v11 a.at11 in
      round_≥ l (weighted_sum w v) w.total p.positive
      (diff_≤
      (omega (arith, parts_one w p (up l), parts_one w p (dn l), mul_comm (up l) w.total, mul_comm (dn l) w.total)))

  pub value_most_lem : (l : ℤ) → EachUsed (λ z. z ≤ℤ l) w v → value_of w v ≤ℤ l
  unfolding value_of parts
  value_most_lem l a =
      let m = ends.diff in
      let s = (diff_scale w.total (diff_self l)).diff in
      let t0 = term_≤ w.w00 v.v00 l a.at00 in let t1 = term_≤ w.w10 v.v10 l a.at10 in
      let t2 = term_≤ w.w01 v.v01 l a.at01 in let t3 = term_≤ w.w11 v.v11 l a.at11 in
      round_≤ l (weighted_sum w v) w.total p.positive
      (diff_≤
      (omega (arith, parts_one w p (up l), parts_one w p (dn l), mul_comm (up l) w.total, mul_comm (dn l) w.total)))

  -- where every used corner holds one value, as at a node, the cell has that value
  pub value_one : (l : ℤ) → EachUsed (λ z. z ≡ l) w v → value_of w v ≡ l
  value_one l a =
      let x = ≤_diff (value_least l (each_map (λ z e. subst (λ (y : ℤ). l ≤ℤ y) (sym e) (≤ℤ_refl l)) a)) in
      let y = ≤_diff (value_most_lem l (each_map (λ z e. subst (λ (y : ℤ). y ≤ℤ l) (sym e) (≤ℤ_refl l)) a)) in
      diff_≡ (omega arith)

  -- a bound on the used corners bounds the value
  pub value_bound : (m : ℕ) → EachUsed (λ z. nat_abs z ≤ m) w v → nat_abs (value_of w v) ≤ m
  value_bound m a =
      let x = ≤_diff (value_least (neg_ℤ (pos m)) (each_map (λ z h. low z h) a)) in
      let y = ≤_diff (value_most_lem (pos m) (each_map (λ z h. high z h) a)) in
      let n = nat_abs_diff (value_of w v) in
      let u = up_neg (pos m) in let d = dn_neg (pos m) in let u1 = up_pos m in let d1 = dn_pos m in
      ⊎_elim (λ e. omega arith) (λ e. omega arith) (up_or_dn (value_of w v))
    where
      low : (z : ℤ) → nat_abs z ≤ m → neg_ℤ (pos m) ≤ℤ z
      low z h =
          let n = nat_abs_diff z in let u = up_neg (pos m) in let d = dn_neg (pos m) in let u1 = up_pos m in let d1 = dn_pos m in
          diff_≤ (omega arith)

      high : (z : ℤ) → nat_abs z ≤ m → z ≤ℤ pos m
      high z h = let n = nat_abs_diff z in let u1 = up_pos m in let d1 = dn_pos m in diff_≤ (omega arith)

-- ---- at a node, whatever the other corners hold

zero_left : {a : ℕ} (b : ℕ) → a ≡ 0 → a * b ≡ 0
zero_left b e = ap (λ (n : ℕ). n * b) e ∙ zero-mul b

zero_right : (a : ℕ) {b : ℕ} → b ≡ 0 → a * b ≡ 0
zero_right a e = ap (λ (n : ℕ). a * n) e ∙ mul-zero a

module _ {sx sy fx fy : ℕ} (p : Distances sx sy fx fy) (v : Corners) where
  pub node_00 : fx ≡ 0 → fy ≡ 0 → value_of (weights_of sx sy fx fy) v ≡ v.v00
  unfolding weights_of
  node_00 e f =
      value_one (weighed p) v v.v00
      (record { at00 = inr refl; at10 = inl (zero_left _ e); at01 = inl (zero_right _ f); at11 = inl (zero_left _ e) })

  pub node_10 : fx ≡ sx → fy ≡ 0 → value_of (weights_of sx sy fx fy) v ≡ v.v10
  unfolding weights_of
  node_10 e f =
      let g : sx - fx ≡ 0 = omega arith in
      value_one (weighed p) v v.v10
      (record { at00 = inl (zero_left _ g); at10 = inr refl; at01 = inl (zero_left _ g); at11 = inl (zero_right _ f) })

  pub node_01 : fx ≡ 0 → fy ≡ sy → value_of (weights_of sx sy fx fy) v ≡ v.v01
  unfolding weights_of
  node_01 e f =
      let g : sy - fy ≡ 0 = omega arith in
      value_one (weighed p) v v.v01
      (record { at00 = inl (zero_right _ g); at10 = inl (zero_left _ e); at01 = inr refl; at11 = inl (zero_left _ e) })

  pub node_11 : fx ≡ sx → fy ≡ sy → value_of (weights_of sx sy fx fy) v ≡ v.v11
  unfolding weights_of
  node_11 e f =
      let g : sx - fx ≡ 0 = omega arith in let h : sy - fy ≡ 0 = omega arith in
      value_one (weighed p) v v.v11
      (record { at00 = inl (zero_left _ g); at10 = inl (zero_right _ h); at01 = inl (zero_left _ g); at11 = inr refl })

-- ---- the way from signed to unsigned and back

-- shifted, the weighted sum is the sum of the shifted corners; by an even number, the value of the cell is their blend
module _ {w : Weights} (p : Weighed w) where
  pub sum_shifted : {v : Corners} {a b c d : ℕ} (k : ℕ) → Diff v.v00 a k → Diff v.v10 b k → Diff v.v01 c k → Diff v.v11 d k
      → Diff (weighted_sum w v) (summed w a b c d) (k * w.total)
  unfolding parts
  sum_shifted {v} k ha hb hc hd = diff_as (sum_parts w {v = v} ha hb hc hd) (omega (arith, parts_one w p k))

  pub value_shifted : {v : Corners} {a b c d : ℕ} (k : ℕ) → k % 2 ≡ 0 → Diff v.v00 a k → Diff v.v10 b k → Diff v.v01 c k → Diff v.v11 d k
      → Diff (value_of w v) (blended w a b c d) k
  unfolding value_of blended parts
  value_shifted {v} {a} {b} {c} {d} k ev ha hb hc hd =
      round_biased {a = parts w a b c d} w.total k p.positive ev (sum_shifted {v = v} k ha hb hc hd)

  -- a bound on the numbers bounds their sum and their blend
  module _ (m : ℕ) {a b c d : ℕ} (ha : a ≤ m) (hb : b ≤ m) (hc : c ≤ m) (hd : d ≤ m) where
    pub sum_most : summed w a b c d ≤ m * w.total
    unfolding parts
    sum_most =
        let m0 = mul-le-mul_left w.w00 ha in let m1 = mul-le-mul_left w.w10 hb in
        let m2 = mul-le-mul_left w.w01 hc in let m3 = mul-le-mul_left w.w11 hd in
        omega (arith, parts_one w p m)

    pub blend_most : blended w a b c d ≤ m
    unfolding blended
    blend_most = nearest_le m _ w.total p.positive sum_most

  -- of four numbers of half a word
  pub blend_half_word : {a b c d : ℕ} → Fits w32 a → Fits w32 b → Fits w32 c → Fits w32 d → blended w a b c d < 2 ^ 32
  blend_half_word {a} {b} {c} {d} x y z u =
      let m = blend_most 4294967295 {a = a} {b = b} {c = c} {d = d} (omega (arith, x)) (omega (arith, y)) (omega (arith, z)) (omega (arith, u)) in
      omega arith
