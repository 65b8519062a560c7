-- Order 7 holds of the factor.
use Prim.Native.Nat.{ℕ, ◌+◌, ◌<◌}
use mathlib.Core.Path.{◌≡◌, refl, sym, ap, ◌∙◌}
use mathlib.Core.Bool.{Bool, true, false, cond}
use native.Mathlib.Nat.{mul-add, mul-le-mul_left}
use native.Mathlib.Omega.{arith}
use lib.IntN.{ℤ, pos, neg_ℤ, ◌+ℤ◌, ◌-ℤ◌, ◌*ℤ◌, nat_abs, one, +ℤ_idl, +ℤ_idr, +ℤ_invr, zero-*ℤ, *ℤ-zero, *ℤ-one, *ℤ-negsuc, *ℤ_comm}
use lib.Signed.{◌≤ℤ◌, ◌<ℤ◌, le_z, yes_non_neg, pos-nat_abs}
use Rattle.numbers.specs.Round.{round_z}
use Rattle.numbers.proofs.Diff.{up, dn, up_pos, dn_pos, ≤_diff, <_diff, diff_≤, diff_<, diff_≡, diff__, diff_self, diff_scale, nat_abs_diff}
use Rattle.numbers.proofs.RoundZ.{round_multiple}
use Rattle.group.specs.declared.Step.{Step}
use Rattle.group.specs.declared.Ramp2.{Ramp2}
use Rattle.day.specs.Day.{ramp_factor, step_parts, ramp2_parts, relative, shape_factor}
use Rattle.day.specs.Order7.{StepFactors, Ramp2Factors, ZeroOnReference, NeverFalls, OldRamp, NoFunctions, OneRange, SumRange}
use Rattle.numbers.proofs.RoundLaws.{round_none, round_whole, round_mono}
use Rattle.numbers.proofs.SignedLaws.{pick, above, not_above, is_above, is_not_above, gap}
use Rattle.day.proofs.DayLaws.{ramp2_part, function_bound, factor_none, factor_bound}

-- ---- a step, case by case

pub step_factors : (s : Step) (t : ℤ) → StepFactors s t
unfolding shape_factor relative one
step_factors s t =
    record {
      leapt = λ h k. rw (is_not_above s.event t h, is_above s.event s.reference k) (round_whole _ ∙ *ℤ-one s.mult);
      yet_to_leap =
          λ h k. rw (is_above s.event t h, is_not_above s.event s.reference k)
          (round_whole _ ∙ *ℤ-negsuc s.mult 0 ∙ ap neg_ℤ (*ℤ-one s.mult));
      both_after = λ h k. rw (is_not_above s.event t h, is_not_above s.event s.reference k) (round_whole _ ∙ *ℤ-zero s.mult);
      both_before = λ h k. rw (is_above s.event t h, is_above s.event s.reference k) (round_whole _ ∙ *ℤ-zero s.mult);
    }

-- ---- a ramp2, case by case

module _ (start end : ℤ) (w : start <ℤ end) where
  parts_before : (t : ℤ) → t ≤ℤ start → ramp2_parts start end t ≡ pos 0
  parts_before t h =
      let s = <_diff w in let l = ≤_diff h in let k : t <ℤ end = diff_< (omega arith) in
      rw (is_above end t k, is_not_above t start h)

  parts_after : (t : ℤ) → end ≤ℤ t → ramp2_parts start end t ≡ end -ℤ start
  parts_after t h = rw (is_not_above end t h)

  parts_between : (t : ℤ) → start ≤ℤ t → t ≤ℤ end → ramp2_parts start end t ≡ t -ℤ start
  parts_between t h k =
      let a = ≤_diff h in let b = ≤_diff k in
      let p = (diff__ (diff_self end) (diff_self start)).diff in let q = (diff__ (diff_self t) (diff_self start)).diff in
      pick (λ z. z ≡ t -ℤ start) (le_z end t)
      (λ e. let c = not_above end t e in diff_≡ (omega arith))
      (λ e. pick (λ z. z ≡ t -ℤ start) (le_z t start)
      (λ f. let c = not_above t start f in let u = up_pos 0 in let v = dn_pos 0 in diff_≡ (omega arith))
      (λ f. refl))

-- two ends of one way
apart : (x y z : ℤ) → (x -ℤ z) -ℤ (y -ℤ z) ≡ x -ℤ y
apart x y z =
    let p = (diff__ (diff_self x) (diff_self z)).diff in let q = (diff__ (diff_self y) (diff_self z)).diff in
    let r = (diff__ (diff_self (x -ℤ z)) (diff_self (y -ℤ z))).diff in let s = (diff__ (diff_self x) (diff_self y)).diff in
    diff_≡ (omega arith)

pub ramp2_factors : (r : Ramp2) (t : ℤ) → r.start <ℤ r.end → Ramp2Factors r t
unfolding shape_factor relative
ramp2_factors r t w =
    let parts = ramp2_parts r.start r.end in let whole = nat_abs (r.end -ℤ r.start) in
    let same : (x : ℤ) → x ≤ℤ x = λ x. diff_≤ (omega arith) in
    let by-day : ℤ → ℤ = λ z. round_z (r.mult *ℤ (z -ℤ parts r.reference)) whole in
    let by-reference : ℤ → ℤ = λ z. round_z (r.mult *ℤ (parts t -ℤ z)) whole in
    let first : (x : ℤ) → x ≤ℤ r.start → parts x ≡ parts r.start =
    λ x h. parts_before r.start r.end w x h ∙ sym (parts_before r.start r.end w r.start (same r.start)) in
    let last : (x : ℤ) → r.end ≤ℤ x → parts x ≡ parts r.end =
    λ x h. parts_after r.start r.end w x h ∙ sym (parts_after r.start r.end w r.end (same r.end)) in
    record {
      between = λ a b c d.
          let p = parts_between r.start r.end w t a b in let q = parts_between r.start r.end w r.reference c d in
          (λ i. round_z (r.mult *ℤ (p i -ℤ q i)) whole) ∙ ap (λ (z : ℤ). round_z (r.mult *ℤ z) whole) (apart t r.reference r.start);
      day_before = λ h. ap by-day (first t h);
      day_after = λ h. ap by-day (last t h);
      reference_before = λ h. ap by-reference (first r.reference h);
      reference_after = λ h. ap by-reference (last r.reference h);
    }

-- ---- 0 on REF

relative_zero : (parts : ℤ → ℤ) (whole : ℕ) (reference mult : ℤ) → relative parts whole reference mult reference ≡ pos 0
unfolding relative
relative_zero parts whole reference mult =
    ap (λ (z : ℤ). round_z (mult *ℤ z) whole) (+ℤ_invr (parts reference)) ∙ ap (λ (z : ℤ). round_z z whole) (*ℤ-zero mult) ∙ round_none whole

pub zero_on_reference : ZeroOnReference
unfolding shape_factor
zero_on_reference = (λ s. relative_zero _ 1 s.reference s.mult, λ r. relative_zero _ _ r.reference r.mult)

-- ---- it never falls

less_mono : (x y z : ℤ) → x ≤ℤ y → (x -ℤ z) ≤ℤ (y -ℤ z)
less_mono x y z h =
    let k = ≤_diff h in let p = (diff__ (diff_self x) (diff_self z)).diff in let q = (diff__ (diff_self y) (diff_self z)).diff in
    diff_≤ (omega arith)

times_mono : (m : ℕ) (x y : ℤ) → x ≤ℤ y → (pos m *ℤ x) ≤ℤ (pos m *ℤ y)
times_mono m x y h =
    let k = mul-le-mul_left m (≤_diff h) in let p = (diff_scale m (diff_self x)).diff in let q = (diff_scale m (diff_self y)).diff in
    diff_≤ (omega (arith, mul-add m (up x) (dn y), mul-add m (up y) (dn x)))

relative_mono : (parts : ℤ → ℤ) (whole : ℕ) (reference mult t u : ℤ) → pos 0 ≤ℤ mult → parts t ≤ℤ parts u
    → relative parts whole reference mult t ≤ℤ relative parts whole reference mult u
unfolding relative
relative_mono parts whole reference mult t u h k =
    rw (sym (pos-nat_abs mult (yes_non_neg h)))
    (round_mono _ _ whole (times_mono (nat_abs mult) _ _ (less_mono (parts t) (parts u) (parts reference) k)))

step_mono : (event t u : ℤ) → t ≤ℤ u → step_parts event t ≤ℤ step_parts event u
step_mono event t u h =
    let l = ≤_diff h in
    pick (λ z. z ≤ℤ step_parts event u) (le_z event t)
    (λ e.
    pick (λ z. pos 1 ≤ℤ z) (le_z event u) (λ f. record { le = tt })
    (λ f. let a = not_above event t e in let b = above event u f in absurd (omega arith)))
    (λ e. pick (λ z. pos 0 ≤ℤ z) (le_z event u) (λ f. record { le = tt }) (λ f. record { le = tt }))

ramp2_mono : (start end t u : ℤ) → start <ℤ end → t ≤ℤ u → ramp2_parts start end t ≤ℤ ramp2_parts start end u
ramp2_mono start end t u w h =
    let s = <_diff w in let l = ≤_diff h in
    let p = ramp2_part start end t (omega arith) in let p0 = p.from_zero in let p1 = p.most in
    let whole = (gap end start (omega arith)).1 in let n = nat_abs_diff (end -ℤ start) in
    pick (λ z. ramp2_parts start end t ≤ℤ z) (le_z end u)
    (λ e. diff_≤ (omega arith))
    (λ e. let b = above end u e in
    pick (λ z. ramp2_parts start end t ≤ℤ z) (le_z u start)
    (λ f. let c = not_above u start f in early (pos 0) (omega arith) (record { le = tt }) (λ g. let a = above t start g in absurd (omega arith)))
    (λ f. let c = above u start f in let d = (gap u start (omega arith)).1 in let x = up_pos 0 in let y = dn_pos 0 in
    early (u -ℤ start) (omega arith) (diff_≤ (omega arith)) (λ g. less_mono t u start h)))
  where
    -- of a day before END
    early : (v : ℤ) → up t + dn end < up end + dn t → pos 0 ≤ℤ v → (le_z t start ≡ false → (t -ℤ start) ≤ℤ v) → ramp2_parts start end t ≤ℤ v
    early v k z f =
        pick (λ x. x ≤ℤ v) (le_z end t) (λ e. let a = not_above end t e in absurd (omega arith))
        (λ e. pick (λ x. x ≤ℤ v) (le_z t start) (λ g. z) (λ g. f g))

pub never_falls : NeverFalls
unfolding shape_factor
never_falls t u h = (
  λ s m. relative_mono (step_parts s.event) 1 s.reference s.mult t u m (step_mono s.event t u h),
  λ r w m. relative_mono (ramp2_parts r.start r.end) _ r.reference r.mult t u m (ramp2_mono r.start r.end t u w h),
)

-- ---- the old ramp

-- where the plain function at REF is 0, for each outcome of the two tests of the day
module _ (start end mult t : ℤ) (w : start <ℤ end) where
  abbrev length : ℕ
  length = nat_abs (end -ℤ start)

  days : (end -ℤ start ≡ pos length) × (0 < length)
  days =
      let s = <_diff w in let g = gap end start (omega arith) in
      let z : pos 0 ≤ℤ (end -ℤ start) = let x = up_pos 0 in let y = dn_pos 0 in let e = g.1 in diff_≤ (omega arith) in
      (sym (pos-nat_abs (end -ℤ start) (yes_non_neg z)), omega (arith, g.0))

  same : (b c : Bool) → round_z (mult *ℤ cond b (end -ℤ start) (cond c (pos 0) (t -ℤ start))) length
      ≡ cond b mult (cond c (pos 0) (round_z (pos 0 *ℤ (end -ℤ t) +ℤ mult *ℤ (t -ℤ start)) length))
  same true c =
      ap (λ (z : ℤ). round_z z length) (*ℤ_comm mult (end -ℤ start) ∙ ap (λ (z : ℤ). z *ℤ mult) days.0) ∙ round_multiple mult length days.1
  same false true = ap (λ (z : ℤ). round_z z length) (*ℤ-zero mult) ∙ round_none length
  same false false =
      ap (λ (z : ℤ). round_z z length) (sym (ap (λ (z : ℤ). z +ℤ mult *ℤ (t -ℤ start)) (zero-*ℤ (end -ℤ t)) ∙ +ℤ_idl (mult *ℤ (t -ℤ start))))

pub old_ramp : OldRamp
unfolding shape_factor relative ramp_factor
old_ramp r t w h =
    let s = <_diff w in let l = ≤_diff h in let k : r.reference <ℤ r.end = diff_< (omega arith) in
    rw (is_above r.end r.reference k, is_not_above r.reference r.start h)
    (ap (λ (z : ℤ). round_z (r.mult *ℤ z) (nat_abs (r.end -ℤ r.start))) (+ℤ_idr (ramp2_parts r.start r.end t))
    ∙ same r.start r.end r.mult t w (le_z r.end t) (le_z t r.start))

-- ---- none

pub no_functions : NoFunctions
no_functions functions t = factor_none functions t 0 refl

-- ---- ranges

pub one_range : OneRange
one_range = function_bound

pub sum_range : SumRange
sum_range functions n t h fit = factor_bound functions t n h fit
