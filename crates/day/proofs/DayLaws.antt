-- The day factor and the result: a factor of any kind within its limit, what no functions give, and the bounds that show that 64 bits suffice.
use Prim.Native.Nat.{ℕ, zero, suc, ◌+◌, ◌*◌, ◌≤◌, ◌<◌}
use mathlib.Core.Bool.{true, cond, ◌&&◌}
use mathlib.Core.Path.{◌≡◌, refl, sym, ap, ap₂, ◌∙◌, subst}
use mathlib.Core.Logic.{⊎_elim}
use mathlib.Core.List.{List}
use native.Mathlib.Nat.{suc-mul, mul-le-mul}
use native.Mathlib.Numerals.{add-one}
use native.Mathlib.Decide.{dec_lt}
use native.Mathlib.Omega.{arith}
use borrow.Author.Tests.{eq-eqb, ne_eqb}
use lib.Dec.{T, eqb}
use lib.IntN.{ℤ, pos, ◌+ℤ◌, ◌-ℤ◌, ◌*ℤ◌, nat_abs, *ℤ_comm}
use lib.ListN.{get_or}
use lib.Signed.{le_z, lt_z, lt_z_yes}
use mir.Syntax.{w64}
use mir.Val.{SFits}
use mir.ValLaws.{to_z-of_z}
use Rattle.numbers.specs.Round.{round_z}
use Rattle.numbers.proofs.Diff.{up, dn, up_or_dn, up_pos, dn_pos, diff__, diff_self, nat_abs_diff, <_diff}
use Rattle.numbers.proofs.RoundZ.{round_multiple}
use Rattle.numbers.proofs.Machine.{through}
use Rattle.numbers.proofs.OrderLaws.{within_size, size_fits, size_add, size_mul}
use Rattle.numbers.proofs.Bools.{and_left, and_right}
use Rattle.group.specs.declared.Shape.{Shape}
use Rattle.group.specs.declared.Shape.TheVariants as S
use Rattle.group.specs.declared.Function.{Function}
use Rattle.group.specs.Numbers.{functions_most, value_most, day_most, day_fits, factor_one, function_factor_most, function_factor_fits, factor_most, result_most}
use Rattle.group.specs.Limits.{ramp_numbers_fit, step_numbers_fit, ramp2_numbers_fit, shape_fits, function_fits}
use Rattle.group.specs.Blank.{blank_function}
use Rattle.flat.specs.Functions.{function_in}
use Rattle.day.specs.Flat.{factor_in}
use Rattle.day.specs.Day.{ramp_factor, step_parts, ramp2_parts, relative, shape_factor, function_factor, sum_of, factor_of, result_of}
use Rattle.numbers.proofs.RoundLaws.{round_bound}
use Rattle.numbers.proofs.SignedLaws.{held, pick, above, gap, way, size_sum}

-- ---- the numbers of a function within its limits

pub record RampSizes (a s0 b s1 : ℤ) : Type 0 where
  pub a_most : nat_abs a ≤ day_most
  pub b_most : nat_abs b ≤ day_most
  pub s0_most : nat_abs s0 ≤ function_factor_most
  pub s1_most : nat_abs s1 ≤ function_factor_most

pub ramp_sizes : (a s0 b s1 : ℤ) → ramp_numbers_fit a s0 b s1 ≡ true → RampSizes a s0 b s1
ramp_sizes a s0 b s1 e =
    let p = day_fits a in let q = function_factor_fits s0 in let r = day_fits b in let s = function_factor_fits s1 in
    let e4 = and_left (p && q && r && s) (le_z a b) e in
    let e3 = and_left (p && q && r) s e4 in
    let e2 = and_left (p && q) r e3 in
    record {
      a_most = within_size day_most a (and_left p q e2);
      b_most = within_size day_most b (and_right (p && q) r e3);
      s0_most = within_size function_factor_most s0 (and_right p q e2);
      s1_most = within_size function_factor_most s1 (and_right (p && q && r) s e4);
    }

pub step_size : (event reference mult : ℤ) → step_numbers_fit event reference mult ≡ true → nat_abs mult ≤ function_factor_most
step_size event reference mult e = within_size function_factor_most mult (and_right (day_fits event && day_fits reference) (function_factor_fits mult) e)

pub record Ramp2Sizes (start end mult : ℤ) : Type 0 where
  pub start_most : nat_abs start ≤ day_most
  pub end_most : nat_abs end ≤ day_most
  pub mult_most : nat_abs mult ≤ function_factor_most
  pub start_below : up start + dn end < up end + dn start

pub ramp2_sizes : (start end reference mult : ℤ) → ramp2_numbers_fit start end reference mult ≡ true → Ramp2Sizes start end mult
ramp2_sizes start end reference mult e =
    let p = day_fits start in let q = day_fits end in let r = day_fits reference in let s = function_factor_fits mult in
    let e4 = and_left (p && q && r && s) (lt_z start end) e in
    let e2 = and_left (p && q) r (and_left (p && q && r) s e4) in
    record {
      start_most = within_size day_most start (and_left p q e2);
      end_most = within_size day_most end (and_right p q e2);
      mult_most = within_size function_factor_most mult (and_right (p && q && r) s e4);
      start_below = <_diff (lt_z_yes (subst T (sym (and_right (p && q && r && s) (lt_z start end) e)) tt));
    }

-- ---- the range of one factor

module _ (m : ℕ) where
  ramp_bound : (a s0 b s1 t : ℤ) → nat_abs s0 ≤ m → nat_abs s1 ≤ m → nat_abs (ramp_factor a s0 b s1 t) ≤ m
  unfolding ramp_factor
  ramp_bound a s0 b s1 t h0 h1 =
      let P : ℤ → Type 0 = λ z. nat_abs z ≤ m in
      pick P (le_z b t) (λ e. h1) (λ e. pick P (le_z t a) (λ f. h0) (λ f.
      round_bound m (nat_abs (b -ℤ a)) _ (rw (sym (way a t b f e)) (size_sum m s0 s1 (b -ℤ t) (t -ℤ a) h0 h1))))

-- the plain function lies from 0 to its whole
pub record Part (whole : ℕ) (z : ℤ) : Type 0 where
  pub from_zero : dn z ≡ 0
  pub most : up z ≤ whole

part_pos : (whole n : ℕ) → n ≤ whole → Part whole (pos n)
part_pos whole n h = record { from_zero = dn_pos n; most = omega (arith, up_pos n) }

pub step_part : (event t : ℤ) → Part 1 (step_parts event t)
step_part event t = pick (Part 1) (le_z event t) (λ e. part_pos 1 1 (omega arith)) (λ e. part_pos 1 0 (omega arith))

pub ramp2_part : (start end t : ℤ) → up start + dn end ≤ up end + dn start → Part (nat_abs (end -ℤ start)) (ramp2_parts start end t)
ramp2_part start end t h =
    let w = nat_abs (end -ℤ start) in let g = (gap end start h).1 in let n = nat_abs_diff (end -ℤ start) in
    pick (Part w) (le_z end t) (λ e. record { from_zero = g; most = omega arith })
    (λ e. pick (Part w) (le_z t start) (λ f. part_pos w 0 (omega arith)) (λ f.
    let k = above t start f in let l = nat_abs_diff (t -ℤ start) in let v = way start t end f e in
    record { from_zero = (gap t start (omega arith)).1; most = omega arith }))

pub part_less : {whole : ℕ} (x y : ℤ) → Part whole x → Part whole y → nat_abs (x -ℤ y) ≤ whole
part_less x y p q =
    let d = (diff__ (diff_self x) (diff_self y)).diff in let n = nat_abs_diff (x -ℤ y) in
    let p0 = p.from_zero in let p1 = p.most in let q0 = q.from_zero in let q1 = q.most in
    ⊎_elim (λ e. omega arith) (λ e. omega arith) (up_or_dn (x -ℤ y))

pub relative_size : (m whole : ℕ) (mult x y : ℤ) → nat_abs mult ≤ m → Part whole x → Part whole y → nat_abs (mult *ℤ (x -ℤ y)) ≤ m * whole
relative_size m whole mult x y h p q = let k = mul-le-mul h (part_less x y p q) in omega (arith, size_mul mult (x -ℤ y))

-- MULT times a difference of two parts, as the machine holds it: p and q stand for the parts x and y
pub record Gained (mult p q x y : ℤ) : Type 0 where
  pub less_is : held p -ℤ held q ≡ x -ℤ y
  pub less_fits : SFits w64 (x -ℤ y)
  pub times_is : held mult *ℤ held (held p -ℤ held q) ≡ mult *ℤ (x -ℤ y)
  pub times_fits : SFits w64 (mult *ℤ (x -ℤ y))

pub gained : (whole : ℕ) (mult : ℤ) {p q x y : ℤ} → whole ≤ 2 * day_most → nat_abs mult ≤ function_factor_most → SFits w64 mult
    → held p ≡ x → held q ≡ y → Part whole x → Part whole y → Gained mult p q x y
gained whole mult {p} {q} {x} {y} l h f e g u v =
    let i : held p -ℤ held q ≡ x -ℤ y = ap₂ ◌-ℤ◌ e g in
    let j : SFits w64 (x -ℤ y) = size_fits (x -ℤ y) (omega (arith, part_less x y u v)) in
    record {
      less_is = i;
      less_fits = j;
      times_is = ap₂ ◌*ℤ◌ (to_z-of_z w64 mult f) (through w64 i j);
      times_fits = size_fits (mult *ℤ (x -ℤ y)) (omega (arith, relative_size function_factor_most whole mult x y h u v));
    }

relative_bound : (m whole : ℕ) (parts : ℤ → ℤ) (reference mult t : ℤ) → nat_abs mult ≤ m → ((u : ℤ) → Part whole (parts u))
    → nat_abs (relative parts whole reference mult t) ≤ m
unfolding relative
relative_bound m whole parts reference mult t h p = round_bound m whole _ (relative_size m whole mult _ _ h (p t) (p reference))

-- one law for all kinds
shape_bound : (s : Shape) (t : ℤ) → shape_fits s ≡ true → nat_abs (shape_factor s t) ≤ function_factor_most
unfolding shape_factor
shape_bound (S.Ramp r) t e =
    let z = ramp_sizes r.a r.s0 r.b r.s1 e in
    ramp_bound function_factor_most r.a r.s0 r.b r.s1 t z.s0_most z.s1_most
shape_bound (S.Step s) t e =
    relative_bound function_factor_most 1 (step_parts s.event) s.reference s.mult t
    (step_size s.event s.reference s.mult e) (step_part s.event)
shape_bound (S.Ramp2 r) t e =
    let z = ramp2_sizes r.start r.end r.reference r.mult e in
    relative_bound function_factor_most (nat_abs (r.end -ℤ r.start)) (ramp2_parts r.start r.end) r.reference r.mult t z.mult_most
    (λ u. ramp2_part r.start r.end u (let k = z.start_below in omega arith))

pub function_bound : (f : Function) (t : ℤ) → function_fits f ≡ true → nat_abs (function_factor f t) ≤ function_factor_most
function_bound f t e = shape_bound f.shape t e

-- ---- the sum of the factors

pub sum_none : (f : ℕ → ℤ) → sum_of f 0 ≡ pos 0
unfolding sum_of
sum_none f = refl

pub sum_more : (f : ℕ → ℤ) (n : ℕ) → sum_of f (n + 1) ≡ sum_of f n +ℤ f n
unfolding sum_of
sum_more f n = rw (add-one n)

pub sum_bound : (f : ℕ → ℤ) (m n : ℕ) → ((i : ℕ) → i < n → nat_abs (f i) ≤ m) → nat_abs (sum_of f n) ≤ n * m
unfolding sum_of
sum_bound f m zero h = omega arith
sum_bound f m (suc n) h =
    let a = size_add (sum_of f n) (f n) in let b = sum_bound f m n (λ i l. h i (omega arith)) in let c = h n (omega arith) in
    omega (arith, suc-mul n m)

module _ (functions : List Function) (t : ℤ) where
  -- with no functions 1
  pub factor_none : (n : ℕ) → n ≡ 0 → factor_of functions n t ≡ pos factor_one
  unfolding factor_of
  factor_none n e = rw (eq-eqb n 0 e)

  pub factor_some : (n : ℕ) → (n ≡ 0 → ⊥) → factor_of functions n t ≡ sum_of (λ i. function_factor (get_or functions i blank_function) t) n
  unfolding factor_of
  factor_some n h = rw (ne_eqb n 0 h)

  pub factor_bound : (n : ℕ) → n ≤ functions_most → ((i : ℕ) → i < n → function_fits (get_or functions i blank_function) ≡ true) → nat_abs (factor_of functions n t) ≤ factor_most
  factor_bound n h fit = go (dec_lt 0 n)
    where
      go : Dec (0 < n) → nat_abs (factor_of functions n t) ≤ factor_most
      go (no e) = rw (factor_none n (omega arith)) (omega arith)
      go (yes e) =
          rw (factor_some n (λ z. omega arith))
          (let b = sum_bound (λ i. function_factor (get_or functions i blank_function) t) function_factor_most n (λ i l. function_bound (get_or functions i blank_function) t (fit i l)) in
          omega arith)

pub sum_same : (f h : ℕ → ℤ) (n : ℕ) → ((i : ℕ) → i < n → f i ≡ h i) → sum_of f n ≡ sum_of h n
unfolding sum_of
sum_same f h zero e = refl
sum_same f h (suc n) e = ap₂ ◌+ℤ◌ (sum_same f h n (λ i l. e i (omega arith))) (e n (omega arith))

-- functions whose factors agree
pub factor_same : (fs hs : List Function) (n : ℕ) (t : ℤ)
    → ((i : ℕ) → i < n → function_factor (get_or fs i blank_function) t ≡ function_factor (get_or hs i blank_function) t) → factor_of fs n t ≡ factor_of hs n t
unfolding factor_of
factor_same fs hs n t e = ap (cond (eqb n 0) (pos factor_one)) (sum_same _ _ n e)

-- ---- the same of a flat list

pub flat_none : (functions : List ℤ) (t : ℤ) (n : ℕ) → n ≡ 0 → factor_in functions n t ≡ pos factor_one
unfolding factor_in
flat_none functions t n e = rw (eq-eqb n 0 e)

pub flat_some : (functions : List ℤ) (t : ℤ) (n : ℕ) → (n ≡ 0 → ⊥) → factor_in functions n t ≡ sum_of (λ i. function_factor (function_in functions i) t) n
unfolding factor_in
flat_some functions t n h = rw (ne_eqb n 0 h)

-- the flat list's factor is the record's
pub flat_factor : (list : List ℤ) (functions : List Function) (n : ℕ) (t : ℤ) → ((i : ℕ) → i < n → function_in list i ≡ get_or functions i blank_function)
    → factor_in list n t ≡ factor_of functions n t
unfolding factor_in factor_of
flat_factor list functions n t e =
    ap (cond (eqb n 0) (pos factor_one))
    (sum_same (λ i. function_factor (function_in list i) t) (λ i. function_factor (get_or functions i blank_function) t) n (λ i l. ap (λ f. function_factor f t) (e i l)))

-- ---- the result

-- with no functions the result is the value
pub result_plain : (v : ℤ) → result_of v (pos factor_one) ≡ v
unfolding result_of
result_plain v = ap (λ (z : ℤ). round_z z factor_one) (*ℤ_comm v (pos factor_one)) ∙ round_multiple v factor_one (omega arith)

pub result_bound : (v f : ℤ) → nat_abs v ≤ value_most → nat_abs f ≤ factor_most → nat_abs (result_of v f) ≤ result_most
unfolding result_of
result_bound v f h k = round_bound result_most factor_one (v *ℤ f) (let m = mul-le-mul h k in omega (arith, size_mul v f))
