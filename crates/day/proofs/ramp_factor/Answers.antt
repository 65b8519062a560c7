-- `ramp_factor` meets its contract.
use borrow.Author.Rules.{rules}
use Prim.Native.Nat.{◌*◌, ◌≤◌}
use mathlib.Core.Path.{◌≡◌, refl, sym, ◌∙◌, subst}
use mathlib.Core.Bool.{false}
use native.Mathlib.Nat.{mul-le-mul}
use native.Mathlib.Omega.{arith}
use lib.IntN.{ℤ, ◌+ℤ◌, ◌-ℤ◌, ◌*ℤ◌, nat_abs}
use lib.Signed.{le_z}
use mir.Syntax.{w64}
use mir.Val.{SFits}
use mir.ValLaws.{to_z-of_z}
use Rattle.numbers.specs.Round.{round_z}
use Rattle.numbers.proofs.Machine.{through}
use Rattle.numbers.proofs.OrderLaws.{size_fits, size_mul}
use Rattle.group.specs.Numbers.{day_most, function_factor_most}
use Rattle.day.specs.Day.{ramp_factor}
use Rattle.numbers.proofs.SignedLaws.{held, tested, gap_is, above, size_less, gap_positive, way, size_sum}
use Rattle.day.proofs.DayLaws.{RampSizes, ramp_sizes}
use Rattle.day.proofs.ramp_factor.Goals as goal
use Rattle.day.proofs.ramp_factor.Goals.{Else-day-a}

-- what fits between the two days
record Sloped (a s0 b s1 t : ℤ) : Type 0 where
  left : SFits w64 (b -ℤ t)
  right : SFits w64 (t -ℤ a)
  whole : SFits w64 (b -ℤ a)
  first : SFits w64 (s0 *ℤ (b -ℤ t))
  second : SFits w64 (s1 *ℤ (t -ℤ a))
  sum : SFits w64 (s0 *ℤ (b -ℤ t) +ℤ s1 *ℤ (t -ℤ a))
  sum_most : nat_abs (s0 *ℤ (b -ℤ t) +ℤ s1 *ℤ (t -ℤ a)) ≤ function_factor_most * nat_abs (b -ℤ a)
  whole_most : nat_abs (b -ℤ a) ≤ 2 * day_most

sloped : (a s0 b s1 t : ℤ) → RampSizes a s0 b s1 → le_z b t ≡ false → le_z t a ≡ false → Sloped a s0 b s1 t
sloped a s0 b s1 t z e f =
    let v = way a t b f e in let za = z.a_most in let zb = z.b_most in
    let l : nat_abs (b -ℤ a) ≤ 2 * day_most = omega (arith, size_less b a) in
    let m = size_sum function_factor_most s0 s1 (b -ℤ t) (t -ℤ a) z.s0_most z.s1_most in
    let n : nat_abs (s0 *ℤ (b -ℤ t) +ℤ s1 *ℤ (t -ℤ a)) ≤ function_factor_most * nat_abs (b -ℤ a) = rw (sym v) m in
    let hl : nat_abs (b -ℤ t) ≤ 2 * day_most = omega arith in let hr : nat_abs (t -ℤ a) ≤ 2 * day_most = omega arith in
    let p = mul-le-mul z.s0_most hl in let q = mul-le-mul z.s1_most hr in
    record {
      left = size_fits _ (omega arith);
      right = size_fits _ (omega arith);
      whole = size_fits _ (omega arith);
      first = size_fits _ (omega (arith, size_mul s0 (b -ℤ t)));
      second = size_fits _ (omega (arith, size_mul s1 (t -ℤ a)));
      sum = size_fits _ (omega arith);
      sum_most = n;
      whole_most = l;
    }

pub returns-then-b-day : goal.returns-then-b-day
unfolding ramp_factor
returns-then-b-day c =
    rw (tested c.args.r.b c.args.day (search rules) c.ranges.day c.if-b-day.true) (to_z-of_z w64 c.args.r.s1 (search rules))

pub returns-then-day-a : goal.returns-then-day-a
unfolding ramp_factor
returns-then-day-a c =
    rw (
      tested c.args.r.b c.args.day (search rules) c.ranges.day c.if-b-day.false,
      tested c.args.day c.args.r.a c.ranges.day (search rules) c.if-day-a.true,
    )
    (to_z-of_z w64 c.args.r.s0 (search rules))

module _ (c : Else-day-a) where
  before_b : le_z c.args.r.b c.args.day ≡ false
  before_b = tested c.args.r.b c.args.day (search rules) c.ranges.day c.if-b-day.false

  behind_a : le_z c.args.day c.args.r.a ≡ false
  behind_a = tested c.args.day c.args.r.a c.ranges.day (search rules) c.if-day-a.false

  facts : Sloped c.args.r.a c.args.r.s0 c.args.r.b c.args.r.s1 c.args.day
  facts =
      sloped c.args.r.a c.args.r.s0 c.args.r.b c.args.r.s1 c.args.day
      (ramp_sizes c.args.r.a c.args.r.s0 c.args.r.b c.args.r.s1 c.requires) before_b behind_a

  -- each operation, and what is read of it
  left_is : held c.args.r.b -ℤ held c.args.day ≡ c.args.r.b -ℤ c.args.day
  left_is = gap_is c.args.r.b c.args.day (search rules) c.ranges.day

  first_is : held c.args.r.s0 *ℤ held (held c.args.r.b -ℤ held c.args.day) ≡ c.args.r.s0 *ℤ (c.args.r.b -ℤ c.args.day)
  first_is i = to_z-of_z w64 c.args.r.s0 (search rules) i *ℤ through w64 left_is facts.left i

  right_is : held c.args.day -ℤ held c.args.r.a ≡ c.args.day -ℤ c.args.r.a
  right_is = gap_is c.args.day c.args.r.a c.ranges.day (search rules)

  second_is : held c.args.r.s1 *ℤ held (held c.args.day -ℤ held c.args.r.a) ≡ c.args.r.s1 *ℤ (c.args.day -ℤ c.args.r.a)
  second_is i = to_z-of_z w64 c.args.r.s1 (search rules) i *ℤ through w64 right_is facts.right i

  sum_is : held (held c.args.r.s0 *ℤ held (held c.args.r.b -ℤ held c.args.day))
      +ℤ held (held c.args.r.s1 *ℤ held (held c.args.day -ℤ held c.args.r.a))
      ≡ c.args.r.s0 *ℤ (c.args.r.b -ℤ c.args.day) +ℤ c.args.r.s1 *ℤ (c.args.day -ℤ c.args.r.a)
  sum_is i = through w64 first_is facts.first i +ℤ through w64 second_is facts.second i

  whole_is : held c.args.r.b -ℤ held c.args.r.a ≡ c.args.r.b -ℤ c.args.r.a
  whole_is = gap_is c.args.r.b c.args.r.a (search rules) (search rules)

pub overflow_sub-b : goal.overflow_sub-b
overflow_sub-b c = let e = (goal.at.overflow_sub-b c).Else-day-a in subst (SFits w64) (sym (left_is e)) (facts e).left

pub overflow_mul-s0 : goal.overflow_mul-s0
overflow_mul-s0 c = let e = (goal.at.overflow_mul-s0 c).Else-day-a in subst (SFits w64) (sym (first_is e)) (facts e).first

pub overflow_mul-s1 : goal.overflow_mul-s1
overflow_mul-s1 c = let e = (goal.at.overflow_mul-s1 c).Else-day-a in subst (SFits w64) (sym (second_is e)) (facts e).second

pub overflow_add-s0 : goal.overflow_add-s0
overflow_add-s0 c = let e = (goal.at.overflow_add-s0 c).Else-day-a in subst (SFits w64) (sym (sum_is e)) (facts e).sum

pub rounded-requires : goal.rounded-requires
rounded-requires c =
    let e = (goal.at.rounded-requires c).Else-day-a in let s = c.args in let l = (facts e).whole_most in
    let h = above s.r.b s.day (before_b e) in let k = above s.day s.r.a (behind_a e) in
    rw (through w64 (sum_is e) (facts e).sum, through w64 (whole_is e) (facts e).whole)
    (gap_positive s.r.b s.r.a (omega arith), refl, (facts e).sum_most, omega arith)

pub returns : goal.returns
unfolding ramp_factor
returns c =
    let e = (goal.at.returns c).Else-day-a in
    rw (before_b e, behind_a e)
    (to_z-of_z w64 c.rounded.result (record { sfits = c.rounded.type_inv }) ∙ c.rounded.ensures
    ∙ (λ i. round_z (through w64 (sum_is e) (facts e).sum i) (nat_abs (through w64 (whole_is e) (facts e).whole i))))
