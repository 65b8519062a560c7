-- `ramp2_factor` meets its contract.
use borrow.Author.Rules.{rules}
use Prim.Native.Nat.{◌*◌, ◌≤◌}
use mathlib.Core.Bool.{true}
use mathlib.Core.Path.{◌≡◌, refl, sym, ◌∙◌, subst}
use native.Mathlib.Omega.{arith}
use lib.IntN.{ℤ, ◌-ℤ◌, nat_abs}
use mir.Syntax.{w64}
use mir.Val.{SFits}
use mir.ValLaws.{to_z-of_z}
use Rattle.numbers.specs.Round.{round_z}
use Rattle.numbers.proofs.Machine.{through}
use Rattle.numbers.proofs.OrderLaws.{size_fits}
use Rattle.group.specs.Numbers.{day_most, function_factor_most}
use Rattle.group.specs.Limits.{ramp2_numbers_fit}
use Rattle.day.specs.Day.{ramp2_parts, relative}
use Rattle.numbers.proofs.SignedLaws.{held, gap_is, size_less, gap_positive}
use Rattle.day.proofs.DayLaws.{Ramp2Sizes, ramp2_sizes, Part, ramp2_part, relative_size, Gained, gained}
use Rattle.day.proofs.ramp2_factor.Goals as goal
use Rattle.day.proofs.ramp2_factor.Goals.{After-ramp2_parts-2}

-- a ramp2's length
module _ (start end reference mult : ℤ) (r : ramp2_numbers_fit start end reference mult ≡ true) where
  sizes : Ramp2Sizes start end mult
  sizes = ramp2_sizes start end reference mult r

  whole_most : nat_abs (end -ℤ start) ≤ 2 * day_most
  whole_most = omega (arith, size_less end start, sizes.start_most, sizes.end_most)

  whole_fits : SFits w64 (end -ℤ start)
  whole_fits = size_fits _ (omega (arith, whole_most))

  part : (t : ℤ) → Part (nat_abs (end -ℤ start)) (ramp2_parts start end t)
  part t = ramp2_part start end t (let h = sizes.start_below in omega arith)

  -- as the code reads it
  module _ (f : SFits w64 start) (g : SFits w64 end) where
    parts_asked : (nat_abs (held start) ≤ day_most) × (nat_abs (held end) ≤ day_most)
    parts_asked = rw (to_z-of_z w64 start f, to_z-of_z w64 end g) (sizes.start_most, sizes.end_most)

pub ramp2_parts-requires : goal.ramp2_parts-requires
ramp2_parts-requires c = parts_asked c.args.r.start c.args.r.end c.args.r.reference c.args.r.mult c.requires (search rules) (search rules)

pub ramp2_parts-requires-2 : goal.ramp2_parts-requires-2
ramp2_parts-requires-2 c = parts_asked c.args.r.start c.args.r.end c.args.r.reference c.args.r.mult c.requires (search rules) (search rules)

module _ (c : After-ramp2_parts-2) where
  on_day : held c.ramp2_parts.result ≡ ramp2_parts c.args.r.start c.args.r.end c.args.day
  on_day =
      to_z-of_z w64 c.ramp2_parts.result (record { sfits = c.ramp2_parts.type_inv }) ∙ c.ramp2_parts.ensures
      ∙ (λ i. ramp2_parts (to_z-of_z w64 c.args.r.start (search rules) i) (to_z-of_z w64 c.args.r.end (search rules) i)
      (to_z-of_z w64 c.args.day c.ranges.day i))

  on_reference : held c.ramp2_parts-2.result ≡ ramp2_parts c.args.r.start c.args.r.end c.args.r.reference
  on_reference =
      to_z-of_z w64 c.ramp2_parts-2.result (record { sfits = c.ramp2_parts-2.type_inv }) ∙ c.ramp2_parts-2.ensures
      ∙ (λ i. ramp2_parts (to_z-of_z w64 c.args.r.start (search rules) i) (to_z-of_z w64 c.args.r.end (search rules) i)
      (to_z-of_z w64 c.args.r.reference (search rules) i))

  abbrev mult_sized : nat_abs c.args.r.mult ≤ function_factor_most
  mult_sized = (sizes c.args.r.start c.args.r.end c.args.r.reference c.args.r.mult c.requires).mult_most

  part_at : (t : ℤ) → Part (nat_abs (c.args.r.end -ℤ c.args.r.start)) (ramp2_parts c.args.r.start c.args.r.end t)
  part_at = part c.args.r.start c.args.r.end c.args.r.reference c.args.r.mult c.requires

  most : nat_abs (c.args.r.end -ℤ c.args.r.start) ≤ 2 * day_most
  most = whole_most c.args.r.start c.args.r.end c.args.r.reference c.args.r.mult c.requires

  facts : Gained c.args.r.mult c.ramp2_parts.result c.ramp2_parts-2.result
      (ramp2_parts c.args.r.start c.args.r.end c.args.day)
      (ramp2_parts c.args.r.start c.args.r.end c.args.r.reference)
  facts =
      gained (nat_abs (c.args.r.end -ℤ c.args.r.start)) c.args.r.mult most mult_sized (search rules)
      on_day on_reference (part_at c.args.day) (part_at c.args.r.reference)

  whole_is : held c.args.r.end -ℤ held c.args.r.start ≡ c.args.r.end -ℤ c.args.r.start
  whole_is = gap_is c.args.r.end c.args.r.start (search rules) (search rules)

  fits : SFits w64 (c.args.r.end -ℤ c.args.r.start)
  fits = whole_fits c.args.r.start c.args.r.end c.args.r.reference c.args.r.mult c.requires

pub overflow_sub-parts : goal.overflow_sub-parts
overflow_sub-parts c = let e = (goal.at.overflow_sub-parts c).After-ramp2_parts-2 in subst (SFits w64) (sym (facts e).less_is) (facts e).less_fits

pub overflow_mul-mult : goal.overflow_mul-mult
overflow_mul-mult c = let e = (goal.at.overflow_mul-mult c).After-ramp2_parts-2 in subst (SFits w64) (sym (facts e).times_is) (facts e).times_fits

pub overflow_sub-end : goal.overflow_sub-end
overflow_sub-end c = let e = (goal.at.overflow_sub-end c).After-ramp2_parts-2 in subst (SFits w64) (sym (whole_is e)) (fits e)

pub rounded-requires : goal.rounded-requires
rounded-requires c =
    let e = (goal.at.rounded-requires c).After-ramp2_parts-2 in
    rw (through w64 (facts e).times_is (facts e).times_fits, through w64 (whole_is e) (fits e)) (
      gap_positive c.args.r.end c.args.r.start (sizes c.args.r.start c.args.r.end c.args.r.reference c.args.r.mult c.requires).start_below,
      refl,
      relative_size function_factor_most _ c.args.r.mult _ _ (mult_sized e) (part_at e c.args.day) (part_at e c.args.r.reference),
      omega (arith, most e),
    )

pub returns : goal.returns
unfolding relative
returns c =
    let e = (goal.at.returns c).After-ramp2_parts-2 in
    to_z-of_z w64 c.rounded.result (record { sfits = c.rounded.type_inv }) ∙ c.rounded.ensures
    ∙ (λ i. round_z (through w64 (facts e).times_is (facts e).times_fits i) (nat_abs (through w64 (whole_is e) (fits e) i)))
