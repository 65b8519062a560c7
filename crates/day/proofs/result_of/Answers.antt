-- `result_of` meets its contract: the factor 1 changes nothing.
use Prim.Native.Nat.{◌*◌, ◌≤◌}
use mathlib.Core.Path.{◌≡◌, refl, sym, ap, ◌∙◌, subst}
use native.Mathlib.Nat.{mul-le-mul}
use native.Mathlib.Omega.{arith}
use lib.IntN.{ℤ, pos, ◌*ℤ◌, nat_abs}
use mir.Syntax.{w64}
use mir.Val.{SFits, to_z}
use mir.ValLaws.{to_z-of_z, to_z_pos}
use Rattle.numbers.specs.Round.{round_z}
use Rattle.numbers.proofs.Machine.{through}
use Rattle.numbers.proofs.OrderLaws.{size_fits, size_mul}
use Rattle.group.specs.Numbers.{factor_one, factor_most, value_most, result_most}
use Rattle.day.specs.Day.{result_of}
use Rattle.numbers.proofs.SignedLaws.{held}
use Rattle.day.proofs.DayLaws.{result_plain}
use Rattle.day.proofs.result_of.Goals as goal

-- the product, as the code reads it
module _ (value factor : ℤ) (f : SFits w64 value) (g : SFits w64 factor) (h : nat_abs value ≤ value_most) (k : nat_abs factor ≤ factor_most) where
  product : held value *ℤ held factor ≡ value *ℤ factor
  product i = to_z-of_z w64 value f i *ℤ to_z-of_z w64 factor g i

  size : nat_abs (value *ℤ factor) ≤ result_most * factor_one
  size = let m = mul-le-mul h k in omega (arith, size_mul value factor)

  read : held (held value *ℤ held factor) ≡ value *ℤ factor
  read = through w64 product (size_fits _ (omega (arith, size)))

pub returns-then-factor-eq-FACTOR_ONE : goal.returns-then-factor-eq-FACTOR_ONE
returns-then-factor-eq-FACTOR_ONE c =
    let e : c.args.factor ≡ pos factor_one =
    sym (to_z-of_z w64 c.args.factor c.ranges.factor) ∙ ap (to_z w64) c.if-factor-eq-FACTOR_ONE.true ∙ to_z_pos w64 factor_one (omega arith) in
    to_z-of_z w64 c.args.value c.ranges.value
    ∙ sym (ap (result_of c.args.value) e ∙ result_plain c.args.value)

pub rounded-requires : goal.rounded-requires
rounded-requires c =
    let s = c.args in (
      record { lt = tt },
      refl,
      subst (λ (z : ℤ). nat_abs z ≤ result_most * factor_one) (sym (read s.value s.factor c.ranges.value c.ranges.factor c.requires.0 c.requires.1))
          (size s.value s.factor c.ranges.value c.ranges.factor c.requires.0 c.requires.1),
      omega arith,
    )

pub returns : goal.returns
unfolding result_of
returns c =
    to_z-of_z w64 c.rounded.result (record { sfits = c.rounded.type_inv }) ∙ c.rounded.ensures
    ∙ ap (λ (z : ℤ). round_z z factor_one) (read c.args.value c.args.factor c.ranges.value c.ranges.factor c.requires.0 c.requires.1)
