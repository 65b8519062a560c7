-- `step_factor` meets its contract: over 1 nothing is rounded.
use borrow.Author.Rules.{rules}
use mathlib.Core.Path.{◌≡◌, sym, ◌∙◌, subst}
use native.Mathlib.Omega.{arith}
use mir.Syntax.{w64}
use mir.Val.{SFits}
use mir.ValLaws.{to_z-of_z}
use Rattle.numbers.proofs.Machine.{through}
use Rattle.day.specs.Day.{step_parts, relative}
use Rattle.numbers.proofs.RoundLaws.{round_whole}
use Rattle.numbers.proofs.SignedLaws.{held}
use Rattle.day.proofs.DayLaws.{step_size, step_part, Gained, gained}
use Rattle.day.proofs.step_factor.Goals as goal
use Rattle.day.proofs.step_factor.Goals.{After-step_parts-2}

module _ (c : After-step_parts-2) where
  on_day : held c.step_parts.result ≡ step_parts c.args.s.event c.args.day
  on_day =
      to_z-of_z w64 c.step_parts.result (record { sfits = c.step_parts.type_inv }) ∙ c.step_parts.ensures
      ∙ (λ i. step_parts (to_z-of_z w64 c.args.s.event (search rules) i) (to_z-of_z w64 c.args.day c.ranges.day i))

  on_reference : held c.step_parts-2.result ≡ step_parts c.args.s.event c.args.s.reference
  on_reference =
      to_z-of_z w64 c.step_parts-2.result (record { sfits = c.step_parts-2.type_inv }) ∙ c.step_parts-2.ensures
      ∙ (λ i. step_parts (to_z-of_z w64 c.args.s.event (search rules) i) (to_z-of_z w64 c.args.s.reference (search rules) i))

  facts : Gained c.args.s.mult c.step_parts.result c.step_parts-2.result
      (step_parts c.args.s.event c.args.day) (step_parts c.args.s.event c.args.s.reference)
  facts =
      gained 1 c.args.s.mult (omega arith) (step_size c.args.s.event c.args.s.reference c.args.s.mult c.requires)
      (search rules) on_day on_reference
      (step_part c.args.s.event c.args.day) (step_part c.args.s.event c.args.s.reference)

pub overflow_sub-result : goal.overflow_sub-result
overflow_sub-result c = let e = (goal.at.overflow_sub-result c).After-step_parts-2 in subst (SFits w64) (sym (facts e).less_is) (facts e).less_fits

pub overflow_mul-result : goal.overflow_mul-result
overflow_mul-result c = let e = (goal.at.overflow_mul-result c).After-step_parts-2 in subst (SFits w64) (sym (facts e).times_is) (facts e).times_fits

pub returns : goal.returns
unfolding relative
returns c =
    let e = (goal.at.returns c).After-step_parts-2 in
    through w64 (facts e).times_is (facts e).times_fits ∙ sym (round_whole _)
