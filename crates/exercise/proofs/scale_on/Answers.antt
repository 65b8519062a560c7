-- `scale_on` meets its contract.
use mathlib.Core.Path.{sym, ap, ◌∙◌, subst}
use native.Mathlib.Omega.{arith}
use lib.IntN.{pos}
use mir.Syntax.{w64}
use mir.Val.{to_z}
use mir.ValLaws.{to_z-of_z}
use Rattle.group.specs.Numbers.{day_fits}
use Rattle.abi.specs.Abi.{group_of_words}
use Rattle.judge.proofs.Accepted.{accepted_head}
use Rattle.day.specs.Flat.{factor_in}
use Rattle.lookup.specs.Flat.{function_rows, FunctionsFit}
use Rattle.lookup.proofs.StageLaws.{day_told}
use Rattle.lookup.proofs.FunctionLaws.{rows_fit, rows_factor}
use Rattle.exercise.specs.Tables.{scale_for}
use Rattle.exercise.proofs.ScaleLaws.{scale_out, scale_in}
use borrow.Author.Rules.{rules}
use Rattle.exercise.proofs.scale_on.Goals as goal

pub returns-then-day-before : goal.returns-then-day-before
returns-then-day-before c =
    let a = c.args in
    let same = sym (to_z-of_z w64 a.day c.ranges.day) ∙ ap (to_z w64) c.if-day-before.true ∙ to_z-of_z w64 a.before.day (search rules) in
    c.requires.1 ∙ ap (scale_for (group_of_words a.words.now)) (sym same)

pub returns-then-not-day_fits : goal.returns-then-not-day_fits
returns-then-not-day_fits c =
    (λ i. record { day = to_z-of_z w64 c.args.day c.ranges.day i; factor = pos 0 })
    ∙ sym (scale_out (group_of_words c.args.words.now) c.args.day (day_told c.ranges.day c.day_fits.ensures ∙ c.if-not-day_fits.true))

pub factor_on-requires : goal.factor_on-requires
factor_on-requires c =
    let ns = c.args.words.now in let e = c.function_count.ensures in (
      (search rules),
      omega (arith, (accepted_head (group_of_words ns) c.requires.0).functions, e),
      subst (FunctionsFit ns) (sym e) (rows_fit ns c.requires.0),
      ap day_fits (to_z-of_z w64 c.args.day c.ranges.day) ∙ day_told c.ranges.day c.day_fits.ensures ∙ c.if-not-day_fits.false,
    )

pub returns : goal.returns
returns c =
    let ns = c.args.words.now in
    let day = to_z-of_z w64 c.args.day c.ranges.day in
    let factor =
    to_z-of_z w64 c.factor_on.result (record { sfits = c.factor_on.type_inv }) ∙ c.factor_on.ensures
    ∙ (λ i. factor_in (function_rows ns) (c.function_count.ensures i) (day i)) ∙ rows_factor ns c.requires.0 c.args.day in
    (λ i. record { day = day i; factor = factor i })
    ∙ sym (scale_in (group_of_words ns) c.args.day (day_told c.ranges.day c.day_fits.ensures ∙ c.if-not-day_fits.false))
