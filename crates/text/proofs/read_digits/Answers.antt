-- `text::read_digits` meets its contract.
use mathlib.Core.Path.{sym, ap, ◌∙◌}
use Prim.Native.Nat.{ℕ, ◌+◌}
use native.Mathlib.Omega.{arith}
use lib.ListN.{drop}
use Rattle.text.specs.Decimal.{digits_from}
use Rattle.text.specs.Number.{natural_of}
use Rattle.text.proofs.NumberLaws.{digits_step}
use Rattle.text.proofs.read_digits.Goals as goal

pub loop-b-preserved : goal.loop-b-preserved
loop-b-preserved c =
    let s = c.args.s.now in
    let l = c.loop-b in (
      omega arith,
      ap (λ (k : ℕ). natural_of (digits_from k (drop (l.b-index + 1) s))) c.push_digit-m.ensures
          ∙ sym (digits_step s l.b-index l.m c.loop-b-test.true (sym c.is_ascii_digit.ensures.value ∙ c.if-not-is_ascii_digit.false))
          ∙ l.invariant.1,
    )
