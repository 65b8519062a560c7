-- `text::put_number` meets its contract.
use mathlib.Core.Path.{sym, ap, ◌∙◌}
use mir.Facts.{to_z-of_z}
use lib.IntN.{ℤ, pos, nat_abs}
use lib.Signed.{lt_z}
use Rattle.text.proofs.PutLaws.{wrote_below, wrote_above}
use Rattle.text.proofs.put_number.Goals as goal

pub returns-then-z-lt0 : goal.returns-then-z-lt0
returns-then-z-lt0 c =
    let a = c.args in
    let z = to_z-of_z c.ranges.z in
    wrote_below a.at _ a.out.now _ _ a.z (ap (λ (k : ℤ). lt_z k (pos 0)) (sym z) ∙ c.if-z-lt0.true) (c.unsigned_abs.ensures.value ∙ ap nat_abs z) c.requires c.put_digits.ensures

pub returns : goal.returns
returns c =
    let a = c.args in
    let z = to_z-of_z c.ranges.z in
    wrote_above a.at _ a.out.now _ _ a.z (ap (λ (k : ℤ). lt_z k (pos 0)) (sym z) ∙ c.if-z-lt0.false) (c.unsigned_abs-2.ensures.value ∙ ap nat_abs z) c.requires c.put_digits-2.ensures
