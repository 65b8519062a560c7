-- `size`: by the exponent field.
use mathlib.Core.Path.{sym, ap, ◌∙◌}
use Prim.Native.Nat.{ℕ, ◌+◌, ◌-◌, ◌*◌, ◌%◌, ◌/◌, ◌^◌, min}
use lib.Dec.{leb}
use lib.Ieee.{of_bits}
use Rattle.numbers.specs.Round.{nearest}
use Rattle.nodes.proofs.Fields.{field_zero, field_some, field_ones}
use Rattle.nodes.proofs.size.Goals as goal

pub returns-then-field-eq255 : goal.returns-then-field-eq255
unfolding of_bits
returns-then-field-eq255 c =
    let a = c.args in
    sym (field_ones (leb 2147483648 a.b) (a.b % 2147483648 / 8388608) (a.b % 8388608) a.q c.if-field-eq255.true c.requires.1)

pub returns-then-field-eq0 : goal.returns-then-field-eq0
unfolding of_bits
returns-then-field-eq0 c =
    let a = c.args in
    c.scaled.ensures
    ∙ ap (λ (t : ℕ). min (nearest (t * 2 ^ a.q) (2 ^ 149)) (2 ^ 31)) c.from.ensures
    ∙ sym (field_zero (leb 2147483648 a.b) (a.b % 2147483648 / 8388608) (a.b % 8388608) a.q c.if-field-eq0.true)

pub returns : goal.returns
unfolding of_bits
returns c =
    let a = c.args in
    c.scaled-2.ensures
    ∙ ap (λ (t : ℕ). min (nearest (t * 2 ^ (a.b % 2147483648 / 8388608 - 1 + a.q)) (2 ^ 149)) (2 ^ 31)) c.from-2.ensures
    ∙ sym (field_some (leb 2147483648 a.b) (a.b % 2147483648 / 8388608) (a.b % 8388608) a.q c.if-field-eq0.false c.if-field-eq255.false)
