-- `nearest_even`: the quotient, settled by what is left over.
use Prim.Native.Nat.{◌-◌, ◌*◌, ◌/◌}
use mathlib.Core.Path.{sym, ap, ◌∙◌}
use native.Mathlib.Nat.{div-add-mod', pos_of_ne-zero}
use native.Mathlib.Omega.{arith}
use Rattle.numbers.specs.Round.{nearest}
use Rattle.numbers.proofs.Nearest.{nearest_zero, nearest_parts, quotient_room}
use Rattle.numbers.proofs.nearest_even.Goals as goal

pub returns-then-d-eq0 : goal.returns-then-d-eq0
returns-then-d-eq0 c = sym (ap (nearest c.args.n) c.if-d-eq0.true ∙ nearest_zero c.args.n)

pub returns : goal.returns
returns c =
    let n = c.args.n in let d = c.args.d in
    let h = pos_of_ne-zero c.if-d-eq0.false in
    c.settle.ensures ∙ nearest_parts n d (n / d) (n - n / d * d) (omega (arith, div-add-mod' n d)) (quotient_room n d h c.ranges.n.fits).0
