-- `nearest_shifted`: the shifts are a division and a product by 2 to the power k.
use Prim.Native.Nat.{ℕ, ◌-◌, ◌*◌, ◌/◌, ◌%◌, ◌^◌, ◌<◌}
use mathlib.Core.Path.{◌≡◌, ◌∙◌}
use native.Mathlib.Nat.{div-add-mod', mod-eq_of_lt}
use native.Mathlib.Omega.{arith}
use lib.Pow.{pow_pos}
use Rattle.numbers.proofs.Nearest.{nearest_parts, quotient_room}
use Rattle.numbers.proofs.Machine.{one_shifted}
use Rattle.numbers.proofs.nearest_shifted.Goals as goal

-- the quotient, shifted back, loses no bit
back : (n k : ℕ) → n < 2 ^ 64 → n / 2 ^ k * 2 ^ k % 2 ^ 64 ≡ n / 2 ^ k * 2 ^ k
back n k h = mod-eq_of_lt (omega (arith, div-add-mod' n (2 ^ k)))

pub returns : goal.returns
returns c =
    let n = c.args.n in
    let k = c.args.k in
    let f = c.ranges.n.fits in
    rw (back n k f, one_shifted k c.requires) at c.settle.ensures
    ∙ nearest_parts n (2 ^ k) (n / 2 ^ k) (n - n / 2 ^ k * 2 ^ k) (omega (arith, div-add-mod' n (2 ^ k))) (quotient_room n (2 ^ k) (pow_pos k) f).0
