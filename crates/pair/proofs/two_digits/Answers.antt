-- `two_digits`: what the first digit leaves over goes before the second.
use Prim.Native.Nat.{ℕ, ◌+◌, ◌*◌, ◌/◌, ◌%◌, ◌^◌}
use mathlib.Core.Path.{◌≡◌}
use native.Mathlib.Nat.{add-mul, mul_right_comm}
use native.Mathlib.Omega.{arith}
use Rattle.pair.specs.Pair.{pair_value}
use Rattle.pair.proofs.two_digits.Goals as goal

both : (high low d q r s t : ℕ) → q * d + r ≡ high * 2 ^ 32 + low / 2 ^ 32 → s * d + t ≡ r * 2 ^ 32 + low % 2 ^ 32
    → (q * 2 ^ 32 + s) * d + t ≡ high * 2 ^ 64 + low
both high low d q r s t e f = omega (arith, add-mul (q * 2 ^ 32) s d, mul_right_comm q (2 ^ 32) d)

pub returns : goal.returns
unfolding pair_value
returns c =
    let n = c.args.n in
    let e = c.digit-first.ensures.0 in let f = c.digit-second.ensures.0 in
    record { whole = both n.high n.low c.args.d _ _ _ _ e.whole f.whole; below = f.below }
