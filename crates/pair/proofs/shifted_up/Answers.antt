-- `shifted_up`: not at all, and with what leaves the low word.
use Prim.Native.Nat.{ℕ, ◌+◌, ◌-◌, ◌*◌, ◌/◌, ◌%◌, ◌^◌, ◌≤◌, ◌<◌}
use mathlib.Core.Path.{◌≡◌, sym, ap, ◌∙◌}
use native.Mathlib.Nat.{one-mul, add-mul, mod-eq_of_lt}
use native.Mathlib.Omega.{arith}
use lib.Pow.{pow_pos}
use Rattle.pair.specs.Pair.{pair_value}
use Rattle.pair.proofs.ScaleLaws.{leaves, leaves_stays, times}
use Rattle.pair.proofs.shifted_up.Goals as goal

-- the high word loses no bit, and has room for what leaves the low one
room : (h k : ℕ) → (h + 1) * 2 ^ k ≤ 2 ^ 64 → (h * 2 ^ k % 2 ^ 64 ≡ h * 2 ^ k) × (h * 2 ^ k + 2 ^ k ≤ 2 ^ 64)
room h k l =
    let e : h * 2 ^ k + 2 ^ k ≤ 2 ^ 64 = omega (arith, add-mul h 1 (2 ^ k), one-mul (2 ^ k)) in
    (mod-eq_of_lt (omega (arith, pow_pos k)), e)

value : (h l k : ℕ) → k < 64 → (h + 1) * 2 ^ k ≤ 2 ^ 64
    → (h * 2 ^ k % 2 ^ 64 + l / 2 ^ (64 - k)) * 2 ^ 64 + l * 2 ^ k % 2 ^ 64 ≡ (h * 2 ^ 64 + l) * 2 ^ k
value h l k f r =
    ap (λ (x : ℕ). (x + l / 2 ^ (64 - k)) * 2 ^ 64 + l * 2 ^ k % 2 ^ 64) (room h k r).0
    ∙ regrouped (h * 2 ^ k) (l / 2 ^ (64 - k)) (l * 2 ^ k % 2 ^ 64) (l * 2 ^ k) (leaves_stays l k f) ∙ sym (times h l (2 ^ k))
  where
    regrouped : (a b m t : ℕ) → b * 2 ^ 64 + m ≡ t → (a + b) * 2 ^ 64 + m ≡ a * 2 ^ 64 + t
    regrouped a b m t e = omega arith

pub overflow_add-result : goal.overflow_add-result
overflow_add-result c =
    let n = c.args.n in let k = c.args.k in
    omega (arith, room n.high k c.requires.1, leaves n.low k c.requires.0 (omega arith))

pub returns : goal.returns
unfolding pair_value
returns c = value c.args.n.high c.args.n.low c.args.k c.requires.0 c.requires.1
