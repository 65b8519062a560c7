-- `nearest_pair`: the high word divided alone, what is left over with the low word by two digits, and the gain of both.
use Prim.Native.Nat.{ℕ, ◌+◌, ◌-◌, ◌*◌, ◌/◌, ◌%◌, ◌^◌, ◌<◌}
use mathlib.Core.Path.{◌≡◌, sym, ap, ◌∙◌}
use native.Mathlib.Nat.{zero-add, div-add-mod', mod-lt, mod-eq_of_lt, pos_of_ne-zero, lt_of_le_of_lt}
use native.Mathlib.Omega.{arith}
use lib.Pow.{pow_pos}
use Rattle.numbers.specs.Round.{gain, nearest}
use Rattle.numbers.proofs.Nearest.{nearest_zero, nearest_most}
use Rattle.pair.specs.declared.Pair.{Pair}
use Rattle.pair.specs.Pair.{pair_value}
use Rattle.pair.proofs.PairLaws.{pair_below}
use Rattle.pair.proofs.ScaleLaws.{high_under, together, nearest_scaled}
use Rattle.pair.proofs.nearest_pair.Goals.{After-gained-more}
use Rattle.pair.proofs.nearest_pair.Goals as goal

-- what the high word leaves over
over : (high d : ℕ) → 0 < d → (high / d * d + (high - high / d * d) ≡ high) × (high - high / d * d < d)
over high d p = let e = div-add-mod' high d in (omega arith, omega (arith, mod-lt high p))

-- the quotient's two words and its gain, over the divisor as it is shifted
rounded : (n m : Pair) (d e k q rest g : ℕ) → 0 < d → e ≡ d * 2 ^ k
    → pair_value m ≡ pair_value (record { high = n.high - n.high / d * d; low = n.low }) * 2 ^ k
    → q * e + rest ≡ pair_value m → rest < e → g ≡ gain (2 * rest) e q
    → pair_value (record { high = n.high / d; low = q }) + pair_value (record { high = 0; low = g }) ≡ nearest (pair_value n) d
unfolding pair_value
rounded n m d e k q rest g p s v w l f =
    let u : q * (d * 2 ^ k) + rest ≡ ((n.high - n.high / d * d) * 2 ^ 64 + n.low) * 2 ^ k = ap (λ (x : ℕ). q * x + rest) (sym s) ∙ w ∙ v in
    let h = n.high / d in
    let z : 0 * 2 ^ 64 + g ≡ gain (2 * rest) (d * 2 ^ k) q = zero-add g ∙ f ∙ ap (λ (x : ℕ). gain (2 * rest) x q) s in
    ap (λ (x : ℕ). h * 2 ^ 64 + q + x) z
    ∙ nearest_scaled (n.high * 2 ^ 64 + n.low) d (2 ^ k) h q rest p (pow_pos k)
    (together n.high n.low d h (n.high - h * d) (2 ^ k) q rest (over n.high d p).0 u) (omega arith)

answer : (c : After-gained-more) → let a = c.args in
    pair_value (record { high = a.n.high / a.d; low = c.two_digits-part.result.quotient }) + pair_value (record { high = 0; low = c.gained-more.result })
    ≡ nearest (pair_value a.n) a.d
answer c =
    let a = c.args in
    let w = c.two_digits-part.ensures in
    rounded a.n c.shifted_up.result a.d (a.d * 2 ^ c.top_shift-k.result % 2 ^ 64) c.top_shift-k.result _ _ _
    (pos_of_ne-zero c.if-d-eq0.false) (mod-eq_of_lt c.top_shift-k.ensures.1) c.shifted_up.ensures w.whole w.below c.gained-more.ensures

pub returns-then-d-eq0 : goal.returns-then-d-eq0
unfolding pair_value
returns-then-d-eq0 c = let a = c.args in sym (ap (nearest (pair_value a.n)) c.if-d-eq0.true ∙ nearest_zero (pair_value a.n))

pub two_digits-part-requires : goal.two_digits-part-requires
two_digits-part-requires c =
    let a = c.args in
    let e = c.top_shift-k.ensures in
    let o = (over a.n.high a.d (pos_of_ne-zero c.if-d-eq0.false)).1 in
    let l : a.n.low < 2 ^ 64 = omega arith in
    rw (mod-eq_of_lt e.1) (e.0, high_under _ c.shifted_up.result a.d c.top_shift-k.result o l c.shifted_up.ensures)

pub added-requires : goal.added-requires
added-requires c =
    let a = c.args in
    let e = answer (goal.at.added-requires c).After-gained-more in
    lt_of_le_of_lt (omega (arith, e, nearest_most (pair_value a.n) a.d)) (pair_below a.n (omega arith) (omega arith))

pub returns : goal.returns
returns c = c.added.ensures ∙ answer (goal.at.returns c).After-gained-more
