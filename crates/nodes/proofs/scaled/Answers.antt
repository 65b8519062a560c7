-- `scaled`: beyond 2^31, a product, too small to count, and a quotient.
use mathlib.Core.Path.{◌≡◌, sym, ap, ◌∙◌, subst}
use Prim.Native.Nat.{ℕ, ◌-◌, ◌^◌, ◌≤◌, ◌<◌, min}
use native.Mathlib.Nat.{le_of_lt, min-eq_left, min-eq_right}
use native.Mathlib.Omega.{arith}
use Rattle.numbers.specs.Round.{nearest}
use Rattle.numbers.proofs.Nearest.{nearest_most}
use Rattle.nodes.proofs.ScaledLaws.{large, product, quotient, small, shift_up, shift_lt}
use Rattle.nodes.proofs.scaled.Goals as goal

-- a size up to 2^31 is not cut
uncut : (r n : ℕ) → r ≡ n → r ≤ 2 ^ 31 → r ≡ min n (2 ^ 31)
uncut r n e h = e ∙ sym (min-eq_left (subst (λ (k : ℕ). k ≤ 2 ^ 31) e h))

pub returns-then-up-ge157 : goal.returns-then-up-ge157
returns-then-up-ge157 c = sym (min-eq_right (large _ _ (c.requires.1 (omega arith)) c.if-up-ge157.true))

pub returns-then-up-ge149 : goal.returns-then-up-ge149
returns-then-up-ge149 c =
    let a = c.args in
    let k : a.up - 149 < 8 = omega arith in
    let e = shift_up a.digits (a.up - 149) c.requires.0 k in
    uncut _ _ (e ∙ sym (product a.digits a.up c.if-up-ge149.true))
    (subst (λ (n : ℕ). n ≤ 2 ^ 31) (sym e) (le_of_lt (shift_lt a.digits (a.up - 149) c.requires.0 k)))

pub returns-then-down-gt24 : goal.returns-then-down-gt24
returns-then-down-gt24 c =
    let a = c.args in
    uncut 0 _ (sym (quotient a.digits a.up (omega arith) ∙ small a.digits (149 - a.up) c.requires.0 c.if-down-gt24.true)) (omega arith)

pub returns : goal.returns
returns c =
    let a = c.args in
    let e = c.nearest_shifted.ensures ∙ ap (λ (k : ℕ). nearest a.digits (2 ^ k)) c.from.ensures in
    uncut _ _ (e ∙ sym (quotient a.digits a.up (omega arith))) (omega (arith, nearest_most a.digits (2 ^ (149 - a.up))))
