-- `power`: the shift is a power of two, which a float counts without a gap.
use Rattle.std.proofs.Common.{ℕ, ◌^◌, ◌≤◌, T, pos, sym, ap, subst, arith, le→leb, pow_mono}
use lib.Ieee.{binary64, of_bits, of_int, in_float, div}
use Rattle.numbers.proofs.Machine.{one_shifted}
use Rattle.screen.specs.Screen.{neg_power}
use Rattle.screen.proofs.power.Goals as goal

pub int_to_float-result : goal.int_to_float-result
unfolding in_float
int_to_float-result c =
    let q = c.args.q in
    let h : q ≤ 53 = omega arith in
    subst (λ (n : ℕ). T (in_float binary64 (pos n))) (sym (one_shifted q (omega arith))) (le→leb (2 ^ q) (2 ^ 53) (pow_mono h))

pub returns : goal.returns
unfolding neg_power of_bits of_int
returns c = ap (λ (n : ℕ). div binary64 (of_int binary64 (pos 1)) (of_int binary64 (pos n))) (one_shifted c.args.q (omega arith))
