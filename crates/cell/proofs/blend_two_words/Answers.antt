-- `blend_two_words` meets its contract: what four numbers of half a word blend to fits one word.
use Prim.Native.Nat.{ℕ}
use mathlib.Core.Path.{ap, ◌∙◌}
use native.Mathlib.Omega.{arith}
use Rattle.numbers.specs.Round.{nearest}
use Rattle.pair.proofs.PairLaws.{pair_low}
use Rattle.cell.specs.Unsigned.{blended}
use Rattle.cell.proofs.ValueLaws.{blend_half_word}
use Rattle.cell.proofs.blend_two_words.Goals as goal

pub returns : goal.returns
unfolding blended
returns c =
    let a = c.args in let f = c.ranges in
    let e = c.nearest_pair.ensures ∙ ap (λ (n : ℕ). nearest n a.w.total) c.sum_of_products-sum.ensures in
    let m = blend_half_word c.requires f.a f.b f.c f.d in
    let r = pair_low c.nearest_pair.result (omega arith) ∙ e in
    (r, omega arith)
