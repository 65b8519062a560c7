-- `weighted_sum` meets its contract: the sum of the shifted corners, less what the shift adds.
use Prim.Native.Nat.{ℕ, ◌+◌, ◌*◌, ◌/◌, ◌^◌, ◌<◌}
use mathlib.Core.Path.{sym, subst}
use native.Mathlib.Nat.{lt_trans}
use native.Mathlib.Omega.{arith}
use lib.Dec.{lit<}
use Rattle.numbers.proofs.Diff.{Diff, diff_of}
use Rattle.pair.specs.Pair.{pair_value}
use Rattle.cell.specs.Cell.{weighted_sum}
use Rattle.cell.proofs.WideLaws.{corner_shifted}
use Rattle.cell.proofs.SumLaws.{raised_below, raised_sum, parted_is}
use borrow.Author.Rules.{rules}
use Rattle.cell.proofs.weighted_sum.Goals as goal

pub added-raised-requires : goal.added-raised-requires
added-raised-requires c =
    let below : pair_value c.sum_of_products-sum.result + pair_value c.product.result < 2 ^ 94 =
    raised_below c.requires c.sum_of_products-sum.ensures c.product.ensures
    c.shifted-a.type_inv c.shifted-b.type_inv c.shifted-c.type_inv c.shifted-d.type_inv in
    lt_trans below (lit< tt)

pub parted-requires : goal.parted-requires
parted-requires c =
    let below : pair_value c.sum_of_products-sum.result + pair_value c.product.result < 2 ^ 94 =
    raised_below c.requires c.sum_of_products-sum.ensures c.product.ensures
    c.shifted-a.type_inv c.shifted-b.type_inv c.shifted-c.type_inv c.shifted-d.type_inv in (
      subst (λ (n : ℕ). n < 2 ^ 94) (sym c.added-raised.ensures) below,
      omega (arith, c.requires.most),
    )

pub returns : goal.returns
returns c =
    let raised : Diff (weighted_sum c.args.w c.args.v) (pair_value c.sum_of_products-sum.result + pair_value c.product.result) (c.args.w.total * 2 ^ 32) =
    raised_sum c.requires c.sum_of_products-sum.ensures c.product.ensures {v = c.args.v}
    (corner_shifted (search rules) c.shifted-a.ensures)
    (corner_shifted (search rules) c.shifted-b.ensures)
    (corner_shifted (search rules) c.shifted-c.ensures)
    (corner_shifted (search rules) c.shifted-d.ensures) in
    let r = c.parted.result in let n = pair_value c.added-raised.result in
    parted_is (weighted_sum c.args.w c.args.v) n c.args.w.total r
    (subst (λ (k : ℕ). Diff (weighted_sum c.args.w c.args.v) k (c.args.w.total * 2 ^ 32)) (sym c.added-raised.ensures) raised)
    (diff_of r.high (n / 2 ^ 32) c.args.w.total c.parted.ensures.0)
    c.parted.ensures.1
