-- `ranks_beside` meets its contract.
use Prim.Native.Nat.{ℕ}
use borrow.Author.Rules.{rules}
use lib.IntN.{pos}
use Rattle.abi.proofs.ListLaws.{called_list}
use Rattle.explain.specs.Flat.{rank_beside}
use Rattle.explain.proofs.ranks_beside.Goals as goal

pub returns : goal.returns
returns c =
    let a = c.args in
    called_list _ _ (λ (k : ℕ). pos (rank_beside a.sides.now a.ranks.now a.grids a.c a.x a.y k)) (λ k y t h. search rules) c.from_fn.result 64 c.from_fn.ensures.items (pos 0)
