-- `rank_beside` meets its contract.
use mathlib.Core.Path.{sym}
use native.Mathlib.Omega.{arith}
use Rattle.explain.proofs.RankLaws.{rank_past, rank_itself, rank_held, rank_free}
use Rattle.explain.proofs.rank_beside.Goals as goal
use Rattle.explain.proofs.rank_beside.Goals.{else-k-grids-via-then-k-grids+then-k-c+else-turn_holds, else-k-grids-via-then-k-grids+else-k-c, else-k-grids-via-else-k-grids}

pub returns-then-turn_holds : goal.returns-then-turn_holds
returns-then-turn_holds c =
    let a = c.args in (
      rank_held a.sides.now a.ranks.now a.grids a.c a.x a.y a.k c.if-k-grids.true c.if-k-c.true (sym c.if-turn_holds.ensures),
      c.requires.3 a.k c.if-k-grids.true,
    )

pub returns-else-k-grids : goal.returns-else-k-grids
returns-else-k-grids c =
    let a = c.args in (
      elim c.else-k-grids.branch [
        | else-k-grids-via-then-k-grids+then-k-c+else-turn_holds w ↦
            rank_free a.sides.now a.ranks.now a.grids a.c a.x a.y a.k w.if-k-grids.true w.if-k-c.true (sym w.if-turn_holds.ensures)
        | else-k-grids-via-then-k-grids+else-k-c w ↦
            rank_itself a.sides.now a.ranks.now a.grids a.c a.x a.y a.k w.if-k-grids.true w.if-k-c.false
        | else-k-grids-via-else-k-grids w ↦
            rank_past a.sides.now a.ranks.now a.grids a.c a.x a.y a.k w.if-k-grids.false
      ],
      omega arith,
    )
