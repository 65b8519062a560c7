-- Order 5 holds of the judge.
use Prim.Native.Nat.{ℕ, ◌<◌}
use mathlib.Core.Path.{◌≡◌}
use mathlib.Core.Bool.{Bool, true}
use native.Mathlib.Omega.{arith}
use borrow.Author.Tests.{eqb-true, eq-eqb}
use lib.Dec.{eqb}
use Rattle.numbers.specs.First.{some}
use Rattle.numbers.proofs.Bools.{and_left, and_right, both, true_false}
use Rattle.numbers.proofs.FirstLaws.{some_by, by_some}
use Rattle.group.specs.declared.Grid.{Grid}
use Rattle.group.specs.declared.Group.{Group}
use Rattle.group.specs.Record.{grid_at}
use Rattle.extent.specs.Extent.{meet}
use Rattle.extent.specs.Sides.{Edges}
use Rattle.extent.proofs.MeetLaws.{meets_exactly}
use Rattle.judge.specs.Judge.{same_rank}
use Rattle.judge.specs.Order5.{Share, NoSharedPoint, RankClash}
use Rattle.judge.proofs.LimitLaws.{grid_edges}
use Rattle.judge.proofs.Accepted.{accepted, accepted_edges}

-- two grids share a rank and a coordinate, as 5 reads, exactly where they share a point
module _ (f g : Grid) (a : Edges f) (b : Edges g) where
  rank_shared : same_rank f g ≡ true → Share f g
  unfolding same_rank
  rank_shared e =
      let r = eqb f.rank g.rank in
      (eqb-true f.rank g.rank (and_left r (meet f g) e), (meets_exactly f g a b).0 (and_right r (meet f g) e))

  shared_rank : Share f g → same_rank f g ≡ true
  unfolding same_rank
  shared_rank s = both (eq-eqb f.rank g.rank s.0) ((meets_exactly f g a b).1 s.1)

pub no_shared_point : (g : Group) → NoSharedPoint g
no_shared_point g e i j l m s =
    true_false (shared_rank (grid_at g i) (grid_at g j) (accepted_edges g e i (omega arith)) (accepted_edges g e j m) s) ((accepted g e).ranks j i m l)

pub rank_clash : (g : Group) → RankClash g
rank_clash g p k l = (shared, clashing)
  where
    edges : (i : ℕ) → i < g.grids → Edges (grid_at g i)
    edges i m = grid_edges (grid_at g i) (p.0.fits i m) g.parameters (p.1 i m)

    clashes : ℕ → Bool
    clashes j = same_rank (grid_at g j) (grid_at g k)

    shared : some clashes k ≡ true → (j : ℕ) × (j < k) × Share (grid_at g j) (grid_at g k)
    shared e =
        let i = by_some clashes k e in
        (i.0, i.1, rank_shared (grid_at g i.0) (grid_at g k) (edges i.0 (omega (arith, i.1))) (edges k l) i.2)

    clashing : (j : ℕ) × (j < k) × Share (grid_at g j) (grid_at g k) → some clashes k ≡ true
    clashing s =
        some_by clashes k s.0 s.1
        (shared_rank (grid_at g s.0) (grid_at g k) (edges s.0 (omega (arith, s.1))) (edges k l) s.2)
