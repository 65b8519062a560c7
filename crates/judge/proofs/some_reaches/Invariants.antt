-- `some_reaches` meets its contract, by the loop of FirstLaws.
use Prim.Native.Nat.{◌+◌, ◌*◌}
use mathlib.Core.Bool.{◌||◌}
use lib.Dec.{leb}
use lib.ListN.{get_or}
use Rattle.numbers.proofs.FirstLaws.{Passed}
use Rattle.extent.specs.Sides.{lon_first, lon_last}
use Rattle.judge.proofs.some_reaches.Given as goal

abbrev pub invariant-loop-k : goal.invariant-loop-k
invariant-loop-k l = Passed (λ i. leb (get_or l.sides (i * 4) 0) lon_first || leb lon_last (get_or l.sides (i * 4 + 1) 0)) l.n l.k
