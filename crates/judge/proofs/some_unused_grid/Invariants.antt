-- `some_unused_grid` meets its contract, by the loop of FirstLaws.
use mathlib.Core.Bool.{not, ◌&&◌}
use lib.Dec.{leb}
use Rattle.numbers.proofs.FirstLaws.{Passed}
use Rattle.group.specs.Numbers.{grids_most}
use Rattle.group.specs.Limits.{grid_blank}
use Rattle.abi.specs.Abi.{grid_of_words}
use Rattle.judge.proofs.some_unused_grid.Given as goal

abbrev pub invariant-loop-k : goal.invariant-loop-k
invariant-loop-k l = Passed (λ j. leb l.from j && not (grid_blank (grid_of_words l.words j))) grids_most l.k
