-- `store_grids` meets its contract.
use lib.ListN.{get_or}
use Rattle.group.specs.Numbers.{grids_most}
use Rattle.abi.specs.Words.{grids_from}
use Rattle.group.specs.Record.{no_grid}
use Rattle.abi.specs.Abi.{grid_numbers}
use Rattle.abi.proofs.ListLaws.{Run}
use Rattle.abi.proofs.store_grids.Given as goal

abbrev pub invariant-loop-i : goal.invariant-loop-i
invariant-loop-i l = Run (λ k. grid_numbers (get_or l.g-items k no_grid)) grids_most l.initial.out grids_from l.i l.out
