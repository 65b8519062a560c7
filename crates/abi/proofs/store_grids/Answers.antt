-- `store_grids` meets its contract.
use mathlib.Core.Path.{refl}
use native.Mathlib.Omega.{arith}
use Rattle.group.specs.Numbers.{grids_most}
use Rattle.abi.specs.Words.{grid_words, grids_from}
use Rattle.abi.proofs.ListLaws.{run_none, run_more}
use Rattle.abi.proofs.store_grids.Goals as goal

pub loop-i-init : goal.loop-i-init
loop-i-init c = run_none _ grids_most _ grids_from

pub loop-i-preserved : goal.loop-i-preserved
loop-i-preserved c =
    run_more _ grid_words grids_most _ grids_from _ _ _ _ (λ k. refl) c.loop-i.invariant (omega arith) c.store_numbers.ensures c.grid_numbers.ensures
