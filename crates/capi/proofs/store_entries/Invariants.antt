-- `store_entries` meets its contract.
use lib.ListN.{get_or}
use Rattle.group.specs.Numbers.{grids_most}
use Rattle.inforce.specs.InForce.{blank_entry}
use Rattle.abi.proofs.ListLaws.{Run}
use Rattle.capi.specs.InForce.{entries_from, stored_entry}
use Rattle.capi.proofs.store_entries.Given as goal

abbrev pub invariant-loop-i : goal.invariant-loop-i
invariant-loop-i l = Run (λ k. stored_entry (get_or l.entries k blank_entry)) grids_most l.initial.out entries_from l.i l.out
