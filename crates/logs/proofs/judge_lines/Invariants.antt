-- `judge_lines` meets its contract.
use Prim.Native.Nat.{◌-◌}
use lib.ListN.{length}
use Rattle.abi.specs.Abi.{group_of_words}
use Rattle.logs.specs.Reading.{Scaled}
use Rattle.logs.proofs.LoopLaws.{Passed}
use Rattle.logs.proofs.judge_lines.Given as goal

abbrev pub invariant-loop-next : goal.invariant-loop-next
invariant-loop-next l = Passed (group_of_words l.words) l.nodes l.log l.next l.n × Scaled (group_of_words l.words) l.scale

abbrev pub decreases-loop-next : goal.decreases-loop-next
decreases-loop-next l = length l.log - l.next
