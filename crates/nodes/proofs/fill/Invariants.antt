-- `fill`: block after block.
use Prim.Native.Nat.{◌-◌, min}
use lib.ListN.{length}
use Rattle.nodes.specs.Plain.{Filled}
use Rattle.nodes.proofs.fill.Given as goal

abbrev pub invariant-loop-a : goal.invariant-loop-a
invariant-loop-a l = Filled l.q l.flag l.floats (min l.a (length l.floats)) l.nodes

abbrev pub decreases-loop-a : goal.decreases-loop-a
decreases-loop-a l = length l.floats - l.a
