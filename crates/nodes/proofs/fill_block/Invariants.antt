-- `fill_block`: node by node, or, where all floats are plain, by their bits.
use Prim.Native.Nat.{◌≤◌}
use Rattle.nodes.specs.Plain.{Filled}
use Rattle.nodes.proofs.fill_block.Given as goal

abbrev pub invariant-loop-k : goal.invariant-loop-k
invariant-loop-k l = (l.a ≤ l.k) × (l.k ≤ l.e) × Filled l.q l.flag l.floats l.k l.nodes
