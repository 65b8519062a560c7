-- `first_refused`: no float of the blocks before a is refused.
use Prim.Native.Nat.{◌-◌, min}
use lib.Ieee.{nan}
use lib.ListN.{length, get_or}
use Rattle.numbers.proofs.FirstLaws.{Passed}
use Rattle.nodes.specs.Load.{refused_float}
use Rattle.nodes.proofs.first_refused.Given as goal

abbrev pub invariant-loop-a : goal.invariant-loop-a
invariant-loop-a l = Passed (λ k. refused_float l.q l.flag (get_or l.floats k nan)) (length l.floats) (min l.a (length l.floats))

abbrev pub decreases-loop-a : goal.decreases-loop-a
decreases-loop-a l = length l.floats - l.a
