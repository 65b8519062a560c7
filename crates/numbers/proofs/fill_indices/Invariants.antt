-- `fill_indices` meets its contract: each turn stores one number more.
use Rattle.numbers.specs.Lists.{Indices}
use Rattle.numbers.proofs.fill_indices.Given as goal

abbrev pub invariant-loop-i : goal.invariant-loop-i
invariant-loop-i l = Indices l.i l.place-items
