-- `text::lacks` meets its contract.
use mathlib.Core.Path.{◌≡◌}
use mathlib.Core.Bool.{true}
use Rattle.text.specs.Parts.{Lacks}
use Rattle.text.proofs.lacks.Given as goal

abbrev pub invariant-loop-k : goal.invariant-loop-k
invariant-loop-k l = l.none ≡ true → Lacks l.c l.s l.a l.k
