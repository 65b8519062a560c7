-- `shown_list` meets its contract: each turn shows one entry more.
use mathlib.Core.Path.{◌≡◌}
use Rattle.inforce.specs.Handed.{shown_first}
use Rattle.inforce.proofs.shown_list.Given as goal

abbrev pub invariant-loop-i : goal.invariant-loop-i
invariant-loop-i l = l.entries ≡ shown_first l.l.entries l.i
