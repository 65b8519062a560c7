-- `choice::chosen_at` meets its contract. The loop's invariant: c is the number of the grid chosen among the first i.
use mathlib.Core.Path.{◌≡◌}
use Rattle.numbers.specs.Lists.{at}
use Rattle.choice.specs.Rect.{turn_holds}
use Rattle.choice.specs.Choice.{chosen}
use Rattle.choice.proofs.chosen_at.Given as goal

abbrev pub invariant-loop-i : goal.invariant-loop-i
invariant-loop-i l =
    l.c ≡ chosen (λ i. turn_holds l.turn l.sides i l.x l.y) (at l.ranks) l.i
