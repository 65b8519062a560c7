-- `choice::chosen_at` meets its contract. The loop's invariant: c is the number of the grid chosen among the first i.
use mathlib.Core.Path.{refl}
use Rattle.choice.specs.Choice.{chosen}
use Rattle.choice.proofs.ChoiceLaws.{chosen≤}
use Rattle.choice.proofs.Turn.{chosen_more}
use native.Mathlib.Omega.{arith}
use borrow.Author.Rules.{rules}
use Rattle.choice.proofs.chosen_at.Goals as goal

pub loop-i-init : goal.loop-i-init
unfolding chosen
loop-i-init c = refl

pub better_of-c-requires : goal.better_of-c-requires
better_of-c-requires c = (omega arith, omega (arith, c.loop-i.invariant, chosen≤), search rules, search rules)

pub loop-i-preserved : goal.loop-i-preserved
loop-i-preserved c = chosen_more _ _ _ _ _ c.loop-i.invariant c.better_of-c.ensures
