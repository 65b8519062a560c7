-- `choice::first_holder` meets its contract, by the loop of FirstLaws.
use Rattle.numbers.proofs.FirstLaws.{Passed}
use Rattle.choice.specs.Rect.{rect_holds}
use Rattle.choice.proofs.first_holder.Given as goal

abbrev pub invariant-loop-i : goal.invariant-loop-i
invariant-loop-i l = Passed (λ k. rect_holds l.sides k l.x l.y) l.rows l.i
