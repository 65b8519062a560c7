-- `choice::first_holder` meets its contract, by the loop of FirstLaws.
use mathlib.Core.Path.{sym}
use Rattle.numbers.proofs.FirstLaws.{passed_none, passed_more, passed_end, passed_found}
use Rattle.choice.proofs.HolderLaws.{held_at, held_none}
use Rattle.choice.proofs.first_holder.Goals as goal

pub loop-i-init : goal.loop-i-init
loop-i-init c = passed_none _ _

pub returns-then-rect_holds : goal.returns-then-rect_holds
returns-then-rect_holds c =
    let t = c.loop-i-test.true in
    held_at _ _ _ _ _ (passed_found _ _ _ c.loop-i.invariant t (sym c.if-rect_holds.ensures)) t

pub loop-i-preserved : goal.loop-i-preserved
loop-i-preserved c = passed_more _ _ _ c.loop-i.invariant c.loop-i-test.true (sym c.if-rect_holds.ensures)

pub returns : goal.returns
returns c =
    let t = c.loop-i-test.false in
    held_none _ _ _ _ _ (passed_end _ _ _ c.loop-i.invariant t) t
