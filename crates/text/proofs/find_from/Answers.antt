-- `text::find_from` meets its contract.
use native.Mathlib.Omega.{arith}
use Rattle.text.proofs.PartLaws.{up_to_here, up_to_more}
use Rattle.text.proofs.find_from.Goals as goal

pub returns-then-s-i : goal.returns-then-s-i
returns-then-s-i c =
    let a = c.args in
    omega (arith, up_to_here a.c a.s.now c.loop-i.i c.loop-i-test.true c.if-s-i.true)

pub loop-i-preserved : goal.loop-i-preserved
loop-i-preserved c =
    let a = c.args in
    omega (arith, up_to_more a.c a.s.now c.loop-i.i c.loop-i-test.true c.if-s-i.false)
