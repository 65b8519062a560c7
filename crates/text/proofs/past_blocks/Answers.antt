-- `text::past_blocks` meets its contract.
use native.Mathlib.Omega.{arith}
use Rattle.text.proofs.PartLaws.{up_to_past}
use Rattle.text.proofs.past_blocks.Goals as goal

pub loop-i-preserved : goal.loop-i-preserved
loop-i-preserved c =
    let a = c.args in
    let v = c.loop-i.invariant in
    let p = up_to_past a.c a.s.now c.loop-i.i 16 (omega arith) (c.lacks.ensures c.if-lacks.true) in
    omega arith
