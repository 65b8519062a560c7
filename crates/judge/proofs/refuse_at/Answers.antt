-- `refuse_at` meets its contract.
use mathlib.Core.Path.{sym}
use Rattle.judge.proofs.JudgeLaws.{stage_here, stage_past}
use Rattle.judge.proofs.refuse_at.Goals as goal

pub returns-then-i-n : goal.returns-then-i-n
returns-then-i-n c = sym (stage_here _ _ _ _ c.if-i-n.true)

pub returns : goal.returns
returns c = sym (stage_past _ _ _ _ c.if-i-n.false)
