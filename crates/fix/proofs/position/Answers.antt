-- `position` meets its contract: the position stays within the grid's node range.
use native.Mathlib.Omega.{arith}
use Rattle.fix.proofs.OffsetLaws.{stands}
use Rattle.fix.proofs.position.Goals as goal

pub overflow_mul-result : goal.overflow_mul-result
overflow_mul-result c =
    omega (arith, stands c.requires.0 c.args.i c.args.j 0 c.requires.1 c.requires.2 c.requires.3)

pub overflow_add-result : goal.overflow_add-result
overflow_add-result c =
    omega (arith, stands c.requires.0 c.args.i c.args.j 0 c.requires.1 c.requires.2 c.requires.3)

pub overflow_mul-result-2 : goal.overflow_mul-result-2
overflow_mul-result-2 c =
    omega (arith, stands c.requires.0 c.args.i c.args.j 0 c.requires.1 c.requires.2 c.requires.3)

pub overflow_add-result-2 : goal.overflow_add-result-2
overflow_add-result-2 c =
    omega (arith, stands c.requires.0 c.args.i c.args.j 0 c.requires.1 c.requires.2 c.requires.3)
