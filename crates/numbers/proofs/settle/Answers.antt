-- `settle`: below, above and at the tie.
use Prim.Native.Nat.{◌*◌}
use native.Mathlib.Omega.{arith}
use Rattle.numbers.proofs.Nearest.{gain_0, gain_1, gain_tie}
use Rattle.numbers.proofs.settle.Goals as goal

pub returns-then-r-s : goal.returns-then-r-s
returns-then-r-s c = let a = c.args in let g = gain_0 (2 * a.r) a.d a.q (omega arith) in omega arith

pub returns-then-s-r : goal.returns-then-s-r
returns-then-s-r c = let a = c.args in let g = gain_1 (2 * a.r) a.d a.q (omega arith) in omega arith

pub returns : goal.returns
returns c = let a = c.args in let g = gain_tie (2 * a.r) a.d a.q (omega arith) in omega arith
