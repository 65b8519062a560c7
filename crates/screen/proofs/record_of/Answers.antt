-- `record_of`: five times +0 after a refusal.
use Rattle.std.proofs.Common.{sym, ap}
use lib.Ieee.{of_bits}
use Rattle.screen.specs.Screen.{record_of}
use Rattle.screen.proofs.record_of.Goals as goal

pub returns-in-Err : goal.returns-in-Err
unfolding record_of of_bits
returns-in-Err c = ap (record_of c.args.point) (sym c.in-Err.is)
