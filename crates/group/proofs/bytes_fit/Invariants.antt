-- `bytes_fit`: so far every byte is right.
use mathlib.Core.Path.{◌≡◌}
use Rattle.numbers.specs.First.{every}
use Rattle.group.specs.Limits.{byte_fits}
use Rattle.group.proofs.bytes_fit.Given as goal

abbrev pub invariant-loop-i : goal.invariant-loop-i
invariant-loop-i l = l.fit ≡ every (byte_fits l.fn.name) l.i
