-- `text::read_digits` meets its contract.
use Prim.Native.Nat.{◌≤◌}
use mathlib.Core.Path.{◌≡◌}
use lib.ListN.{drop}
use Rattle.text.specs.Decimal.{digits_from}
use Rattle.text.specs.Number.{number_most, natural_of}
use Rattle.text.proofs.read_digits.Given as goal

abbrev pub invariant-loop-b : goal.invariant-loop-b
invariant-loop-b l = (l.m ≤ number_most) × (natural_of (digits_from l.m (drop l.b-index l.s)) ≡ natural_of (digits_from 0 l.s))
