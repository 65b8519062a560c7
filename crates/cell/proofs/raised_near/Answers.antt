-- `raised_near` meets its contract.
use Prim.Native.Nat.{◌≤◌}
use mathlib.Core.Path.{◌≡◌, sym, subst}
use native.Mathlib.Omega.{arith}
use lib.IntN.{ℤ, pos, ◌+ℤ◌, nat_abs}
use Rattle.cell.specs.Unsigned.{near_most}
use Rattle.cell.proofs.WideLaws.{wide_fits, wide_same}
use Rattle.cell.proofs.raised_near.Goals as goal

pub overflow_cast-v : goal.overflow_cast-v
overflow_cast-v c = wide_fits c.args.v c.ranges.v

pub lifted-requires : goal.lifted-requires
lifted-requires c = (subst (λ (z : ℤ). nat_abs z ≤ near_most) (sym (wide_same c.args.v c.ranges.v)) c.requires, omega arith)

pub returns : goal.returns
returns c =
    subst (λ (z : ℤ). z +ℤ pos near_most ≡ pos c.lifted.result) (wide_same c.args.v c.ranges.v) c.lifted.ensures
