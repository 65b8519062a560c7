-- Order 6 of the limits: which spacings and node values they admit.
use Prim.Native.Nat.{◌-◌, ◌≤◌}
use mathlib.Core.Path.{◌≡◌, refl, ◌∙◌}
use mathlib.Core.Bool.{true}
use native.Mathlib.Omega.{arith}
use borrow.Author.Tests.{leb-true, le-leb}
use lib.Dec.{leb}
use lib.IntN.{ℤ, pos, negsuc, nat_abs}
use Rattle.numbers.proofs.Bools.{and_left, both}
use Rattle.numbers.proofs.OrderLaws.{within_size, within_test}
use Rattle.group.specs.Numbers.{spacing_most, value_most}
use Rattle.group.specs.Limits.{spacing_fits}
use Rattle.group.specs.Order6.{SpacingSizes, ValueSizes}
use Rattle.group.proofs.LimitLaws.{spacing_size}

pub spacing_sizes : (d : ℤ) → SpacingSizes d
spacing_sizes d = (λ e. (least d e, spacing_size d e), λ s. fits d s.0 s.1)
  where
    least : (d : ℤ) → spacing_fits d ≡ true → 1 ≤ nat_abs d
    least (pos n) e = leb-true 1 n (and_left (leb 1 n) (leb n spacing_most) e)
    least (negsuc n) e = omega arith

    fits : (d : ℤ) → 1 ≤ nat_abs d → nat_abs d ≤ spacing_most → spacing_fits d ≡ true
    fits (pos n) l m = both (le-leb 1 n l) (le-leb n spacing_most m)
    fits (negsuc n) l m = rw (le-leb n (spacing_most - 1) (omega arith), le-leb 0 n (omega arith)) refl

pub value_sizes : (v : ℤ) → ValueSizes v
value_sizes v = (within_size value_most v, λ s. within_test value_most v ∙ le-leb (nat_abs v) value_most s)
