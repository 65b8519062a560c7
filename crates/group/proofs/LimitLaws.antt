-- What the limit of a spacing says of its size.
use Prim.Native.Nat.{◌≤◌}
use mathlib.Core.Path.{◌≡◌, refl}
use mathlib.Core.Bool.{true, ◌&&◌}
use lib.Dec.{leb}
use lib.IntN.{ℤ, pos, negsuc, neg_ℤ, nat_abs}
use lib.Signed.{le_z}
use borrow.Author.Tests.{leb-true}
use Rattle.numbers.proofs.Bools.{and_left, and_right, or_no, both}
use Rattle.numbers.proofs.OrderLaws.{within_size}
use Rattle.group.specs.Numbers.{spacing_most}
use Rattle.group.specs.Limits.{spacing_fits}

pub spacing_size : (d : ℤ) → spacing_fits d ≡ true → nat_abs d ≤ spacing_most
spacing_size (pos n) e = leb-true n spacing_most (and_right (leb 1 n) (leb n spacing_most) e)
spacing_size (negsuc n) e =
    let below = le_z (neg_ℤ (pos spacing_most)) (negsuc n) in
    within_size spacing_most (negsuc n) (both (and_left below (leb 0 n) (or_no (below && leb 0 n) e)) refl)
