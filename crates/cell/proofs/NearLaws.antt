-- Corners near 0: how large they are, and that each holds a node value.
use Prim.Native.Nat.{◌≤◌}
use mathlib.Core.Path.{◌≡◌, ap, ◌∙◌}
use mathlib.Core.Bool.{true, false, not, ◌&&◌}
use mathlib.Core.Logic.{inr}
use native.Mathlib.Omega.{arith}
use borrow.Author.Tests.{le-leb}
use lib.IntN.{ℤ, nat_abs}
use Rattle.numbers.specs.Order.{within}
use Rattle.numbers.proofs.Bools.{and_left, and_right}
use Rattle.numbers.proofs.OrderLaws.{within_size, within_test}
use Rattle.group.specs.Numbers.{value_most}
use Rattle.cell.specs.declared.Weights.{Weights}
use Rattle.cell.specs.declared.Corners.{Corners}
use Rattle.cell.specs.Cell.{is_beyond}
use Rattle.cell.specs.Used.{EachUsed}
use Rattle.cell.specs.Unsigned.{near_most, corners_near}

pub record NearSizes (v : Corners) : Type 0 where
  pub at00 : nat_abs v.v00 ≤ near_most
  pub at10 : nat_abs v.v10 ≤ near_most
  pub at01 : nat_abs v.v01 ≤ near_most
  pub at11 : nat_abs v.v11 ≤ near_most

pub near_sizes : (v : Corners) → corners_near v ≡ true → NearSizes v
unfolding corners_near
near_sizes v e =
    let a = within near_most v.v00 in let b = within near_most v.v10 in let c = within near_most v.v01 in let d = within near_most v.v11 in
    let abc = and_left (a && b && c) d e in let ab = and_left (a && b) c abc in
    record {
      at00 = within_size near_most v.v00 (and_left a b ab);
      at10 = within_size near_most v.v10 (and_right a b ab);
      at01 = within_size near_most v.v01 (and_right (a && b) c abc);
      at11 = within_size near_most v.v11 (and_right (a && b && c) d e);
    }

pub near_values : (w : Weights) (v : Corners) → corners_near v ≡ true → EachUsed (λ z. is_beyond z ≡ false) w v
near_values w v e =
    let s = near_sizes v e in
    record { at00 = inr (value v.v00 s.at00); at10 = inr (value v.v10 s.at10); at01 = inr (value v.v01 s.at01); at11 = inr (value v.v11 s.at11) }
  where
    value : (z : ℤ) → nat_abs z ≤ near_most → is_beyond z ≡ false
    value z h = ap not (within_test value_most z ∙ le-leb (nat_abs z) value_most (omega arith))
