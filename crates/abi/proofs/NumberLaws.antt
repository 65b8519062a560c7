-- Signed numbers of a list where the record is unsigned, and signed numbers that a callee told.
use mathlib.Core.Path.{◌≡◌, ap, ◌∙◌}
use native.Mathlib.Nat.{min-eq_left}
use lib.IntN.{ℤ, pos}
use lib.Signed.{mag}
use mir.Syntax.{w64}
use mir.Val.{to_z, of_z}
use mir.Facts.{to_z-of_z}
use Prim.Native.Nat.{ℕ, ◌<◌, ◌≤◌, ◌^◌}
use Rattle.abi.specs.Abi.{signed_most, stored}

-- a result, read back of its bits
pub told : {x y : ℤ} → mag x < 2 ^ 63 → x ≡ y → to_z w64 (of_z w64 x) ≡ y
told {x} h e = to_z-of_z {w = w64} (record { sfits = h }) ∙ e

-- an unsigned number that is no greater than the greatest signed one is stored as it is
pub as_it_is : (n : ℕ) → n ≤ signed_most → stored n ≡ pos n
as_it_is n h = ap pos (min-eq_left {m = signed_most} h)
