-- A number by its sign and its size: its rounding and its size.
use mathlib.Core.Path.{◌≡◌, refl, ap, ◌∙◌}
use mathlib.Core.Bool.{Bool, true, false}
use Prim.Native.Nat.{ℕ}
use lib.IntN.{nat_abs}
use Rattle.numbers.specs.Round.{nearest, round_z}
use Rattle.numbers.proofs.RoundZ.{round_pos, round_negpos}
use Rattle.numbers.proofs.OrderLaws.{size_neg}
use Rattle.nodes.specs.Load.{signed}

pub round_signed : (s : Bool) (n d : ℕ) → round_z (signed s n) d ≡ signed s (nearest n d)
round_signed false n d = round_pos n d
round_signed true n d = round_negpos n d

pub size_signed : (s : Bool) (n : ℕ) → nat_abs (signed s n) ≡ n
size_signed false n = refl
size_signed true n = size_neg n

pub size_rounded : (s : Bool) (n d : ℕ) → nat_abs (round_z (signed s n) d) ≡ nearest n d
size_rounded s n d = ap nat_abs (round_signed s n d) ∙ size_signed s (nearest n d)
