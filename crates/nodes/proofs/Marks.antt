-- Which floats are NaN, as the code tests it, and what the bits say of the others.
use mathlib.Core.Path.{◌≡◌, refl, sym, subst}
use mathlib.Core.Bool.{Bool, true, false, not, ◌&&◌, ◌||◌, beq}
use Prim.Native.Nat.{ℕ, ◌*◌, ◌^◌, ◌<◌}
use lib.Dec.{T, eqb, eqb_refl}
use lib.Ieee.{Float, nan, inf, fin, binary32, is_nan, fits, of_bits, to_bits, ne, eq, up, down}
use lib.Ieee.Bits.{is_true, of_bits-to_bits, to_bits-lt}
use Rattle.nodes.specs.Load.{marks}

same_sign : (s : Bool) → beq s s ≡ true
same_sign true = refl
same_sign false = refl

level_self : (s : Bool) (a : ℕ) → not (eqb a a && (beq s s || eqb a 0)) ≡ false
level_self s a = rw (is_true (eqb a a) (eqb_refl a), same_sign)

-- a float that differs from itself is a NaN
pub ne_nan : (x : Float) → ne x x ≡ is_nan x
unfolding ne eq is_nan
ne_nan nan = refl
ne_nan (inf s) = rw same_sign
ne_nan (fin s m e) = level_self s (m * up e * down e)

-- x is a number or an infinity, and is what its bits say
pub record Read (x : Float) : Type 0 where
  pub number : T (not (is_nan x))
  pub back : of_bits binary32 (to_bits binary32 x) ≡ x
  pub bound : to_bits binary32 x < 2 ^ 32

unmarked_number : (flag x : Float) → marks flag x ≡ false → T (not (is_nan x))
unfolding marks is_nan
unmarked_number flag nan h = subst T h tt
unmarked_number flag (inf s) h = tt
unmarked_number flag (fin s m e) h = tt

pub unmarked : (flag x : Float) → fits binary32 x ≡ true → marks flag x ≡ false → Read x
unmarked flag x f h =
    let t = subst T (sym f) tt in
    record { number = unmarked_number flag x h; back = of_bits-to_bits binary32 x t; bound = to_bits-lt binary32 x t }
