-- `bits_node`: the digits moved up, rounded, and the sign.
use mathlib.Core.Path.{◌≡◌, sym, ap, ◌∙◌, subst}
use mathlib.Core.Bool.{not}
use Prim.Native.Nat.{ℕ, ◌+◌, ◌-◌, ◌*◌, ◌/◌, ◌%◌, ◌^◌, ◌≤◌, ◌<◌}
use native.Mathlib.Omega.{arith}
use lib.Dec.{T, leb}
use lib.Ieee.{binary32, is_nan, of_bits}
use mir.Syntax.{w32}
use mir.ValLaws.{to_z-of_z}
use Rattle.numbers.specs.Round.{nearest}
use Rattle.group.specs.Numbers.{quantum_most, value_most}
use Rattle.nodes.specs.Load.{signed}
use Rattle.nodes.specs.Size.{size_of}
use Rattle.nodes.proofs.High.{High, high, shifted}
use Rattle.nodes.proofs.bits_node.Goals as goal

-- the digits d of the float with the bits b, moved up by u
record Raised (b q d u : ℕ) : Type 0 where
  room : u < 64
  fits : d * 2 ^ u % 2 ^ 64 < 2 ^ 63
  size : nearest (d * 2 ^ u % 2 ^ 64) (2 ^ 32) ≡ size_of q (of_bits binary32 b)

raised : (b q d u : ℕ) → (q ≤ quantum_most) × T (not (is_nan (of_bits binary32 b))) × (size_of q (of_bits binary32 b) ≤ value_most)
    → d ≡ 8388608 + b % 8388608 → u ≡ b % 2147483648 / 8388608 - (118 - q) → Raised b q d u
raised b q d u r e f =
    let at_size : High (size_of q (of_bits binary32 b)) d u = rw (e, f) (high b q r.0 r.1 r.2) in
    let room = at_size.room in
    let kept = shifted d u (omega arith) room in
    record {
      room = omega arith;
      fits = subst (λ (n : ℕ). n < 2 ^ 63) (sym kept.0) kept.1;
      size = ap (λ (n : ℕ). nearest n (2 ^ 32)) kept.0 ∙ sym at_size.size;
    }

pub overflow_shl-from : goal.overflow_shl-from
overflow_shl-from c =
    let r = raised c.args.b c.args.q _ _ c.requires c.from.ensures c.saturating_sub-up.ensures in let l = r.room in omega arith

pub nearest_shifted_32-requires : goal.nearest_shifted_32-requires
nearest_shifted_32-requires c = (raised c.args.b c.args.q _ _ c.requires c.from.ensures c.saturating_sub-up.ensures).fits

pub with_sign-requires : goal.with_sign-requires
with_sign-requires c =
    let r = raised c.args.b c.args.q _ _ c.requires c.from.ensures c.saturating_sub-up.ensures in
    let l = c.requires.2 in
    omega (arith, c.nearest_shifted_32.ensures ∙ r.size)

pub returns : goal.returns
returns c =
    let r = raised c.args.b c.args.q _ _ c.requires c.from.ensures c.saturating_sub-up.ensures in
    to_z-of_z w32 _ (record { sfits = c.with_sign.type_inv })
    ∙ c.with_sign.ensures
    ∙ ap (signed (leb 2147483648 c.args.b)) (c.nearest_shifted_32.ensures ∙ r.size)
