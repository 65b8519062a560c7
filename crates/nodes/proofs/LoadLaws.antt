-- What loading does, said of its definitions: the rounding, the mark, and worked cases.
use Rattle.std.specs.Prelude.{Result, Ok, Err, ⊤}
use mathlib.Core.Path.{◌≡◌, refl, sym, ap, ◌∙◌, subst}
use mathlib.Core.Bool.{Bool, true, false, not, ◌&&◌}
use mathlib.Core.List.{List, [], ◌∷◌, map}
use mathlib.Core.Logic.{◌⊎◌, inl, inr}
use Prim.Native.Nat.{ℕ, ◌*◌, ◌^◌, ◌<◌}
use native.Mathlib.Omega.{arith}
use lib.Dec.{T, eqb}
use lib.IntN.{ℤ, pos, negsuc, nat_abs}
use lib.ListN.{get_or}
use lib.Ieee.{Float, nan, inf, fin, binary32, is_nan, fits, of_bits, to_bits, up, down}
use lib.Ieee.Bits.{of_bits-to_bits}
use lib.Ieee.Exact.{HasValue}
use borrow.Author.Tests.{eqb-true}
use Rattle.numbers.specs.Round.{nearest, gain, round_z}
use Rattle.numbers.specs.First.{first}
use Rattle.numbers.proofs.Bools.{and_right}
use Rattle.group.specs.declared.Refusal.{Refusal}
use Rattle.group.specs.Numbers.{mark}
use Rattle.group.specs.Refusals.{refusal, refuse_if, refuse_first, lent_after}
use Rattle.nodes.specs.Load.{signed, marks, steps, refused_float, node_of, loaded, nodes_after}
use Rattle.nodes.specs.Size.{size_of}
use Rattle.nodes.proofs.Fields.{value_nearest, sign}
use Rattle.nodes.proofs.Signed.{round_signed, size_signed}
use Rattle.nodes.proofs.Steps.{size_limit, node_size}

-- the loader's rounding is the product's one rounding, of the float's exact value ±a / c times 2^q
pub steps_nearest : (x : Float) (s : Bool) (a c q : ℕ) → 0 < c → HasValue x s a c → steps q x ≡ signed s (nearest (a * 2 ^ q) c)
unfolding steps
steps_nearest nan s a c q h v = absurd v
steps_nearest (inf t) s a c q h v = absurd v
steps_nearest (fin t m e) s a c q h v =
    round_signed t _ _ ∙ ap (λ (b : Bool). signed b (nearest (m * up e * 2 ^ q) (down e))) v.0 ∙ ap (signed s) (value_nearest m a c q e h v.1)

-- what is marked becomes the mark, and nothing else does
pub marked_node : (q : ℕ) (flag x : Float) → marks flag x ≡ true → node_of q flag x ≡ mark
unfolding node_of
marked_node q flag x h = rw h

pub only_marked : (q : ℕ) (flag x : Float) → refused_float q flag x ≡ false → node_of q flag x ≡ mark → marks flag x ≡ true
only_marked q flag x r e = go (marks flag x) refl
  where
    go : (b : Bool) → marks flag x ≡ b → marks flag x ≡ true
    go true h = h
    go false h =
        let s : size_of q x ≡ nat_abs mark = sym (size_signed (sign x) (size_of q x)) ∙ ap nat_abs (node_size q flag x h r ∙ e) in
        let l = size_limit q flag x h r in
        absurd (omega arith)

-- a NaN is marked, and of the other floats only the flag, bit by bit
pub marks_nan : (flag : Float) → marks flag nan ≡ true
unfolding marks is_nan
marks_nan flag = refl

same_bits : (flag x : Float) → fits binary32 x ≡ true → fits binary32 flag ≡ true → (not (is_nan flag) && eqb (to_bits binary32 x) (to_bits binary32 flag)) ≡ true → x ≡ flag
same_bits flag x f g e =
    let b = eqb-true (to_bits binary32 x) (to_bits binary32 flag) (and_right (not (is_nan flag)) _ e) in
    sym (of_bits-to_bits binary32 x (subst T (sym f) tt)) ∙ ap (of_bits binary32) b ∙ of_bits-to_bits binary32 flag (subst T (sym g) tt)

pub marks_only : (flag x : Float) → fits binary32 x ≡ true → fits binary32 flag ≡ true → marks flag x ≡ true → (x ≡ nan) ⊎ (x ≡ flag)
unfolding marks is_nan
marks_only flag nan f g e = inl refl
marks_only flag (inf s) f g e = inr (same_bits flag (inf s) f g e)
marks_only flag (fin s m d) f g e = inr (same_bits flag (fin s m d) f g e)

-- a call with one float and the node 7: the quantum, the bits of the flag and of the float, the answer, and the node afterwards
pub record Case : Type 0 where
  pub quantum : ℕ
  pub flag : ℕ
  pub bits : ℕ
  pub answer : Result ⊤ Refusal
  pub node : ℤ

abbrev case : ℕ → ℕ → ℕ → Result ⊤ Refusal → ℤ → Case
case q f b r z = record { quantum = q; flag = f; bits = b; answer = r; node = z }

-- a NaN as the flag; 0.5, 1.5, -1.5, -0, 4,000,000.5; 2,147,483,520, below zero too, and the next floats, ±2,147,483,648; the same over 2^20; infinity, a
-- NaN, the least float; a flag -0 and +0, a flag infinity, a flag -2,147,483,648
pub table : List Case
table = case 0 0x7fc0_0000 0x3f00_0000 (Ok tt) (pos 0)
    ∷ case 0 0x7fc0_0000 0x3fc0_0000 (Ok tt) (pos 2)
    ∷ case 0 0x7fc0_0000 0xbfc0_0000 (Ok tt) (negsuc 1)
    ∷ case 0 0x7fc0_0000 0x8000_0000 (Ok tt) (pos 0)
    ∷ case 0 0x7fc0_0000 0x4a74_2402 (Ok tt) (pos 4000000)
    ∷ case 0 0x7fc0_0000 0x4eff_ffff (Ok tt) (pos 2147483520)
    ∷ case 0 0x7fc0_0000 0xceff_ffff (Ok tt) (negsuc 2147483519)
    ∷ case 0 0x7fc0_0000 0x4f00_0000 (Err (refusal 11 1)) (pos 7)
    ∷ case 0 0x7fc0_0000 0xcf00_0000 (Err (refusal 11 1)) (pos 7)
    ∷ case 20 0x7fc0_0000 0x44ff_ffff (Ok tt) (pos 2147483520)
    ∷ case 20 0x7fc0_0000 0xc500_0000 (Err (refusal 11 1)) (pos 7)
    ∷ case 20 0x7fc0_0000 0x7f80_0000 (Err (refusal 11 1)) (pos 7)
    ∷ case 20 0x7fc0_0000 0x7fc0_0001 (Ok tt) mark
    ∷ case 20 0x7fc0_0000 0x0000_0001 (Ok tt) (pos 0)
    ∷ case 3 0x8000_0000 0x0000_0000 (Ok tt) (pos 0)
    ∷ case 3 0x8000_0000 0x8000_0000 (Ok tt) mark
    ∷ case 3 0x7f80_0000 0x7f80_0000 (Ok tt) mark
    ∷ case 0 0xcf00_0000 0xcf00_0000 (Ok tt) mark
    ∷ case 21 0x7fc0_0000 0x3f00_0000 (Err (refusal 2 0)) (pos 7)
    ∷ []

-- what the definitions make of a case
abbrev worked : Case → Case
worked c =
    let flag = of_bits binary32 c.flag in
    let floats = of_bits binary32 c.bits ∷ [] in
    record { quantum = c.quantum; flag = c.flag; bits = c.bits; answer = loaded c.quantum flag floats 1; node = get_or (nodes_after c.quantum flag floats (pos 7 ∷ [])) 0 (pos 0) }

pub cases : map worked table ≡ table
unfolding table loaded nodes_after refuse_if refuse_first lent_after first refused_float node_of steps marks round_z nearest gain of_bits to_bits is_nan
cases = refl
