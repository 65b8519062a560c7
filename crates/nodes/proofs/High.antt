-- The size of a float within the limit as one quotient by 2^32: the digits, moved up by the exponent's field; and its node by its bits.
use mathlib.Core.Path.{◌≡◌, sym, ap, ◌∙◌, subst}
use mathlib.Core.Bool.{Bool, true, false, not}
use Prim.Native.Nat.{ℕ, ◌+◌, ◌-◌, ◌*◌, ◌/◌, ◌%◌, ◌^◌, ◌≤◌, ◌<◌, min}
use native.Mathlib.Nat.{mul_assoc, mul-le-mul, mul-one, le-min, le_of_lt, lt_of_lt_of_le}
use native.Mathlib.Decide.{dec_lt}
use native.Mathlib.Omega.{arith}
use lib.Dec.{T, leb, lit≤}
use lib.Pow.{pow_pos, pow_mono, pow-add, shl_exact, shl_lt}
use lib.Ieee.{Float, binary32, is_nan, fits, of_fields, of_bits, to_bits}
use Rattle.numbers.specs.Round.{nearest}
use Rattle.numbers.proofs.Nearest.{nearest_same, nearest_small, three_ways}
use Rattle.group.specs.Numbers.{quantum_most, value_most}
use Rattle.nodes.specs.Load.{signed, marks, refused_float, node_of}
use Rattle.nodes.specs.Size.{size_of}
use Rattle.nodes.proofs.Marks.{Read, unmarked}
use Rattle.nodes.proofs.ScaledLaws.{large, quotient, small}
use Rattle.nodes.proofs.Fields.{field_zero, field_some, field_ones, sign, sign_bits}
use Rattle.nodes.proofs.Steps.{uncut, size_limit, node_size}

-- digits d at 2^(u - 149), with u - 117 places of the quotient's 32 taken up
moved : (d u : ℕ) → d < 2 ^ 24 → nearest (d * 2 ^ u) (2 ^ 149) ≡ nearest (d * 2 ^ (u - 117)) (2 ^ 32)
moved d u h = elim (dec_lt u 117) [ yes l ↦ none l | no l ↦ some (omega arith) ]
  where
    none : u < 117 → nearest (d * 2 ^ u) (2 ^ 149) ≡ nearest (d * 2 ^ (u - 117)) (2 ^ 32)
    none l =
        let z : u - 117 ≡ 0 = omega arith in
        quotient d u (omega arith) ∙ small d (149 - u) h (omega arith)
        ∙ sym (ap (λ (k : ℕ). nearest (d * 2 ^ k) (2 ^ 32)) z ∙ ap (λ (k : ℕ). nearest k (2 ^ 32)) (mul-one d) ∙ small d 32 h (lit≤ tt))

    some : 117 ≤ u → nearest (d * 2 ^ u) (2 ^ 149) ≡ nearest (d * 2 ^ (u - 117)) (2 ^ 32)
    some l =
        let e : u + 32 ≡ u - 117 + 149 = omega arith in
        nearest_same (d * 2 ^ u) (2 ^ 149) (d * 2 ^ (u - 117)) (2 ^ 32) (pow_pos 149) (pow_pos 32)
        (mul_assoc d (2 ^ u) (2 ^ 32)
        ∙ ap (λ (k : ℕ). d * k) (sym (pow-add 2 u 32) ∙ ap (λ (k : ℕ). 2 ^ k) e ∙ pow-add 2 (u - 117) 149)
        ∙ sym (mul_assoc d (2 ^ (u - 117)) (2 ^ 149)))

-- how far the digits go up, and what the quotient then is
pub record High (n d k : ℕ) : Type 0 where
  pub room : k < 40
  pub size : n ≡ nearest (d * 2 ^ k) (2 ^ 32)

by_fields : (s : Bool) (x t q : ℕ) → q ≤ quantum_most → t < 2 ^ 23 → T (not (is_nan (of_fields binary32 s x t)))
    → size_of q (of_fields binary32 s x t) ≤ value_most → High (size_of q (of_fields binary32 s x t)) (8388608 + t) (x - (118 - q))
by_fields s x t q h l n m = three_ways x 0 (λ e. absurd (omega arith)) at_zero (λ e. three_ways x 255 (λ f. above (omega arith) (omega arith)) at_ones (λ f. above (omega arith) (omega arith)))
  where
    at_zero : x ≡ 0 → High (size_of q (of_fields binary32 s x t)) (8388608 + t) (x - (118 - q))
    at_zero e =
        let p : 2 ^ q ≤ 2 ^ 20 = pow_mono h in
        let b : t * 2 ^ q ≤ 2 ^ 23 * 2 ^ 20 = mul-le-mul (le_of_lt l) p in
        let g : 2 * (t * 2 ^ q) < 2 ^ 50 = omega arith in
        let z : x - (118 - q) ≡ 0 = omega arith in
        record {
          room = omega arith;
          size =
              field_zero s x t q e
              ∙ ap (λ (k : ℕ). min k (2 ^ 31)) (nearest_small (t * 2 ^ q) (2 ^ 149) (lt_of_lt_of_le g (lit≤ tt)))
              ∙ sym (ap (λ (k : ℕ). nearest ((8388608 + t) * 2 ^ k) (2 ^ 32)) z ∙ ap (λ (k : ℕ). nearest k (2 ^ 32)) (mul-one (8388608 + t)) ∙ nearest_small (8388608 + t) (2 ^ 32) (omega arith));
        }

    at_ones : x ≡ 255 → High (size_of q (of_fields binary32 s x t)) (8388608 + t) (x - (118 - q))
    at_ones e = let f = field_ones s x t q e n in absurd (omega arith)

    above : (x ≡ 0 → ⊥) → (x ≡ 255 → ⊥) → High (size_of q (of_fields binary32 s x t)) (8388608 + t) (x - (118 - q))
    above i j =
        let u = x - 1 + q in
        let f = field_some s x t q i j in
        let c : min (nearest ((8388608 + t) * 2 ^ u) (2 ^ 149)) (2 ^ 31) ≤ value_most = subst (λ (k : ℕ). k ≤ value_most) f m in
        let e : u - 117 ≡ x - (118 - q) = omega arith in
        let r : u < 157 = three_ways u 157 (λ k. k) (λ k. absurd (beyond u c (omega arith))) (λ k. absurd (beyond u c (omega arith))) in
        record {
          room = omega arith;
          size =
              f ∙ uncut (nearest ((8388608 + t) * 2 ^ u) (2 ^ 149)) c ∙ moved (8388608 + t) u (omega arith)
              ∙ ap (λ (k : ℕ). nearest ((8388608 + t) * 2 ^ k) (2 ^ 32)) e;
        }
      where
        beyond : (u : ℕ) → min (nearest ((8388608 + t) * 2 ^ u) (2 ^ 149)) (2 ^ 31) ≤ value_most → 157 ≤ u → ⊥
        beyond u c k = let b : 2 ^ 31 ≤ min (nearest ((8388608 + t) * 2 ^ u) (2 ^ 149)) (2 ^ 31) = le-min (large (8388608 + t) u (omega arith) k) (omega arith) in omega arith

pub high : (b q : ℕ) → q ≤ quantum_most → T (not (is_nan (of_bits binary32 b))) → size_of q (of_bits binary32 b) ≤ value_most
    → High (size_of q (of_bits binary32 b)) (8388608 + b % 8388608) (b % 2147483648 / 8388608 - (118 - q))
unfolding of_bits
high b q h n m = by_fields (leb 2147483648 b) (b % 2147483648 / 8388608) (b % 8388608) q h (omega arith) n m

-- 24 digits go up by less than 40 places within 63 bits
pub shifted : (d k : ℕ) → d < 2 ^ 24 → k < 40 → (d * 2 ^ k % 2 ^ 64 ≡ d * 2 ^ k) × (d * 2 ^ k < 2 ^ 63)
shifted d k h l = let m : 24 + k ≤ 63 = omega arith in (shl_exact 24 k 64 h (omega arith), lt_of_lt_of_le (shl_lt 24 k h) (pow_mono m))

-- the node of a float that is neither marked nor refused, by its bits
pub record ByBits (q : ℕ) (flag x : Float) : Type 0 where
  pub read : Read x
  pub number : T (not (is_nan (of_bits binary32 (to_bits binary32 x))))
  pub small : size_of q (of_bits binary32 (to_bits binary32 x)) ≤ value_most
  pub node : signed (leb 2147483648 (to_bits binary32 x)) (size_of q (of_bits binary32 (to_bits binary32 x))) ≡ node_of q flag x

pub by_bits : (q : ℕ) (flag x : Float) → fits binary32 x ≡ true → marks flag x ≡ false → refused_float q flag x ≡ false → ByBits q flag x
by_bits q flag x f m r =
    let d = unmarked flag x f m in
    let b = to_bits binary32 x in
    let n : T (not (is_nan (of_bits binary32 b))) = subst (λ (y : Float). T (not (is_nan y))) (sym d.back) d.number in
    record {
      read = d;
      number = n;
      small = subst (λ (y : Float). size_of q y ≤ value_most) (sym d.back) (size_limit q flag x m r);
      node =
          ap (signed (leb 2147483648 b)) (ap (size_of q) d.back)
          ∙ ap (λ (s : Bool). signed s (size_of q x)) (sym (sign_bits b n) ∙ ap sign d.back)
          ∙ node_size q flag x m r;
    }
