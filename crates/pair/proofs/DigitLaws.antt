-- The estimate of a quotient's digit, which `digit` lowers until it is the digit: laws over the divisor's two digits.
use Prim.Native.Nat.{ℕ, ◌+◌, ◌-◌, ◌*◌, ◌/◌, ◌%◌, ◌^◌, ◌≤◌, ◌<◌}
use mathlib.Core.Path.{◌≡◌, sym, ap, ◌∙◌}
use native.Mathlib.Nat.{mul-le-mul_right, mul_assoc, mul-add, add-mul, one-mul, zero-mul, div-add-mod', mod-lt, lt_of_mul-lt-mul_right}
use native.Mathlib.Decide.{dec_lt}
use native.Mathlib.Omega.{arith}

abbrev pub upper : ℕ → ℕ
upper d = d / 2 ^ 32

abbrev pub lower : ℕ → ℕ
lower d = d % 2 ^ 32

-- what is to be divided: one digit x behind r
abbrev pub number : (r x : ℕ) → ℕ
number r x = r * 2 ^ 32 + x

-- what `digit` may assume
pub record Divides (r x d : ℕ) : Type 0 where
  pub top : 2 ^ 63 ≤ d
  pub word : d < 2 ^ 64
  pub under : r < d
  pub one : x < 2 ^ 32

-- q is the digit or more, and leaves s of r by the divisor's upper digit
pub record Estimate (r x d q s : ℕ) : Type 0 where
  pub sum : q * upper d + s ≡ r
  pub most : number r x < (q + 1) * d
  pub short : q ≤ 2 ^ 32 + 1

-- q times the divisor, digit by digit
spread : (q d : ℕ) → q * d ≡ q * upper d * 2 ^ 32 + q * lower d
spread q d =
    ap (λ (y : ℕ). q * y) (sym (div-add-mod' d (2 ^ 32))) ∙ mul-add q (upper d * 2 ^ 32) (lower d)
    ∙ ap (λ (y : ℕ). y + q * lower d) (sym (mul_assoc q (upper d) (2 ^ 32)))

-- and one time more
one_more : (q d : ℕ) → (q + 1) * d ≡ q * d + d
one_more q d = add-mul q 1 d ∙ ap (λ (y : ℕ). q * d + y) (one-mul d)

module _ (r x d : ℕ) (g : Divides r x d) where
  pub upper_pos : 0 < upper d
  upper_pos = omega arith

  pub first_estimate : Estimate r x d (r / upper d) (r - r / upper d * upper d)
  first_estimate =
      let q = r / upper d in
      let e = div-add-mod' r (upper d) in
      let l = mod-lt r upper_pos in
      let m = one_more q (upper d) in
      record { sum = omega arith; most = omega (arith, spread (q + 1) d); short = bounded (dec_lt (2 ^ 32 + 1) q) }
    where
      bounded : Dec (2 ^ 32 + 1 < r / upper d) → r / upper d ≤ 2 ^ 32 + 1
      bounded (yes h) =
          let m : (2 ^ 32 + 2) * upper d ≤ r / upper d * upper d = mul-le-mul_right (upper d) (omega arith) in
          absurd (omega (arith, div-add-mod' r (upper d)))
      bounded (no h) = omega arith

  module _ (q s : ℕ) (i : Estimate r x d q s) where
    -- too much: the next estimate is one less
    pub positive : number s x < q * lower d → 0 < q
    positive t = go (dec_lt 0 q)
      where
        go : Dec (0 < q) → 0 < q
        go (yes h) = h
        go (no h) =
            let e : q ≡ 0 = omega arith in
            let z : q * lower d ≡ 0 = ap (λ (y : ℕ). y * lower d) e ∙ zero-mul (lower d) in
            absurd (omega arith)

    pub next_estimate : number s x < q * lower d → Estimate r x d (q - 1) (s + upper d)
    next_estimate t =
        let p = positive t in
        let e : q - 1 + 1 ≡ q = omega arith in
        let m : (q - 1) * upper d + upper d ≡ q * upper d = sym (one_more (q - 1) (upper d)) ∙ ap (λ (y : ℕ). y * upper d) e in
        let n : (q - 1 + 1) * d ≡ q * d = ap (λ (y : ℕ). y * d) e in
        record { sum = omega (arith, i.sum); most = omega (arith, spread q d, i.sum); short = omega (arith, i.short) }

    -- not too much: the estimate is the digit
    module _ (t : q * lower d ≤ number s x) where
      pub rest_below : number s x < q * lower d + d
      rest_below = omega (arith, spread q d, one_more q d, i.sum, i.most)

      pub is_whole : (rest : ℕ) → q * lower d + rest ≡ number s x → q * d + rest ≡ number r x
      is_whole rest e = omega (arith, spread q d, i.sum)

      pub is_digit : q < 2 ^ 32
      is_digit = lt_of_mul-lt-mul_right d (omega (arith, spread q d, i.sum))
