-- What a loop that overwrites a list from the front has made of it after i turns.
use mathlib.Core.Path.{◌≡◌, sym, ◌∙◌, ap}
use Prim.Native.Nat.{ℕ, suc, ◌<◌, ◌≤◌}
use native.Mathlib.Nat.{le_of_lt}
use native.Mathlib.Omega.{arith}
use mathlib.Core.List.{List, ◌++◌}
use lib.ListN.{length, get_or, take, drop, set, length-append, length-drop}
use lib.Seq.{take-suc, drop-cons, set_at, append_snoc, length-take-le}

-- the first i elements of s, then d from i on
abbrev pub filled : {A : Type 0} → List A → List A → ℕ → List A
filled s d i = take i s ++ drop i d

module _ {A : Type 0} (s d : List A) where
  pub filled_suc : (i : ℕ) (z : A) → i < length s → i < length d → set (filled s d i) i (get_or s i z) ≡ filled s d (suc i)
  filled_suc i z hs hd =
      ap (λ (r : List A). set (take i s ++ r) i (get_or s i z)) (drop-cons d i z hd)
      ∙ set_at (take i s) (get_or d i z) (drop (suc i) d) (get_or s i z) i (length-take-le i s (le_of_lt hs))
      ∙ sym (append_snoc (take i s) (get_or s i z) (drop (suc i) d))
      ∙ ap (λ (r : List A). r ++ drop (suc i) d) (sym (take-suc s i z hs))

  pub filled_length : (i : ℕ) → i ≤ length s → i ≤ length d → length (filled s d i) ≡ length d
  filled_length i hs hd =
      let h : length (take i s) ≡ i = length-take-le i s hs in
      omega (arith, length-append (take i s) (drop i d), length-drop i d)
