-- The stores of a group's parts, one behind the other, are the stores of the whole.
use Prim.Native.Nat.{ℕ, ◌+◌, ◌*◌}
use mathlib.Core.Path.{◌≡◌, refl, sym, ap, ◌∙◌}
use mathlib.Core.List.{List, ◌++◌}
use native.Mathlib.Omega.{arith}
use lib.IntN.{ℤ}
use lib.ListN.{length, length-append}
use lib.Seq.{sets}
use Rattle.group.specs.Numbers.{functions_most, grids_most}
use Rattle.abi.specs.Words.{head_words, function_words, grid_words, grids_from, group_words}
use Rattle.group.specs.declared.Group.{Group}
use Rattle.group.specs.Record.{function_at, grid_at}
use Rattle.abi.specs.Abi.{function_numbers, grid_numbers, head_numbers, joined, numbers_of}
use Rattle.abi.proofs.ListLaws.{sets_append, length_joined}

module _ (g : Group) where
  pub numbers_stored : (l h o p q : List ℤ) → h ≡ head_numbers g → o ≡ sets l 0 h → p ≡ sets o head_words (joined (λ k. function_numbers (function_at g k)) functions_most)
      → q ≡ sets p grids_from (joined (λ k. grid_numbers (grid_at g k)) grids_most) → q ≡ sets l 0 (numbers_of g)
  unfolding numbers_of
  numbers_stored l h o p q d a b c =
      let rs = joined (λ k. function_numbers (function_at g k)) functions_most in
      let gs = joined (λ k. grid_numbers (grid_at g k)) grids_most in
      let n : length rs ≡ functions_most * function_words = length_joined (λ k. function_numbers (function_at g k)) function_words functions_most (λ k l. refl) in
      c ∙ ap (λ (x : List ℤ). sets x grids_from gs) (b ∙ ap (λ (x : List ℤ). sets x head_words rs) (a ∙ ap (sets l 0) d))
      ∙ ap (λ (k : ℕ). sets (sets (sets l 0 (head_numbers g)) head_words rs) (head_words + k) gs) (sym n)
      ∙ sets_append (sets l 0 (head_numbers g)) head_words rs gs
      ∙ sets_append l 0 (head_numbers g) (rs ++ gs)

  pub numbers_length : length (numbers_of g) ≡ group_words
  unfolding numbers_of
  numbers_length =
      let rs = joined (λ k. function_numbers (function_at g k)) functions_most in
      let gs = joined (λ k. grid_numbers (grid_at g k)) grids_most in
      let n : length rs ≡ functions_most * function_words = length_joined (λ k. function_numbers (function_at g k)) function_words functions_most (λ k l. refl) in
      let m : length gs ≡ grids_most * grid_words = length_joined (λ k. grid_numbers (grid_at g k)) grid_words grids_most (λ k l. refl) in
      omega (arith, length-append (head_numbers g) (rs ++ gs), length-append rs gs)
