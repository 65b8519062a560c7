-- Three lists stored one behind the other over a whole list.
use Prim.Native.Nat.{ℕ, ◌+◌}
use mathlib.Core.Path.{◌≡◌, ap, ◌∙◌}
use mathlib.Core.List.{List, ◌++◌, append_assoc}
use native.Mathlib.Omega.{arith}
use lib.ListN.{length, length-append}
use lib.Seq.{sets}
use Rattle.abi.proofs.ListLaws.{sets_append, sets_whole}

module _ {A : Type 0} where
  -- one list more behind another
  two : (l a b o₁ o₂ : List A) (i : ℕ) → i ≡ length a → o₁ ≡ sets l 0 a → o₂ ≡ sets o₁ i b → o₂ ≡ sets l 0 (a ++ b)
  two l a b o₁ o₂ i ei e₁ e₂ =
      let k : i ≡ 0 + length a = omega arith in
      e₂ ∙ (λ j. sets (e₁ j) (k j) b) ∙ sets_append l 0 a b

  -- x, y and z, which are a, b and c
  pub stored_three : (l a b c : List A) (i j : ℕ) → length l ≡ length a + (length b + length c) → i ≡ length a → j ≡ length a + length b
      → {x y z o₁ o₂ o₃ : List A} → x ≡ a → y ≡ b → z ≡ c → o₁ ≡ sets l 0 x → o₂ ≡ sets o₁ i y → o₃ ≡ sets o₂ j z → o₃ ≡ a ++ (b ++ c)
  stored_three l a b c i j e ei ej {x} {y} {z} {o₁} {o₂} {o₃} ex ey ez e₁ e₂ e₃ =
      two l (a ++ b) c o₂ o₃ j (omega (arith, length-append a b))
      (two l a b o₁ o₂ i ei (e₁ ∙ ap (λ (n : List A). sets l 0 n) ex) (e₂ ∙ ap (λ (n : List A). sets o₁ i n) ey))
      (e₃ ∙ ap (λ (n : List A). sets o₂ j n) ez)
      ∙ sets_whole l ((a ++ b) ++ c) (omega (arith, length-append (a ++ b) c, length-append a b)) ∙ append_assoc a b c
