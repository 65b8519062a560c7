-- The 24 bytes of a name in three numbers: what was packed is read back.
use Prim.Native.Nat.{ℕ, zero, suc, ◌+◌, ◌*◌, ◌/◌, ◌%◌, ◌≤◌, ◌<◌}
use mathlib.Core.Path.{◌≡◌, refl, ap, ◌∙◌}
use mathlib.Core.List.{List, [], ◌∷◌}
use native.Mathlib.Omega.{arith}
use lib.IntN.{ℤ}
use lib.ListN.{length, get_or}
use Rattle.group.specs.Numbers.{name_most}
use Rattle.abi.specs.Words.{name_words}
use Rattle.group.specs.declared.Name.{Name}
use Rattle.std.specs.Int.{w64, from_le_bytes}
use Rattle.abi.specs.Abi.{list_of, byte_at, byte_of, count_at, four_of, word_of, name_of_words, signed_most}
use Rattle.abi.proofs.ListLaws.{list_of_is}

-- eight bytes in one number
module _ (a b c d e f g h : ℕ) (pa : a < 256) (pb : b < 256) (pc : c < 256) (pd : d < 256) (pe : e < 256) (pf : f < 256) (pg : g < 256) (ph : h < 256) where
  eight : (j : ℕ) → j < 8 → byte_of (four_of a b c d + four_of e f g h * 4294967296) j ≡ get_or (a ∷ b ∷ c ∷ d ∷ e ∷ f ∷ g ∷ h ∷ []) j 0
  eight zero l = omega arith
  eight (suc zero) l = omega arith
  eight (suc (suc zero)) l = omega arith
  eight (suc (suc (suc zero))) l = omega arith
  eight (suc (suc (suc (suc zero)))) l = omega arith
  eight (suc (suc (suc (suc (suc zero))))) l = omega arith
  eight (suc (suc (suc (suc (suc (suc zero)))))) l = omega arith
  eight (suc (suc (suc (suc (suc (suc (suc zero))))))) l = omega arith
  eight (suc (suc (suc (suc (suc (suc (suc (suc j)))))))) l = absurd (omega arith)

picked : (bs : List ℕ) (i j : ℕ) → j < 8 → get_or (byte_at bs i ∷ byte_at bs (i + 1) ∷ byte_at bs (i + 2) ∷ byte_at bs (i + 3) ∷ byte_at bs (i + 4) ∷ byte_at bs (i + 5) ∷ byte_at bs (i + 6) ∷ byte_at bs (i + 7) ∷ []) j 0 ≡ byte_at bs (i + j)
picked bs i zero l = ap (byte_at bs) (omega arith)
picked bs i (suc zero) l = refl
picked bs i (suc (suc zero)) l = refl
picked bs i (suc (suc (suc zero))) l = refl
picked bs i (suc (suc (suc (suc zero)))) l = refl
picked bs i (suc (suc (suc (suc (suc zero))))) l = refl
picked bs i (suc (suc (suc (suc (suc (suc zero)))))) l = refl
picked bs i (suc (suc (suc (suc (suc (suc (suc zero))))))) l = refl
picked bs i (suc (suc (suc (suc (suc (suc (suc (suc j)))))))) l = absurd (omega arith)

module _ (bs : List ℕ) (small : (j : ℕ) → j < name_most → byte_at bs j < 256) where
  byte : (w j : ℕ) → w < name_words → j < 8 → byte_at bs (w * 8 + j) < 256
  byte w j a b = small (w * 8 + j) (omega arith)

  low : (w : ℕ) → w < name_words → byte_at bs (w * 8) < 256
  low w a = small (w * 8) (omega arith)

  pub word_most : (w : ℕ) → w < name_words → byte_at bs (w * 8 + 7) < 128 → word_of bs w ≤ signed_most
  unfolding word_of
  word_most w l p =
      omega (
        arith,
        low w l,
        byte w 1 l (omega arith),
        byte w 2 l (omega arith),
        byte w 3 l (omega arith),
        byte w 4 l (omega arith),
        byte w 5 l (omega arith),
        byte w 6 l (omega arith),
      )

  pub word_byte : (w j : ℕ) → w < name_words → j < 8 → byte_of (word_of bs w) j ≡ byte_at bs (w * 8 + j)
  unfolding word_of
  word_byte w j l m =
      eight (byte_at bs (w * 8)) (byte_at bs (w * 8 + 1)) (byte_at bs (w * 8 + 2)) (byte_at bs (w * 8 + 3)) (byte_at bs (w * 8 + 4)) (byte_at bs (w * 8 + 5)) (byte_at bs (w * 8 + 6)) (byte_at bs (w * 8 + 7))
      (low w l) (byte w 1 l (omega arith)) (byte w 2 l (omega arith)) (byte w 3 l (omega arith))
      (byte w 4 l (omega arith)) (byte w 5 l (omega arith)) (byte w 6 l (omega arith)) (byte w 7 l (omega arith)) j m
      ∙ picked bs (w * 8) j m

-- the number of a name's eight bytes, as std reads them
pub word_read : (bs : List ℕ) (w : ℕ) → from_le_bytes w64 (list_of (λ j. byte_at bs (w * 8 + j)) 8) ≡ word_of bs w
unfolding word_of list_of
word_read bs w =
    let e : w * 8 + 0 ≡ w * 8 = omega arith in
    let first = ap (byte_at bs) e in
    omega (arith, first)

-- a name whose words stand in a list from place k on
pub name_back : (ns : List ℤ) (k : ℕ) (n : Name) → length n.bytes ≡ name_most → ((j : ℕ) → j < name_most → byte_at n.bytes j < 256)
    → ((w : ℕ) → w < name_words → count_at ns (k + w) ≡ word_of n.bytes w) → name_of_words ns k n.len ≡ n
unfolding name_of_words
name_back ns k n e small words =
    let b =
    list_of_is (λ j. byte_of (count_at ns (k + j / 8)) (j % 8)) 0 name_most n.bytes e
    (λ j l.
    ap (λ (x : ℕ). byte_of x (j % 8)) (words (j / 8) (omega arith)) ∙ word_byte n.bytes small (j / 8) (j % 8) (omega arith) (omega arith)
    ∙ ap (byte_at n.bytes) (omega arith)) in
    λ i. record { bytes = b i; len = n.len }
