-- A grid is the unused entry exactly where its twelve numbers are all 0.
use Prim.Native.Nat.{ℕ, zero, suc, ◌+◌, ◌/◌, ◌%◌, ◌^◌, ◌*◌, ◌<◌}
use native.Mathlib.Nat.{zero-div}
use mathlib.Core.Path.{◌≡◌, sym, ap, ◌∙◌}
use mathlib.Core.Bool.{true, ◌&&◌}
use mathlib.Core.List.{List}
use native.Mathlib.Omega.{arith}
use lib.IntN.{ℤ, pos, negsuc}
use lib.Signed.{mag}
use lib.ListN.{get_or, length-replicate, get_or-replicate, replicate}
use Rattle.numbers.specs.Order.{count_of}
use Rattle.numbers.proofs.Bools.{and_left, and_right, both, same_test}
use Rattle.numbers.proofs.OrderLaws.{zero_of}
use Rattle.group.specs.Numbers.{name_most, is_zero}
use Rattle.group.specs.Blank.{blank_name, blank_grid}
use Rattle.group.specs.Limits.{grid_blank}
use Rattle.group.specs.declared.Grid.{Grid}
use Rattle.group.proofs.BlankLaws.{blank_grid_lem, grid_blank_lem}
use Rattle.abi.specs.Words.{name_words, grid_index}
use Rattle.abi.specs.Abi.{number_at, count_at, byte_of, name_of_words, grid_of_words}
use Rattle.abi.specs.Clear.{clear_from}
use Rattle.abi.proofs.ListLaws.{length_list_of, get_or_list_of, list_of_is}

-- each of four numbers that are all 0
clear_at : (ns : List ℤ) (k : ℕ) → clear_from ns k ≡ true
    → (number_at ns k ≡ pos 0) × (number_at ns (k + 1) ≡ pos 0) × (number_at ns (k + 2) ≡ pos 0) × (number_at ns (k + 3) ≡ pos 0)
clear_at ns k e =
    let a = is_zero (number_at ns k) in let b = is_zero (number_at ns (k + 1)) in
    let c = is_zero (number_at ns (k + 2)) in let d = is_zero (number_at ns (k + 3)) in
    let abc = and_left (a && b && c) d e in let ab = and_left (a && b) c abc in (
      zero_of (number_at ns k) (and_left a b ab),
      zero_of (number_at ns (k + 1)) (and_right a b ab),
      zero_of (number_at ns (k + 2)) (and_right (a && b) c abc),
      zero_of (number_at ns (k + 3)) (and_right (a && b && c) d e),
    )

-- what holds of each of three
pub of_three : (P : ℕ → Type 0) → P 0 → P 1 → P 2 → (j : ℕ) → j < name_words → P j
of_three P p q r zero l = p
of_three P p q r (suc zero) l = q
of_three P p q r (suc (suc zero)) l = r
of_three P p q r (suc (suc (suc j))) l = absurd (omega arith)

clear_name : (ns : List ℤ) (k : ℕ) → clear_from ns k ≡ true → (name_of_words ns k 0).bytes ≡ blank_name.bytes
unfolding name_of_words
clear_name ns k e =
    let z = clear_at ns k e in
    let from : k + 0 ≡ k = omega arith in
    let word = of_three (λ j. number_at ns (k + j) ≡ pos 0) (ap (number_at ns) from ∙ z.0) z.1 z.2 in
    list_of_is (λ j. byte_of (count_at ns (k + j / 8)) (j % 8)) 0 name_most (replicate name_most 0) (length-replicate {A = ℕ} name_most 0)
    (λ j b.
    ap (λ (w : ℤ). byte_of (count_of w) (j % 8)) (word (j / 8) (omega arith)) ∙ ap (λ (n : ℕ). n % 256) (zero-div (2 ^ (8 * (j % 8))))
    ∙ sym (get_or-replicate {A = ℕ} name_most j 0 0 b))

-- number j + i of grid k
place_more : (ns : List ℤ) (k j i : ℕ) → number_at ns (grid_index k j + i) ≡ pos 0 → number_at ns (grid_index k (j + i)) ≡ pos 0
place_more ns k j i e = let p : grid_index k (j + i) ≡ grid_index k j + i = omega arith in ap (number_at ns) p ∙ e

clear_grid : (ns : List ℤ) (k : ℕ) → clear_from ns (grid_index k 0) ≡ true → clear_from ns (grid_index k 4) ≡ true → clear_from ns (grid_index k 8) ≡ true
    → grid_of_words ns k ≡ blank_grid
unfolding grid_of_words name_of_words
clear_grid ns k a b c =
    let len = place_more ns k 0 3 (clear_at ns (grid_index k 0) a).3 in
    let name = clear_name ns (grid_index k 0) a in
    let p = clear_at ns (grid_index k 4) b in let q = clear_at ns (grid_index k 8) c in
    let lat = place_more ns k 4 1 p.1 in let dlon = place_more ns k 4 2 p.2 in let dlat = place_more ns k 4 3 p.3 in
    let nj = place_more ns k 8 1 q.1 in let rank = place_more ns k 8 2 q.2 in let start = place_more ns k 8 3 q.3 in
    λ i. record {
      name = record { bytes = name i; len = count_of (len i) };
      lon = record { 0 = p.0 i };
      lat = record { 0 = lat i };
      dlon = dlon i;
      dlat = dlat i;
      ni = count_of (q.0 i);
      nj = count_of (nj i);
      rank = count_of (rank i);
      start = count_of (start i);
    }

-- ---- and the other way

zero_clear : (ns : List ℤ) (k : ℕ) → number_at ns k ≡ pos 0 → number_at ns (k + 1) ≡ pos 0 → number_at ns (k + 2) ≡ pos 0 → number_at ns (k + 3) ≡ pos 0
    → clear_from ns k ≡ true
zero_clear ns k p q r s = both (both (both (ap is_zero p) (ap is_zero q)) (ap is_zero r)) (ap is_zero s)

place_from : (ns : List ℤ) (k j i : ℕ) → number_at ns (grid_index k (j + i)) ≡ pos 0 → number_at ns (grid_index k j + i) ≡ pos 0
place_from ns k j i e = let p : grid_index k j + i ≡ grid_index k (j + i) = omega arith in ap (number_at ns) p ∙ e

pub blank_words : (ns : List ℤ) (k : ℕ) → grid_blank (grid_of_words ns k) ≡ true → grid_of_words ns k ≡ blank_grid
unfolding grid_of_words name_of_words
blank_words ns k e = blank_grid_lem (grid_of_words ns k) (length_list_of _ name_most) e

count_zero : (z : ℤ) → count_of z ≡ 0 → z ≡ pos 0
count_zero (pos n) e = ap pos e
count_zero (negsuc n) e = absurd (omega arith)

count_size : (z : ℤ) → mag z < 2 ^ 63 → count_of z < 2 ^ 64
count_size (pos n) h = let m : n < 2 ^ 63 = h in omega arith
count_size (negsuc n) h = omega arith

-- a number of 64 bits whose eight bytes are all 0
bytes_zero : (n : ℕ) → n < 2 ^ 64 → ((j : ℕ) → j < 8 → byte_of n j ≡ 0) → n ≡ 0
bytes_zero n h b =
    let a7 : n < 2 ^ 56 = (let z = b 7 (omega arith) in omega arith) in
    let a6 : n < 2 ^ 48 = (let z = b 6 (omega arith) in omega arith) in
    let a5 : n < 2 ^ 40 = (let z = b 5 (omega arith) in omega arith) in
    let a4 : n < 2 ^ 32 = (let z = b 4 (omega arith) in omega arith) in
    let a3 : n < 2 ^ 24 = (let z = b 3 (omega arith) in omega arith) in
    let a2 : n < 2 ^ 16 = (let z = b 2 (omega arith) in omega arith) in
    let a1 : n < 2 ^ 8 = (let z = b 1 (omega arith) in omega arith) in
    let z = b 0 (omega arith) in
    omega arith

module _ (ns : List ℤ) (k : ℕ) where
  module _ (e : grid_of_words ns k ≡ blank_grid) where
    blank_byte : (w j : ℕ) → w < name_words → j < 8 → byte_of (count_at ns (grid_index k 0 + w)) j ≡ 0
    unfolding grid_of_words name_of_words
    blank_byte w j a b =
        let q : (w * 8 + j) / 8 ≡ w = omega arith in
        let r : (w * 8 + j) % 8 ≡ j = omega arith in
        (λ i. byte_of (count_at ns (grid_index k 0 + sym q i)) (sym r i))
        ∙ sym (get_or_list_of (λ i. byte_of (count_at ns (grid_index k 0 + i / 8)) (i % 8)) name_most (w * 8 + j) 0 (omega arith))
        ∙ ap (λ (d : Grid). get_or d.name.bytes (w * 8 + j) 0) e
        ∙ get_or-replicate {A = ℕ} name_most (w * 8 + j) 0 0 (omega arith)

    blank_word : (w : ℕ) → w < name_words → mag (number_at ns (grid_index k 0 + w)) < 2 ^ 63 → number_at ns (grid_index k 0 + w) ≡ pos 0
    blank_word w l m =
        let z = number_at ns (grid_index k 0 + w) in
        count_zero z (bytes_zero (count_of z) (count_size z m) (λ j b. blank_byte w j l b))

  -- the three words of the name as the machine has them
  module _ (sizes : (w : ℕ) → w < name_words → mag (number_at ns (grid_index k 0 + w)) < 2 ^ 63) where
    blank_clear : grid_of_words ns k ≡ blank_grid
        → (clear_from ns (grid_index k 0) && clear_from ns (grid_index k 4) && clear_from ns (grid_index k 8)) ≡ true
    unfolding grid_of_words name_of_words
    blank_clear e =
        let word : (w : ℕ) → w < name_words → number_at ns (grid_index k 0 + w) ≡ pos 0 = λ w l. blank_word e w l (sizes w l) in
        let from : grid_index k 0 ≡ grid_index k 0 + 0 = omega arith in
        both
        (both
        (zero_clear ns (grid_index k 0)
        (ap (number_at ns) from ∙ word 0 (omega arith))
        (word 1 (omega arith))
        (word 2 (omega arith))
        (place_from ns k 0 3 (count_zero _ (ap (λ (d : Grid). d.name.len) e))))
        (zero_clear ns (grid_index k 4)
        (ap (λ (d : Grid). d.lon.0) e)
        (place_from ns k 4 1 (ap (λ (d : Grid). d.lat.0) e))
        (place_from ns k 4 2 (ap (λ (d : Grid). d.dlon) e))
        (place_from ns k 4 3 (ap (λ (d : Grid). d.dlat) e))))
        (zero_clear ns (grid_index k 8)
        (count_zero _ (ap (λ (d : Grid). d.ni) e))
        (place_from ns k 8 1 (count_zero _ (ap (λ (d : Grid). d.nj) e)))
        (place_from ns k 8 2 (count_zero _ (ap (λ (d : Grid). d.rank) e)))
        (place_from ns k 8 3 (count_zero _ (ap (λ (d : Grid). d.start) e))))

    pub clear_blank : (clear_from ns (grid_index k 0) && clear_from ns (grid_index k 4) && clear_from ns (grid_index k 8)) ≡ grid_blank (grid_of_words ns k)
    clear_blank =
        let a = clear_from ns (grid_index k 0) in let b = clear_from ns (grid_index k 4) in let c = clear_from ns (grid_index k 8) in
        same_test (a && b && c) (grid_blank (grid_of_words ns k))
        (λ t.
        let ab = and_left (a && b) c t in
        ap grid_blank (clear_grid ns k (and_left a b ab) (and_right a b ab) (and_right (a && b) c t)) ∙ grid_blank_lem)
        (λ t. blank_clear (blank_words ns k t))
