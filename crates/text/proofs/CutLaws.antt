-- Laws of cutting a line into its fields by one walk.
use Prim.Native.Nat.{ℕ, suc, ◌+◌, ◌<◌, ◌≤◌}
use mathlib.Core.Path.{◌≡◌, sym, ap, ◌∙◌}
use mathlib.Core.List.{List}
use native.Mathlib.Nat.{zero-add, add-zero}
use native.Mathlib.Numerals.{sub-one}
use native.Mathlib.Omega.{arith}
use lib.ListN.{length, drop, set, get_or, length-set, length-drop}
use lib.Seq.{drop-drop, get_or-set_same, get_or-set_other}
use Rattle.numbers.proofs.Nearest.{three_ways}
use Rattle.text.specs.Parts.{split, up_to, start_of, end_of}
use Rattle.text.specs.Cuts.{fields_most, Cut}
use Rattle.text.proofs.PartLaws.{up_to_le, start_of_zero, start_on, split_cut, split_last}

-- n fields of the line are cut, and the next one starts at i
pub record Walked (s cuts : List ℕ) (n i : ℕ) : Type 0 where
  pub room : length cuts ≡ fields_most + 1
  pub within : i ≤ length s
  pub below : n ≤ i
  pub parts : n + length (split 9 (drop i s)) ≡ length (split 9 s)
  pub later : (k : ℕ) → start_of 9 s (n + k) ≡ i + start_of 9 (drop i s) k
  pub next : n ≤ fields_most → get_or cuts n 0 ≡ i
  pub cut : (k : ℕ) → k < n → k < fields_most → Cut s cuts k

pub none_cut : (s cuts : List ℕ) → length cuts ≡ fields_most + 1 → Walked s (set cuts 0 0) 0 0
none_cut s cuts h = record {
  room = length-set cuts 0 0 ∙ h;
  within = omega arith;
  below = omega arith;
  parts = zero-add (length (split 9 s));
  later = λ k. ap (start_of 9 s) (zero-add k) ∙ sym (zero-add (start_of 9 s k));
  next = λ l. get_or-set_same cuts 0 0 0 (omega arith);
  cut = λ k l m. absurd (omega arith);
}

-- the field at i ends at e
module _ (s cuts : List ℕ) (n i e : ℕ) (w : Walked s cuts n i) (f : e ≡ i + up_to 9 (drop i s)) where
  start_is : start_of 9 s n ≡ i
  start_is = ap (start_of 9 s) (sym (add-zero n)) ∙ (let z = start_of_zero 9 (drop i s) in let t = w.later 0 in omega arith)

  end_is : end_of 9 s n ≡ e
  end_is = ap (λ (j : ℕ). j + up_to 9 (drop j s)) start_is ∙ sym f

  earlier : (k : ℕ) → k ≤ n → get_or (set cuts (n + 1) (e + 1)) k 0 ≡ get_or cuts k 0
  earlier k h = get_or-set_other cuts (n + 1) k (e + 1) 0 (λ q. omega arith)

  stored_at : n < fields_most → get_or (set cuts (n + 1) (e + 1)) (n + 1) 0 ≡ e + 1
  stored_at h = let r = w.room in get_or-set_same cuts (n + 1) (e + 1) 0 (omega arith)

  pub one_more : (k : ℕ) → k < n + 1 → k < fields_most → Cut s (set cuts (n + 1) (e + 1)) k
  one_more k h m =
      three_ways k n
      (λ l. record { starts = earlier k (omega arith) ∙ (w.cut k l m).starts; ends = earlier (k + 1) (omega arith) ∙ (w.cut k l m).ends })
      (λ q. let g : n < fields_most = omega arith in
      record {
        starts = earlier k (omega arith) ∙ ap (λ (j : ℕ). get_or cuts j 0) q ∙ w.next (omega arith) ∙ sym start_is ∙ ap (start_of 9 s) (sym q);
        ends = ap (λ (j : ℕ). get_or (set cuts (n + 1) (e + 1)) (j + 1) 0) q ∙ stored_at g ∙ ap (λ (j : ℕ). j + 1) (sym end_is ∙ ap (end_of 9 s) (sym q));
      })
      (λ l. absurd (omega arith))

  pub last_cut : length s ≤ e → n + 1 ≡ length (split 9 s)
  last_cut h =
      let d = length-drop i s in
      let u = up_to_le 9 (drop i s) in
      let t = ap length (split_last 9 (drop i s) (let v = w.within in omega arith)) in
      let p = w.parts in
      omega arith

  still_later : e < length s → (k : ℕ) → start_of 9 s (n + 1 + k) ≡ e + 1 + start_of 9 (drop (e + 1) s) k
  still_later h k =
      let a : n + 1 + k ≡ n + suc k = omega arith in
      ap (start_of 9 s) a ∙ w.later (suc k) ∙ start_on 9 s i e w.within f (suc k) (λ z. omega arith) h
      ∙ ap (λ (m : ℕ). e + 1 + start_of 9 (drop (e + 1) s) m) (sub-one (suc k))

  pub next_cut : e < length s → Walked s (set cuts (n + 1) (e + 1)) (n + 1) (e + 1)
  next_cut h =
      let v = w.within in
      let b = w.below in
      let d = length-drop i s in
      let j : i + suc (up_to 9 (drop i s)) ≡ e + 1 = omega arith in
      let t = ap length (split_cut 9 (drop i s) (omega arith)) in
      let q = ap (λ (l : List ℕ). length (split 9 l)) (drop-drop (suc (up_to 9 (drop i s))) i s ∙ ap (λ (m : ℕ). drop m s) j) in
      let p = w.parts in
      record {
        room = length-set cuts (n + 1) (e + 1) ∙ w.room;
        within = omega arith;
        below = omega arith;
        parts = omega arith;
        later = still_later h;
        next = λ l. stored_at (omega arith);
        cut = one_more;
      }
