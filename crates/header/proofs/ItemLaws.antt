-- Records that are written and read again, lines that are read and written again, and a loop over lines.
use Prim.Native.Nat.{ℕ, zero, suc, ◌+◌, ◌-◌, ◌<◌, ◌≤◌}
use mathlib.Core.Path.{◌≡◌, refl, sym, ap, subst, ◌∙◌}
use mathlib.Core.Bool.{Bool, true, false, cond, not}
use mathlib.Core.List.{List, [], ◌∷◌, ◌++◌, append_assoc, append-nil}
use native.Mathlib.Decide.{dec_lt}
use native.Mathlib.Omega.{arith}
use native.Mathlib.Numerals.{add-one}
use lib.Dec.{ltb}
use lib.ListN.{length, length-replicate, get_or, take, drop, set, replicate, length-drop}
use lib.Seq.{drop-drop, take-suc-set, take_all, length-take-le}
use borrow.Author.Tests.{lt-ltb, le-ltb}
use Rattle.numbers.specs.First.{first, some}
use Rattle.numbers.proofs.FirstLaws.{first_le}
use Rattle.text.specs.Parts.{split, join, up_to}
use Rattle.text.proofs.PartLaws.{Free, split_lead, split_cut, split_last, first_part, up_to_le}
use Rattle.group.specs.declared.Refusal.{Refusal}
use Rattle.group.specs.Refusals.{refusal}
use Rattle.line.proofs.LineLaws.{limited}
use Rattle.header.specs.Items.{Items, refused, items, on_line, read_items, closed, entries, Are}
use Rattle.std.specs.Prelude.{Result, Ok, Err}

-- the records may be the lines from n on
abbrev pub All : {A : Type 0} → (ℕ → A → Type 0) → ℕ → List A → Type 0
All P n [] = Unit {0}
All P n (a ∷ xs) = P n a × All P (suc n) xs

-- entry k of an array is beyond its limits
abbrev pub beyond : {A : Type 0} → (A → Bool) → A → List A → ℕ → Bool
beyond fits d xs k = not (fits (get_or xs k d))

-- the first entries of an array as lines from n on: the first that is beyond its limits is refused, or all are read
abbrev pub limited_items : {A : Type 0} → (A → Bool) → A → List A → ℕ → ℕ → List (List ℕ) → Items A
limited_items fits d xs count n ls = cond (some (beyond fits d xs) count) (refused (refusal 2 (first (beyond fits d xs) count + n))) (items (take count xs) ls)

module _ {A : Type 0} (fits : A → Bool) (d : A) where
  pub limited_none : (xs : List A) (n : ℕ) (ls : List (List ℕ)) → items [] ls ≡ limited_items fits d xs 0 n ls
  limited_none xs n ls = let z = first_le (beyond fits d xs) 0 in rw (le-ltb (first (beyond fits d xs) 0) 0 (omega arith))

  limited_more : (x : A) (xs : List A) (count n : ℕ) (ls : List (List ℕ)) → on_line (limited fits (refusal 2) n x) (limited_items fits d xs count (suc n) ls) ≡ limited_items fits d (x ∷ xs) (suc count) n ls
  unfolding first
  limited_more x xs count n ls = go (fits x) (first (beyond fits d xs) count)
    where
      go : (b : Bool) (f : ℕ) → on_line (cond b (Ok x) (Err (refusal 2 n))) (cond (ltb f count) (refused (refusal 2 (f + suc n))) (items (take count xs) ls))
          ≡ cond (ltb (cond (not b) 0 (suc f)) (suc count)) (refused (refusal 2 (cond (not b) 0 (suc f) + n))) (items (x ∷ take count xs) ls)
      go false f = let e : n ≡ 0 + n = omega arith in rw (lt-ltb 0 (suc count) (omega arith)) (ap (λ (m : ℕ). refused (refusal 2 m)) e)
      go true f =
          let e : f + suc n ≡ suc f + n = omega arith in
          elim (dec_lt f count) [
            | yes l ↦ rw (lt-ltb f count l, lt-ltb (suc f) (suc count) (omega arith)) (ap (λ (m : ℕ). refused (refusal 2 m)) e)
            | no l ↦ rw (le-ltb f count (omega arith), le-ltb (suc f) (suc count) (omega arith))
          ]

module _ {A : Type 0} (read : ℕ → List ℕ → Result A Refusal) (text : A → List ℕ) where
  pub closed_line : (k n : ℕ) (l t : List ℕ) → Free 10 l → read_items read (suc k) n (split 10 (l ++ 10 ∷ t)) ≡ on_line (read n l) (read_items read k (suc n) (split 10 t))
  closed_line k n l t f = let p = first_part 10 t in rw (split_lead 10 l t f, p.1.1)

  -- written, and read again
  pub read_closed : (P : ℕ → A → Type 0) (fits : A → Bool) → ((n : ℕ) (a : A) → P n a → Free 10 (text a)) → ((n : ℕ) (a : A) → P n a → read n (text a) ≡ limited fits (refusal 2) n a)
      → (d : A) (xs : List A) (count n : ℕ) (t : List ℕ) → count ≤ length xs → All P n (take count xs)
      → read_items read count n (split 10 (closed text (take count xs) ++ t)) ≡ limited_items fits d xs count n (split 10 t)
  read_closed P fits free back d xs zero n t l h = limited_none fits d xs n (split 10 t)
  read_closed P fits free back d [] (suc count) n t l h = absurd (omega arith)
  read_closed P fits free back d (a ∷ xs) (suc count) n t l h =
      ap (λ (s : List ℕ). read_items read (suc count) n (split 10 s)) (append_assoc (text a) (10 ∷ closed text (take count xs)) t)
      ∙ closed_line count n (text a) (closed text (take count xs) ++ t) (free n a h.0)
      ∙ (λ i. on_line (back n a h.0 i) (read_closed P fits free back d xs count (suc n) t (omega arith) h.1 i))
      ∙ limited_more fits d a xs count n (split 10 t)

  on_items : (x : Result A Refusal) (is : Items A) (xs : List A) (rest : List (List ℕ)) → on_line x is ≡ items xs rest
      → (a : A) × (bs : List A) × (x ≡ Ok a) × (is ≡ items bs rest) × (xs ≡ a ∷ bs)
  on_items (Err r) is xs rest e = let q : ◌≡◌ {A = ℕ} 0 1 = cc in absurd (omega arith)
  on_items (Ok a) (refused r) xs rest e = let q : ◌≡◌ {A = ℕ} 0 1 = cc in absurd (omega arith)
  on_items (Ok a) (items bs ls) xs rest e = let q : ls ≡ rest = cc in (a, bs, refl, ap (items bs) q, cc)

  -- read, and written again: the same bytes
  pub closed_read : ((n : ℕ) (l : List ℕ) (a : A) → read n l ≡ Ok a → text a ≡ l)
      → (k n : ℕ) (ls : List (List ℕ)) (xs : List A) (p : List ℕ) (ps : List (List ℕ)) → read_items read k n ls ≡ items xs (p ∷ ps)
      → join 10 ls ≡ closed text xs ++ join 10 (p ∷ ps)
  closed_read back zero n ls xs p ps e =
      let q : [] ≡ xs = cc in
      let r : ls ≡ p ∷ ps = cc in
      ap (join 10) r ∙ ap (λ (bs : List A). closed text bs ++ join 10 (p ∷ ps)) q
  closed_read back (suc k) n [] xs p ps e = let q : ◌≡◌ {A = ℕ} 0 1 = cc in absurd (omega arith)
  closed_read back (suc k) n (l ∷ []) xs p ps e = let q : ◌≡◌ {A = ℕ} 0 1 = cc in absurd (omega arith)
  closed_read back (suc k) n (l ∷ m ∷ ls) xs p ps e =
      let o = on_items (read n l) (read_items read k (suc n) (m ∷ ls)) xs (p ∷ ps) e in
      let ih : join 10 (m ∷ ls) ≡ closed text o.1 ++ join 10 (p ∷ ps) = closed_read back k (suc n) (m ∷ ls) o.1 p ps o.3 in
      let t : text o.0 ≡ l = back n l o.0 o.2 in
      ap (λ (s : List ℕ). l ++ 10 ∷ s) ih
      ∙ ap (λ (s : List ℕ). s ++ 10 ∷ (closed text o.1 ++ join 10 (p ∷ ps))) (sym t)
      ∙ sym (append_assoc (text o.0) (10 ∷ closed text o.1) (join 10 (p ∷ ps)))
      ∙ ap (λ (bs : List A). closed text bs ++ join 10 (p ∷ ps)) (sym o.4)

  pub count_read : (k n : ℕ) (ls : List (List ℕ)) (xs : List A) (rest : List (List ℕ)) → read_items read k n ls ≡ items xs rest → length xs ≡ k
  count_read zero n ls xs rest e = let q : [] ≡ xs = cc in ap length (sym q)
  count_read (suc k) n [] xs rest e = let q : ◌≡◌ {A = ℕ} 0 1 = cc in absurd (omega arith)
  count_read (suc k) n (l ∷ []) xs rest e = let q : ◌≡◌ {A = ℕ} 0 1 = cc in absurd (omega arith)
  count_read (suc k) n (l ∷ m ∷ ls) xs rest e =
      let o = on_items (read n l) (read_items read k (suc n) (m ∷ ls)) xs rest e in
      ap length o.4 ∙ ap suc (count_read k (suc n) (m ∷ ls) o.1 rest o.3)

-- ---- a loop over the lines: xs are the records read so far

module _ {A : Type 0} where
  abbrev pub after : List A → Items A → Items A
  after [] is = is
  after (x ∷ xs) is = on_line (Ok x) (after xs is)

  pub after_refused : (xs : List A) (r : Refusal) → after xs (refused r) ≡ refused r
  after_refused [] r = refl
  after_refused (x ∷ xs) r = rw (after_refused xs r)

  pub after_items : (xs ys : List A) (ls : List (List ℕ)) → after xs (items ys ls) ≡ items (xs ++ ys) ls
  after_items [] ys ls = refl
  after_items (x ∷ xs) ys ls = rw (after_items xs ys ls)

  pub after_one : (xs : List A) (x : A) (is : Items A) → after xs (on_line (Ok x) is) ≡ after (xs ++ (x ∷ [])) is
  after_one [] x is = refl
  after_one (y ∷ xs) x is = rw (after_one xs x is)

-- ---- a loop that reads count records from line n on: xs are the first k of them, and ls the parts behind them

module _ {A : Type 0} (read : ℕ → List ℕ → Result A Refusal) (count n : ℕ) (ls₀ : List (List ℕ)) where
  abbrev pub whole : Items A
  whole = read_items read count n ls₀

  abbrev pub State : ℕ → List A → List (List ℕ) → Type 0
  State k xs ls = after xs (read_items read (count - k) (n + k) ls) ≡ whole

  module _ (k : ℕ) (xs : List A) (h : k < count) where
    one_more : (ls : List (List ℕ)) → read_items read (count - k) (n + k) ls ≡ read_items read (suc (count - (k + 1))) (n + k) ls
    one_more ls = let a : count - k ≡ suc (count - (k + 1)) = omega arith in ap (λ (m : ℕ). read_items read m (n + k) ls) a

    pub loop_missing : (l : List ℕ) (ls : List (List ℕ)) → ls ≡ l ∷ [] → State k xs ls → whole ≡ refused (refusal 1 (n + k))
    loop_missing l ls e s = sym s ∙ ap (after xs) (one_more ls ∙ ap (read_items read (suc (count - (k + 1))) (n + k)) e) ∙ after_refused xs (refusal 1 (n + k))

    step : (l : List ℕ) (t : List ℕ) (ls : List (List ℕ)) → ls ≡ l ∷ split 10 t → read_items read (count - k) (n + k) ls ≡ on_line (read (n + k) l) (read_items read (count - (k + 1)) (n + (k + 1)) (split 10 t))
    step l t ls e =
        let p = first_part 10 t in
        let m : suc (n + k) ≡ n + (k + 1) = omega arith in
        one_more ls ∙ ap (read_items read (suc (count - (k + 1))) (n + k)) (e ∙ ap (λ (qs : List (List ℕ)). l ∷ qs) p.1.1)
        ∙ ap (λ (qs : List (List ℕ)). on_line (read (n + k) l) (read_items read (count - (k + 1)) (suc (n + k)) qs)) (sym p.1.1)
        ∙ ap (λ (j : ℕ). on_line (read (n + k) l) (read_items read (count - (k + 1)) j (split 10 t))) m

    pub loop_bad : (l t : List ℕ) (ls : List (List ℕ)) (r : Refusal) → ls ≡ l ∷ split 10 t → read (n + k) l ≡ Err r → State k xs ls → whole ≡ refused r
    loop_bad l t ls r e b s = sym s ∙ ap (after xs) (step l t ls e ∙ ap (λ (x : Result A Refusal). on_line x (read_items read (count - (k + 1)) (n + (k + 1)) (split 10 t))) b) ∙ after_refused xs r

    pub loop_good : (l t : List ℕ) (ls : List (List ℕ)) (x : A) → ls ≡ l ∷ split 10 t → read (n + k) l ≡ Ok x → State k xs ls → State (k + 1) (xs ++ (x ∷ [])) (split 10 t)
    loop_good l t ls x e b s =
        sym (after_one xs x (read_items read (count - (k + 1)) (n + (k + 1)) (split 10 t)))
        ∙ ap (after xs) (sym (step l t ls e ∙ ap (λ (y : Result A Refusal). on_line y (read_items read (count - (k + 1)) (n + (k + 1)) (split 10 t))) b)) ∙ s

  pub loop_end : (k : ℕ) (xs : List A) (ls : List (List ℕ)) → count ≤ k → State k xs ls → whole ≡ items xs ls
  loop_end k xs ls h s =
      let a : count - k ≡ 0 = omega arith in
      sym s ∙ ap (after xs) (ap (λ (m : ℕ). read_items read m (n + k) ls) a) ∙ after_items xs [] ls ∙ ap (λ (l : List A). items l ls) (append-nil xs)

-- ---- the parts of a text from a place on, where the next line feed stands at e

module _ (text : List ℕ) (at e : ℕ) (found : e ≡ at + up_to 10 (drop at text)) (room : at ≤ length text) where
  pub end_le : e ≤ length text
  end_le = let u = up_to_le 10 (drop at text) in let d = length-drop at text in omega arith

  pub behind_le : (e ≡ length text → ⊥) → e + 1 ≤ length text
  behind_le q = let u = end_le in elim (dec_lt e (length text)) [ yes w ↦ omega arith | no w ↦ absurd (q (omega arith)) ]

  pub none_closed : e ≡ length text → split 10 (drop at text) ≡ drop at text ∷ []
  none_closed h = let d = length-drop at text in split_last 10 (drop at text) (omega arith)

  pub one_closed : (e ≡ length text → ⊥) → split 10 (drop at text) ≡ take (e - at) (drop at text) ∷ split 10 (drop (e + 1) text)
  one_closed h =
      let u = up_to_le 10 (drop at text) in
      let d = length-drop at text in
      let l : up_to 10 (drop at text) < length (drop at text) = lt (λ q. h (omega arith)) in
      let p : up_to 10 (drop at text) ≡ e - at = omega arith in
      let q : at + suc (up_to 10 (drop at text)) ≡ e + 1 = omega arith in
      split_cut 10 (drop at text) l
      ∙ ap (λ (m : ℕ). take m (drop at text) ∷ split 10 (drop (suc (up_to 10 (drop at text))) (drop at text))) p
      ∙ ap (λ (s : List ℕ). take (e - at) (drop at text) ∷ split 10 s) (drop-drop (suc (up_to 10 (drop at text))) at text ∙ ap (λ (m : ℕ). drop m text) q)
    where
      lt : (up_to 10 (drop at text) ≡ length (drop at text) → ⊥) → up_to 10 (drop at text) < length (drop at text)
      lt n = let u = up_to_le 10 (drop at text) in elim (dec_lt (up_to 10 (drop at text)) (length (drop at text))) [ yes l ↦ l | no l ↦ absurd (n (omega arith)) ]

-- ---- the loop itself, over the text, the entries, the place of the next line and the count of lines read

pub record Loop {A : Type 0} (read : ℕ → List ℕ → Result A Refusal) (count n : ℕ) (text : List ℕ) (at : ℕ) (entries : List A) (next k : ℕ) : Type 0 where
  pub room : next ≤ length text
  pub state : State read count n (split 10 (drop at text)) k (take k entries) (split 10 (drop next text))

module _ {A : Type 0} (read : ℕ → List ℕ → Result A Refusal) (count n : ℕ) (text : List ℕ) (at : ℕ) where
  abbrev is : Items A
  is = read_items read count n (split 10 (drop at text))

  module _ (entries : List A) (next k : ℕ) (l : Loop read count n text at entries next k) where
    module _ (e : ℕ) (found : e ≡ next + up_to 10 (drop next text)) (h : k < count) where
      pub loop_unclosed : e ≡ length text → is ≡ refused (refusal 1 (n + k))
      loop_unclosed q = loop_missing read count n (split 10 (drop at text)) k (take k entries) h _ _ (none_closed text next e found l.room q) l.state

      module _ (q : e ≡ length text → ⊥) where
        pub loop_refuses : (r : Refusal) → read (n + k) (take (e - next) (drop next text)) ≡ Err r → is ≡ refused r
        loop_refuses r b = loop_bad read count n (split 10 (drop at text)) k (take k entries) h _ (drop (e + 1) text) _ r (one_closed text next e found l.room q) b l.state

        pub loop_reads : (x : A) → length entries ≡ count → read (n + k) (take (e - next) (drop next text)) ≡ Ok x → Loop read count n text at (set entries k x) (e + 1) (k + 1)
        loop_reads x c b =
            let m : take (k + 1) (set entries k x) ≡ take k entries ++ (x ∷ []) = ap (λ (j : ℕ). take j (set entries k x)) (add-one k) ∙ take-suc-set entries k x (omega arith) in
            record {
              room = behind_le text next e found l.room q;
              state = subst (λ (xs : List A). State read count n (split 10 (drop at text)) (k + 1) xs (split 10 (drop (e + 1) text))) (sym m)
                  (loop_good read count n (split 10 (drop at text)) k (take k entries) h _ (drop (e + 1) text) _ x (one_closed text next e found l.room q) b l.state);
            }

    pub loop_leaves : length entries ≡ count → count ≤ k → Are text is entries (Ok next)
    loop_leaves c h = (
      loop_end read count n (split 10 (drop at text)) k (take k entries) (split 10 (drop next text)) h l.state ∙ ap (λ (xs : List A). items xs (split 10 (drop next text))) (take_all k entries (omega arith)),
      l.room,
    )

-- ---- the array that they are read into: its first n entries are lent as a part, the others stay blank

drop_blank : {A : Type 0} (z : A) (n size : ℕ) → drop n (replicate size z) ≡ replicate (size - n) z
drop_blank z zero size = let e : size ≡ size - 0 = omega arith in ap (λ (k : ℕ). replicate k z) e
drop_blank z (suc n) zero = let e : 0 ≡ 0 - suc n = omega arith in ap (λ (k : ℕ). replicate k z) e
drop_blank z (suc n) (suc size) = let e : size - n ≡ suc size - suc n = omega arith in drop_blank z n size ∙ ap (λ (k : ℕ). replicate k z) e

module _ {A : Type 0} (size n : ℕ) (z : A) (h : n ≤ size) where
  pub part_length : length (take n (replicate size z)) ≡ n
  part_length = let l = length-replicate size z in length-take-le n (replicate size z) (omega arith)

  pub part_filled : (xs : List A) → length xs ≡ length (take n (replicate size z)) → xs ++ drop n (replicate size z) ≡ entries size z xs
  part_filled xs l = ap (λ (r : List A). xs ++ r) (drop_blank z n size ∙ ap (λ (k : ℕ). replicate (size - k) z) (sym (l ∙ part_length)))
