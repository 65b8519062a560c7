-- Laws of parting: split and join undo each other, and where a part starts and ends.
use Prim.Native.Nat.{ℕ, zero, suc, ◌+◌, ◌-◌, ◌<◌, ◌≤◌, suc-le-suc, zero-le}
use mathlib.Core.Path.{◌≡◌, refl, sym, ap, ◌∙◌}
use mathlib.Core.Bool.{Bool, true, false, cond}
use mathlib.Core.List.{List, [], ◌∷◌, ◌++◌, append-nil}
use native.Mathlib.Nat.{le_of_suc-le-suc, not-suc-le-zero, add-zero}
use native.Mathlib.Omega.{arith}
use lib.Dec.{eqb}
use native.Mathlib.Numerals.{add-one, sub-one}
use lib.ListN.{length, take, drop, get_or, drop_of_length-le, length-drop}
use lib.Seq.{drop-cons, drop-drop}
use borrow.Author.Tests.{eqb-true, eq-eqb, ne_eqb}
use Rattle.numbers.proofs.Bools.{true_false}
use Rattle.text.specs.Parts.{glue, split, led, join, up_to, start_of, Lacks, end_of, field_of, EmptyAtEnd}

-- no byte of the list is the separator
abbrev pub Free : ℕ → List ℕ → Type 0
Free c [] = Unit {0}
Free c (x ∷ xs) = (eqb x c ≡ false) × Free c xs

pub up_to_le : (c : ℕ) (s : List ℕ) → up_to c s ≤ length s
up_to_le c [] = zero-le
up_to_le c (x ∷ xs) = go (eqb x c) (up_to_le c xs)
  where
    go : (b : Bool) → up_to c xs ≤ length xs → cond b 0 (suc (up_to c xs)) ≤ suc (length xs)
    go true h = zero-le
    go false h = suc-le-suc h

pub start_of_le : (c : ℕ) (s : List ℕ) (k : ℕ) → start_of c s k ≤ length s
start_of_le c [] k = zero-le
start_of_le c (x ∷ xs) zero = zero-le
start_of_le c (x ∷ xs) (suc k) = go (eqb x c) (start_of_le c xs k) (start_of_le c xs (suc k))
  where
    go : (b : Bool) → start_of c xs k ≤ length xs → start_of c xs (suc k) ≤ length xs → suc (cond b (start_of c xs k) (start_of c xs (suc k))) ≤ suc (length xs)
    go true h g = suc-le-suc h
    go false h g = suc-le-suc g

-- part 0 starts at 0
pub start_of_zero : (c : ℕ) (s : List ℕ) → start_of c s zero ≡ 0
start_of_zero c [] = refl
start_of_zero c (x ∷ xs) = refl

join_glue : (c x : ℕ) (ps : List (List ℕ)) → join c (glue x ps) ≡ x ∷ join c ps
join_glue c x [] = refl
join_glue c x (p ∷ ps) = refl

-- split gives at least one part
pub first_part : (c : ℕ) (s : List ℕ) → (p : List ℕ) × ((ps : List (List ℕ)) × (split c s ≡ p ∷ ps))
first_part c [] = ([], ([], refl))
first_part c (x ∷ xs) = go (eqb x c) (first_part c xs)
  where
    go : (b : Bool) → (p : List ℕ) × ((ps : List (List ℕ)) × (split c xs ≡ p ∷ ps)) → (p : List ℕ) × ((ps : List (List ℕ)) × (cond b ([] ∷ split c xs) (glue x (split c xs)) ≡ p ∷ ps))
    go true h = ([], (split c xs, refl))
    go false h = (x ∷ h.0, (h.1.0, ap (glue x) h.1.1))

join_led : (c : ℕ) (s : List ℕ) → led c (split c s) ≡ c ∷ join c (split c s)
join_led c s = let h = first_part c s in rw h.1.1

-- the parts hold all of the bytes
pub join_split : (c : ℕ) (s : List ℕ) → join c (split c s) ≡ s
join_split c [] = refl
join_split c (x ∷ xs) = go (eqb x c) refl (join_split c xs)
  where
    go : (b : Bool) → eqb x c ≡ b → join c (split c xs) ≡ xs → join c (cond b ([] ∷ split c xs) (glue x (split c xs))) ≡ x ∷ xs
    go true e h = join_led c xs ∙ cc (eqb-true x c e)
    go false e h = join_glue c x (split c xs) ∙ ap (λ (l : List ℕ). x ∷ l) h

-- a part without the separator, and what stands behind the separator
pub split_lead : (c : ℕ) (p t : List ℕ) → Free c p → split c (p ++ c ∷ t) ≡ p ∷ split c t
split_lead c [] t f = rw (eq-eqb c c refl)
split_lead c (x ∷ xs) t f = rw (f.0, split_lead c xs t f.1)

pub split_free : (c : ℕ) (p : List ℕ) → Free c p → split c p ≡ p ∷ []
split_free c [] f = refl
split_free c (x ∷ xs) f = rw (f.0, split_free c xs f.1)

-- every part is without the separator
abbrev pub AllFree : ℕ → List (List ℕ) → Type 0
AllFree c [] = Unit {0}
AllFree c (p ∷ ps) = Free c p × AllFree c ps

pub split_join : (c : ℕ) (p : List ℕ) (ps : List (List ℕ)) → Free c p → AllFree c ps → split c (join c (p ∷ ps)) ≡ p ∷ ps
split_join c p [] f fs = rw (append-nil p) (split_free c p f)
split_join c p (q ∷ qs) f fs = split_lead c p (join c (q ∷ qs)) f ∙ ap (λ (l : List (List ℕ)). p ∷ l) (split_join c q qs fs.0 fs.1)

-- a cursor's view: the first part ends at the first separator, and the others are those of what stands behind it
pub split_cut : (c : ℕ) (s : List ℕ) → up_to c s < length s → split c s ≡ take (up_to c s) s ∷ split c (drop (suc (up_to c s)) s)
split_cut c [] h = absurd (not-suc-le-zero h)
split_cut c (x ∷ xs) h = go (eqb x c) h (split_cut c xs)
  where
    go : (b : Bool) → cond b 0 (suc (up_to c xs)) < suc (length xs)
        → (up_to c xs < length xs → split c xs ≡ take (up_to c xs) xs ∷ split c (drop (suc (up_to c xs)) xs))
        → cond b ([] ∷ split c xs) (glue x (split c xs)) ≡ take (cond b 0 (suc (up_to c xs))) (x ∷ xs) ∷ split c (drop (suc (cond b 0 (suc (up_to c xs)))) (x ∷ xs))
    go true k r = refl
    go false k r = rw (r (le_of_suc-le-suc k))

pub split_last : (c : ℕ) (s : List ℕ) → up_to c s ≡ length s → split c s ≡ s ∷ []
split_last c [] h = refl
split_last c (x ∷ xs) h = go (eqb x c) h (split_last c xs)
  where
    go : (b : Bool) → cond b 0 (suc (up_to c xs)) ≡ suc (length xs)
        → (up_to c xs ≡ length xs → split c xs ≡ xs ∷ [])
        → cond b ([] ∷ split c xs) (glue x (split c xs)) ≡ (x ∷ xs) ∷ []
    go true k r = absurd (omega arith)
    go false k r = rw (r (omega arith))

get_or_glue : (x : ℕ) (ps : List (List ℕ)) (k : ℕ) → get_or (glue x ps) (suc k) [] ≡ get_or ps (suc k) []
get_or_glue x [] k = refl
get_or_glue x (p ∷ ps) k = refl

head_glue : (x : ℕ) (ps : List (List ℕ)) → x ∷ get_or ps 0 [] ≡ get_or (glue x ps) 0 []
head_glue x [] = refl
head_glue x (p ∷ ps) = refl

pub head_is : (c : ℕ) (s : List ℕ) → take (up_to c s) s ≡ get_or (split c s) 0 []
head_is c [] = refl
head_is c (x ∷ xs) = go (eqb x c) (head_is c xs)
  where
    go : (b : Bool) → take (up_to c xs) xs ≡ get_or (split c xs) 0 []
        → take (cond b 0 (suc (up_to c xs))) (x ∷ xs) ≡ get_or (cond b ([] ∷ split c xs) (glue x (split c xs))) 0 []
    go true h = refl
    go false h = ap (λ (l : List ℕ). x ∷ l) h ∙ head_glue x (split c xs)

-- the part between start_of and end_of is part k
pub part_is : (c : ℕ) (s : List ℕ) (k : ℕ) → take (up_to c (drop (start_of c s k) s)) (drop (start_of c s k) s) ≡ get_or (split c s) k []
part_is c [] zero = refl
part_is c [] (suc k) = refl
part_is c (x ∷ xs) zero = head_is c (x ∷ xs)
part_is c (x ∷ xs) (suc k) = go (eqb x c) (part_is c xs k) (part_is c xs (suc k))
  where
    go : (b : Bool) → take (up_to c (drop (start_of c xs k) xs)) (drop (start_of c xs k) xs) ≡ get_or (split c xs) k []
        → take (up_to c (drop (start_of c xs (suc k)) xs)) (drop (start_of c xs (suc k)) xs) ≡ get_or (split c xs) (suc k) []
        → take (up_to c (drop (cond b (start_of c xs k) (start_of c xs (suc k))) xs)) (drop (cond b (start_of c xs k) (start_of c xs (suc k))) xs)
        ≡ get_or (cond b ([] ∷ split c xs) (glue x (split c xs))) (suc k) []
    go true h g = h
    go false h g = g ∙ sym (get_or_glue x (split c xs) k)

-- a field is that of the line split at tabs
pub field_split : (line : List ℕ) (k : ℕ) → field_of line k ≡ get_or (split 9 line) k []
field_split line k =
    let p = start_of 9 line k in
    let e : p + up_to 9 (drop p line) - p ≡ up_to 9 (drop p line) = omega arith in
    ap (λ (n : ℕ). take n (drop p line)) e ∙ part_is 9 line k

-- ---- what a scan meets at an index i of the list
pub up_to_here : (c : ℕ) (s : List ℕ) (i : ℕ) → i < length s → get_or s i 0 ≡ c → up_to c (drop i s) ≡ 0
up_to_here c s i h e = rw (drop-cons s i 0 h, eq-eqb (get_or s i 0) c e)

pub up_to_more : (c : ℕ) (s : List ℕ) (i : ℕ) → i < length s → (get_or s i 0 ≡ c → ⊥) → up_to c (drop i s) ≡ suc (up_to c (drop (i + 1) s))
up_to_more c s i h e = rw (drop-cons s i 0 h, ne_eqb (get_or s i 0) c e, add-one)

pub up_to_end : (c : ℕ) (s : List ℕ) (i : ℕ) → length s ≤ i → up_to c (drop i s) ≡ 0
up_to_end c s i h = rw (drop_of_length-le s h)

-- past bytes that are not c
pub up_to_past : (c : ℕ) (s : List ℕ) (i n : ℕ) → i + n ≤ length s → Lacks c s i (i + n) → up_to c (drop i s) ≡ n + up_to c (drop (i + n) s)
up_to_past c s i zero h f = let e = ap (λ (k : ℕ). up_to c (drop k s)) (add-zero i) in omega arith
up_to_past c s i (suc n) h f =
    let e : i + 1 + n ≡ i + suc n = omega arith in
    up_to_more c s i (omega arith) (f i (omega arith) (omega arith))
    ∙ (let r = up_to_past c s (i + 1) n (omega arith) (λ k l m. f k (omega arith) (omega arith)) ∙ ap (λ (k : ℕ). n + up_to c (drop k s)) e in omega arith)

-- part k + 1 of a list starts as far behind the first separator as part k of what stands there
start_cut : (c : ℕ) (s : List ℕ) (k : ℕ) → up_to c s < length s → start_of c s (suc k) ≡ suc (up_to c s) + start_of c (drop (suc (up_to c s)) s) k
start_cut c [] k h = absurd (not-suc-le-zero h)
start_cut c (x ∷ xs) k h = go (eqb x c) h (start_cut c xs k)
  where
    go : (b : Bool) → cond b 0 (suc (up_to c xs)) < suc (length xs)
        → (up_to c xs < length xs → start_of c xs (suc k) ≡ suc (up_to c xs) + start_of c (drop (suc (up_to c xs)) xs) k)
        → suc (cond b (start_of c xs k) (start_of c xs (suc k))) ≡ suc (cond b 0 (suc (up_to c xs))) + start_of c (drop (suc (cond b 0 (suc (up_to c xs)))) (x ∷ xs)) k
    go true l r = omega arith
    go false l r = let t = r (le_of_suc-le-suc l) in omega arith

start_last : (c : ℕ) (s : List ℕ) (k : ℕ) → up_to c s ≡ length s → start_of c s (suc k) ≡ length s
start_last c [] k h = refl
start_last c (x ∷ xs) k h = go (eqb x c) h (start_last c xs k)
  where
    go : (b : Bool) → cond b 0 (suc (up_to c xs)) ≡ suc (length xs) → (up_to c xs ≡ length xs → start_of c xs (suc k) ≡ length xs)
        → suc (cond b (start_of c xs k) (start_of c xs (suc k))) ≡ suc (length xs)
    go true l r = absurd (omega arith)
    go false l r = ap suc (r (omega arith))

-- the same at an index: e is where the part at i ends
module _ (c : ℕ) (s : List ℕ) (i e : ℕ) (h : i ≤ length s) (f : e ≡ i + up_to c (drop i s)) where
  pub start_on : (k : ℕ) → (k ≡ 0 → ⊥) → e < length s → i + start_of c (drop i s) k ≡ e + 1 + start_of c (drop (e + 1) s) (k - 1)
  start_on zero z l = absurd (z refl)
  start_on (suc k) z l =
      let d = length-drop i s in
      let p = drop-drop (suc (up_to c (drop i s))) i s in
      let t = start_cut c (drop i s) k (omega arith) in
      let j : i + suc (up_to c (drop i s)) ≡ e + 1 = omega arith in
      let q : start_of c (drop (suc (up_to c (drop i s))) (drop i s)) k ≡ start_of c (drop (e + 1) s) (suc k - 1)
      = ap (λ (l : List ℕ). start_of c l k) (p ∙ ap (λ (n : ℕ). drop n s) j) ∙ ap (start_of c (drop (e + 1) s)) (sym (sub-one (suc k))) in
      omega arith

  pub start_off : (k : ℕ) → (k ≡ 0 → ⊥) → length s ≤ e → i + start_of c (drop i s) k ≡ e
  start_off zero z l = absurd (z refl)
  start_off (suc k) z l =
      let d = length-drop i s in
      let u = up_to_le c (drop i s) in
      let t = start_last c (drop i s) k (omega arith) in
      omega arith

length_glue : (x : ℕ) (ps : List (List ℕ)) → 0 < length ps → length (glue x ps) ≡ length ps
length_glue x [] h = absurd (not-suc-le-zero h)
length_glue x (p ∷ ps) h = refl

pub some_split : (c : ℕ) (s : List ℕ) → 0 < length (split c s)
some_split c s = let f = first_part c s in rw f.1.1 (omega arith)

-- ---- past the last part

start_past : (c : ℕ) (s : List ℕ) (k : ℕ) → length (split c s) ≤ k → start_of c s k ≡ length s
start_past c [] k h = refl
start_past c (x ∷ xs) zero h = absurd (let n = some_split c (x ∷ xs) in omega arith)
start_past c (x ∷ xs) (suc k) h = go (eqb x c) h (start_past c xs k) (start_past c xs (suc k))
  where
    go : (b : Bool) → length (cond b ([] ∷ split c xs) (glue x (split c xs))) ≤ suc k
        → (length (split c xs) ≤ k → start_of c xs k ≡ length xs) → (length (split c xs) ≤ suc k → start_of c xs (suc k) ≡ length xs)
        → suc (cond b (start_of c xs k) (start_of c xs (suc k))) ≡ suc (length xs)
    go true h f g = ap suc (f (le_of_suc-le-suc h))
    go false h f g = let e = length_glue x (split c xs) (some_split c xs) in ap suc (g (omega arith))

-- past the last field there is the empty part at the line's end
pub past_last : (line : List ℕ) (k : ℕ) → length (split 9 line) ≤ k → EmptyAtEnd line k
past_last line k h =
    let s = start_past 9 line k h in
    let u = up_to_end 9 line (start_of 9 line k) (omega arith) in
    let e : end_of 9 line k ≡ length line = omega arith in
    let z : end_of 9 line k - start_of 9 line k ≡ 0 = omega arith in
    record { starts = s; ends = e; empty = ap (λ (n : ℕ). take n (drop (start_of 9 line k) line)) z }

pub Free-append : (c : ℕ) (a b : List ℕ) → Free c a → Free c b → Free c (a ++ b)
Free-append c [] b f g = g
Free-append c (x ∷ xs) b f g = (f.0, Free-append c xs b f.1 g)

Free-led : (c d : ℕ) (ps : List (List ℕ)) → eqb d c ≡ false → AllFree c ps → Free c (led d ps)
Free-led c d [] e f = tt
Free-led c d (p ∷ ps) e f = (e, Free-append c p (led d ps) f.0 (Free-led c d ps e f.1))

pub Free-join : (c d : ℕ) (ps : List (List ℕ)) → eqb d c ≡ false → AllFree c ps → Free c (join d ps)
Free-join c d [] e f = tt
Free-join c d (p ∷ ps) e f = Free-append c p (led d ps) f.0 (Free-led c d ps e f.1)

-- ---- lists without the separator: every part is one

glue_free : (c x : ℕ) (ps : List (List ℕ)) → eqb x c ≡ false → AllFree c ps → AllFree c (glue x ps)
glue_free c x [] e f = ((e, tt), tt)
glue_free c x (p ∷ ps) e f = ((e, f.0), f.1)

pub split_all : (c : ℕ) (s : List ℕ) → AllFree c (split c s)
split_all c [] = (tt, tt)
split_all c (x ∷ xs) = go (eqb x c) refl (split_all c xs)
  where
    go : (b : Bool) → eqb x c ≡ b → AllFree c (split c xs) → AllFree c (cond b ([] ∷ split c xs) (glue x (split c xs)))
    go true e f = (tt, f)
    go false e f = glue_free c x (split c xs) e f

-- the same byte by byte
pub lacks_free : (c : ℕ) (s : List ℕ) → Lacks c s 0 (length s) → Free c s
lacks_free c [] h = tt
lacks_free c (x ∷ xs) h = (ne_eqb x c (h 0 (omega arith) (omega arith)), lacks_free c xs (λ k a b. h (suc k) (omega arith) (omega arith)))

pub free_lacks : (c : ℕ) (s : List ℕ) → Free c s → Lacks c s 0 (length s)
free_lacks c [] f k a b e = absurd (omega arith)
free_lacks c (x ∷ xs) f zero a b e = true_false (eq-eqb x c e) f.0
free_lacks c (x ∷ xs) f (suc k) a b e = free_lacks c xs f.1 k (omega arith) (omega arith) e
