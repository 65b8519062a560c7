-- Laws of names and units: as text and as records.
use Prim.Native.Nat.{ℕ, zero, suc, ◌+◌, ◌-◌, ◌<◌, ◌≤◌}
use mathlib.Core.Path.{◌≡◌, refl, sym, ap, ◌∙◌}
use mathlib.Core.Bool.{Bool, true, false, cond, ◌&&◌, ◌||◌}
use mathlib.Core.List.{List, [], ◌∷◌, ◌++◌}
use Rattle.std.specs.Prelude.{None, Some}
use native.Mathlib.Decide.{dec_lt}
use native.Mathlib.Omega.{arith}
use lib.Dec.{leb, eqb}
use lib.ListN.{length, drop, get_or, replicate, length-replicate, length-drop, take-append-drop, get_or-append, get_or-eq_default}
use lib.Seq.{take_at, length-take-le, get_or-take, get_or-drop, get_or-append-add, ext_get_or}
use borrow.Author.Tests.{le-leb, lt-leb, leb-true, lt-ltb, le-ltb, eqb-true, ne_eqb}
use Rattle.numbers.specs.First.{every}
use Rattle.numbers.proofs.FirstLaws.{every_at, all_every}
use Rattle.numbers.proofs.Bools.{and_left, and_right, and_parts}
use Rattle.text.specs.Fields.{same}
use Rattle.text.proofs.PartLaws.{Free}
use Rattle.text.proofs.FieldLaws.{false_not_true, same_true}
use Rattle.group.specs.Numbers.{name_most}
use Rattle.group.specs.Limits.{name_byte, byte_fits, name_fits}
use Rattle.group.specs.declared.Name.{Name}
use Rattle.group.specs.declared.Unit as U
use Rattle.group.specs.declared.Unit.TheVariants.{ArcSecond, Metre}
use Rattle.line.specs.Names.{all_name_bytes, is_name, name_of, name_text, read_name, unit_text, read_unit}

-- ---- a name's length and its bytes

pub name_bytes : (s : List ℕ) → 1 ≤ length s → length s ≤ name_most → is_name s ≡ all_name_bytes s
unfolding is_name
name_bytes s h k = rw (le-leb 1 (length s) h, le-leb (length s) name_most k)

pub name_length : (s : List ℕ) → is_name s ≡ true → (1 ≤ length s) × (length s ≤ name_most)
unfolding is_name
name_length s e =
    let p = and_parts _ _ e in
    let q = and_parts _ _ p.0 in
    (leb-true 1 (length s) q.0, leb-true (length s) name_most q.1)

-- the name of a text, as text again
pub name_text_name_of : (s : List ℕ) → name_text (name_of s) ≡ s
name_text_name_of s = take_at s (replicate (name_most - length s) 0) (length s) refl

-- a name with zeros behind it, from its text again
pub name_of_name_text : (n : Name) → n.len ≤ length n.bytes → drop n.len n.bytes ≡ replicate (name_most - n.len) 0 → name_of (name_text n) ≡ n
name_of_name_text n h z =
    let l : length (name_text n) ≡ n.len = length-take-le n.len n.bytes h in
    let b : name_text n ++ replicate (name_most - length (name_text n)) 0 ≡ n.bytes =
    ap (λ (k : ℕ). name_text n ++ replicate (name_most - k) 0) l ∙ ap (λ (t : List ℕ). name_text n ++ t) (sym z) ∙ take-append-drop n.len n.bytes in
    λ i. record { bytes = b i; len = l i }

-- ---- a name as text is a name as a record

pub bytes_at : (f : List ℕ) (k d : ℕ) → all_name_bytes f ≡ true → k < length f → name_byte (get_or f k d) ≡ true
bytes_at [] k d e h = absurd (omega arith)
bytes_at (x ∷ xs) zero d e h = and_left (name_byte x) (all_name_bytes xs) e
bytes_at (x ∷ xs) (suc k) d e h = bytes_at xs k d (and_right (name_byte x) (all_name_bytes xs) e) (omega arith)

pub bytes_all : (f : List ℕ) → ((k : ℕ) → k < length f → name_byte (get_or f k 0) ≡ true) → all_name_bytes f ≡ true
bytes_all [] h = refl
bytes_all (x ∷ xs) h = rw (h 0 (omega arith)) (bytes_all xs (λ k l. h (suc k) (omega arith)))

zeros_at : (m j : ℕ) → ◌≡◌ {A = ℕ} (get_or (replicate m 0) j 0) 0
zeros_at zero j = refl
zeros_at (suc m) zero = refl
zeros_at (suc m) (suc j) = zeros_at m j

byte_in : (n : Name) (k : ℕ) → k < n.len → byte_fits n k ≡ name_byte (get_or n.bytes k 0)
unfolding byte_fits
byte_in n k h = rw (lt-ltb k n.len h, lt-leb n.len k h) (or_none (name_byte (get_or n.bytes k 0)))
  where
    or_none : (b : Bool) → (b || false) ≡ b
    or_none true = refl
    or_none false = refl

byte_behind : (n : Name) (k : ℕ) → n.len ≤ k → byte_fits n k ≡ eqb (get_or n.bytes k 0) 0
unfolding byte_fits
byte_behind n k h = rw (le-ltb k n.len h, le-leb n.len k h)

pub is_name_fits : (f : List ℕ) → is_name f ≡ true → name_fits (name_of f) ≡ true
unfolding name_fits
is_name_fits f e =
    let l = name_length f e in
    let b : all_name_bytes f ≡ true = sym (name_bytes f l.0 l.1) ∙ e in
    rw (le-leb 1 (length f) l.0, le-leb (length f) name_most l.1)
    (all_every (byte_fits (name_of f)) name_most (λ k h. elim (dec_lt k (length f)) [ yes i ↦ inside b k i | no i ↦ behind k (omega arith) ]))
  where
    inside : all_name_bytes f ≡ true → (k : ℕ) → k < length f → byte_fits (name_of f) k ≡ true
    inside b k i = byte_in (name_of f) k i ∙ ap name_byte (get_or-append f (replicate (name_most - length f) 0) 0 k i) ∙ bytes_at f k 0 b i

    behind : (k : ℕ) → length f ≤ k → byte_fits (name_of f) k ≡ true
    behind k i =
        let j : length f + (k - length f) ≡ k = omega arith in
        let z : get_or (f ++ replicate (name_most - length f) 0) k 0 ≡ 0 =
        ap (λ (m : ℕ). get_or (f ++ replicate (name_most - length f) 0) m 0) (sym j) ∙ get_or-append-add f (replicate (name_most - length f) 0) (k - length f) 0 ∙ zeros_at (name_most - length f) (k - length f) in
        byte_behind (name_of f) k i ∙ rw z

pub name_len : (n : Name) → name_fits n ≡ true → (1 ≤ n.len) × (n.len ≤ name_most)
unfolding name_fits
name_len n e =
    let p = and_parts _ _ e in
    let q = and_parts _ _ p.0 in
    (leb-true 1 n.len q.0, leb-true n.len name_most q.1)

module _ (n : Name) (e : name_fits n ≡ true) where
  all_fit : every (byte_fits n) name_most ≡ true
  unfolding name_fits
  all_fit = and_right (leb 1 n.len && leb n.len name_most) (every (byte_fits n) name_most) e

  -- no byte of it is missing: what is not there counts as 0
  within_bytes : n.len ≤ length n.bytes
  within_bytes = elim (dec_lt (length n.bytes) n.len) [ yes h ↦ absurd (missing h) | no h ↦ omega arith ]
    where
      missing : length n.bytes < n.len → ⊥
      missing h =
          let l = name_len n e in
          false_not_true
          (ap name_byte (sym (get_or-eq_default n.bytes 0 {n = length n.bytes} (omega arith))) ∙ sym (byte_in n (length n.bytes) h)
          ∙ every_at (byte_fits n) name_most (length n.bytes) all_fit (omega arith))

  pub fits_is_name : is_name (name_text n) ≡ true
  fits_is_name =
      let l = name_len n e in
      let k = length-take-le n.len n.bytes within_bytes in
      name_bytes (name_text n) (omega arith) (omega arith)
      ∙ bytes_all (name_text n) (λ i h. ap name_byte (get_or-take n.len n.bytes i 0 (omega arith)) ∙ sym (byte_in n i (omega arith)) ∙ every_at (byte_fits n) name_most i all_fit (omega arith))

-- of a name that has all its bytes
module _ (n : Name) (room : length n.bytes ≡ name_most) where
  zeros_behind : n.len ≤ name_most → every (byte_fits n) name_most ≡ true → drop n.len n.bytes ≡ replicate (name_most - n.len) 0
  zeros_behind l e =
      let d = length-drop n.len n.bytes in
      ext_get_or 0 (drop n.len n.bytes) (replicate (name_most - n.len) 0) (d ∙ ap (λ (k : ℕ). k - n.len) room ∙ sym (length-replicate (name_most - n.len) 0))
      (λ i h. get_or-drop n.len n.bytes i 0 ∙ zero_at i (omega arith) ∙ sym (zeros_at (name_most - n.len) i))
    where
      zero_at : (i : ℕ) → n.len + i < name_most → get_or n.bytes (n.len + i) 0 ≡ 0
      zero_at i h = eqb-true _ _ (sym (byte_behind n (n.len + i) (omega arith)) ∙ every_at (byte_fits n) name_most (n.len + i) e h)

  pub fits_back : name_fits n ≡ true → name_of (name_text n) ≡ n
  fits_back e = let l = name_len n e in name_of_name_text n (omega arith) (zeros_behind l.1 (all_fit n e))

  pub read_name_text : name_fits n ≡ true → read_name (name_text n) ≡ Some n
  read_name_text e = rw (fits_is_name n e) (ap Some (fits_back e))

-- a field that is a name, as text again
pub name_read : (f : List ℕ) (n : Name) → read_name f ≡ Some n → name_text n ≡ f
name_read f n e = go (is_name f) refl e
  where
    go : (b : Bool) → is_name f ≡ b → cond b (Some (name_of f)) None ≡ Some n → name_text n ≡ f
    go true p q = let m : name_of f ≡ n = cc in ap name_text (sym m) ∙ name_text_name_of f
    go false p q = let x : ◌≡◌ {A = ℕ} 0 1 = cc in absurd (omega arith)

pub read_name_fits : (f : List ℕ) (n : Name) → read_name f ≡ Some n → name_fits n ≡ true
read_name_fits f n e = go (is_name f) refl e
  where
    go : (b : Bool) → is_name f ≡ b → cond b (Some (name_of f)) None ≡ Some n → name_fits n ≡ true
    go true p q = let m : name_of f ≡ n = cc in ap name_fits (sym m) ∙ is_name_fits f p
    go false p q = cc

-- ---- the bytes of a name are no separators

low_byte : (x : ℕ) → x < 45 → name_byte x ≡ false
low_byte x h = rw (lt-leb 65 x (omega arith), lt-leb 97 x (omega arith), lt-leb 48 x (omega arith), ne_eqb x 95 (omega arith), ne_eqb x 45 (omega arith))

byte_free : (c x : ℕ) → c < 45 → name_byte x ≡ true → eqb x c ≡ false
byte_free c x h e = ne_eqb x c (λ q. false_not_true (sym (low_byte x (omega arith)) ∙ e))

bytes_free : (c : ℕ) (s : List ℕ) → c < 45 → all_name_bytes s ≡ true → Free c s
bytes_free c [] h e = tt
bytes_free c (x ∷ xs) h e = (byte_free c x h (and_left (name_byte x) (all_name_bytes xs) e), bytes_free c xs h (and_right (name_byte x) (all_name_bytes xs) e))

pub name_free : (c : ℕ) (s : List ℕ) → c < 45 → is_name s ≡ true → Free c s
name_free c s h e = let l = name_length s e in bytes_free c s h (sym (name_bytes s l.0 l.1) ∙ e)

-- ---- units

pub read_unit_text : (u : U.Unit) → read_unit (unit_text u) ≡ Some u
read_unit_text ArcSecond = refl
read_unit_text Metre = refl

pub unit_read : (f : List ℕ) (u : U.Unit) → read_unit f ≡ Some u → unit_text u ≡ f
unit_read f u e = go (same f (unit_text ArcSecond)) (same f (unit_text Metre)) refl refl e
  where
    go : (p q : Bool) → same f (unit_text ArcSecond) ≡ p → same f (unit_text Metre) ≡ q → cond p (Some ArcSecond) (cond q (Some Metre) None) ≡ Some u → unit_text u ≡ f
    go true q v w h = let m : ArcSecond ≡ u = cc in ap unit_text (sym m) ∙ sym (same_true f (unit_text ArcSecond) v)
    go false true v w h = let m : Metre ≡ u = cc in ap unit_text (sym m) ∙ sym (same_true f (unit_text Metre) w)
    go false false v w h = let x : ◌≡◌ {A = ℕ} 0 1 = cc in absurd (omega arith)

pub unit_free : (c : ℕ) (u : U.Unit) → c < 45 → Free c (unit_text u)
unit_free c ArcSecond l = (
  ne_eqb 97 c (omega arith),
  (
    ne_eqb 114 c (omega arith),
    (
      ne_eqb 99 c (omega arith),
      (
        ne_eqb 45 c (omega arith),
        (
          ne_eqb 115 c (omega arith),
          (ne_eqb 101 c (omega arith), (ne_eqb 99 c (omega arith), (ne_eqb 111 c (omega arith), (ne_eqb 110 c (omega arith), (ne_eqb 100 c (omega arith), tt))))),
        ),
      ),
    ),
  ),
)
unit_free c Metre l = (ne_eqb 109 c (omega arith), (ne_eqb 101 c (omega arith), (ne_eqb 116 c (omega arith), (ne_eqb 114 c (omega arith), (ne_eqb 101 c (omega arith), tt)))))
