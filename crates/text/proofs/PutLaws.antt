-- Laws of put, and of writers one after the other.
use Prim.Native.Nat.{ℕ, ◌+◌, ◌<◌, ◌≤◌}
use mathlib.Core.Path.{◌≡◌, refl, sym, ap, subst, ◌∙◌}
use mathlib.Core.Bool.{true, false}
use mathlib.Core.List.{List, [], ◌∷◌, ◌++◌, append_assoc, append-nil}
use native.Mathlib.Nat.{add-zero}
use native.Mathlib.Numerals.{add-one}
use native.Mathlib.Omega.{arith}
use lib.ListN.{length, take, drop, set, length-append, length-take, length-drop, take-append-drop}
use lib.Seq.{length-take-le, set_split, take_at, drop_at, drop-drop}
use lib.IntN.{ℤ, pos, negsuc, nat_abs}
use lib.Signed.{lt_z}
use borrow.Author.Tests.{ltb-true}
use mir.Syntax.{w64}
use mir.Val.{to_z, of_z, SFits}
use mir.Facts.{to_z-of_z}
use Rattle.text.specs.Parts.{led, join}
use Rattle.text.specs.Decimal.{decimal, int_text}
use Rattle.text.specs.Put.{put}
use Rattle.text.specs.Wrote.{Wrote}

pub put_nil : (at : ℕ) (out : List ℕ) → put at [] out ≡ out
unfolding put
put_nil at out = rw (add-zero at) (take-append-drop at out)

pub length_put : (at : ℕ) (t out : List ℕ) → at + length t ≤ length out → length (put at t out) ≡ length out
unfolding put
length_put at t out h = simp (length-append, length-take, length-drop) (omega arith)

-- a second text behind the first
pub put_put : (at : ℕ) (a b out : List ℕ) → at + length a + length b ≤ length out → put (at + length a) b (put at a out) ≡ put at (a ++ b) out
unfolding put
put_put at a b out h =
    let n : length (take at out) ≡ at = length-take-le at out (omega arith) in
    let m : length (take at out ++ a) ≡ at + length a = simp length-append (omega arith) in
    let l : List ℕ = take at out ++ a in
    let r : List ℕ = drop (at + length a) out in
    let e : take at out ++ (a ++ r) ≡ l ++ r = sym (append_assoc (take at out) a r) in
    let t₁ : take (at + length a) (take at out ++ (a ++ r)) ≡ l = ap (take (at + length a)) e ∙ take_at l r (at + length a) m in
    let d₁ : drop (at + length a + length b) (take at out ++ (a ++ r)) ≡ drop (length b) r = ap (drop (at + length a + length b)) e ∙ sym (drop-drop (length b) (at + length a) (l ++ r)) ∙ ap (drop (length b)) (drop_at l r (at + length a) m) in
    let k₂ : at + length a + length b ≡ at + length (a ++ b) = omega (arith, length-append a b) in
    let d₂ : drop (length b) r ≡ drop (at + length (a ++ b)) out = drop-drop (length b) (at + length a) out ∙ ap (λ (k : ℕ). drop k out) k₂ in
    rw (t₁, d₁, d₂) (simp append_assoc)

-- one byte
pub put_one : (at x : ℕ) (out : List ℕ) → at < length out → set out at x ≡ put at (x ∷ []) out
unfolding put
put_one at x out h = set_split out at x h ∙ ap (λ (k : ℕ). take at out ++ x ∷ drop k out) (sym (add-one at))

-- one byte behind a text
pub put_snoc : (at x p : ℕ) (t out : List ℕ) → at + length t < length out → p ≡ at + length t → set (put at t out) p x ≡ put at (t ++ (x ∷ [])) out
put_snoc at x p t out h e =
    let l = length_put at t out (omega arith) in
    ap (λ (k : ℕ). set (put at t out) k x) e
    ∙ put_one (at + length t) x (put at t out) (omega arith)
    ∙ put_put at t (x ∷ []) out (omega arith)

-- a text behind a text, as two calls leave it
pub put_more : (at p : ℕ) (a b out out₁ out₂ : List ℕ) → out₁ ≡ put at a out → p ≡ at + length a → out₂ ≡ put p b out₁ → at + length a + length b ≤ length out → out₂ ≡ put at (a ++ b) out
put_more at p a b out out₁ out₂ e q f h =
    f ∙ ap (λ (k : ℕ). put k b out₁) q ∙ ap (put (at + length a) b) e ∙ put_put at a b out h

-- a tab, and a tab and a minus
pub put_two : (at x y : ℕ) (out : List ℕ) → at + 2 ≤ length out → set (set out at x) (at + 1) y ≡ put at (x ∷ y ∷ []) out
put_two at x y out h = ap (λ (l : List ℕ). set l (at + 1) y) (put_one at x out (omega arith)) ∙ put_snoc at y (at + 1) (x ∷ []) out (omega arith) refl

-- ---- writers one after the other

pub wrote_length : {at : ℕ} {t out : List ℕ} {p : ℕ} {after : List ℕ} → Wrote at t out p after → at + length t ≤ length out → length after ≡ length out
wrote_length {at} {t} {out} w h = ap length w.holds ∙ length_put at t out h

-- the room that two texts have is the room of the first, and behind it that of the second
pub room_first : (at : ℕ) (a b out : List ℕ) → at + length (a ++ b) ≤ length out → at + length a ≤ length out
room_first at a b out h = omega (arith, length-append a b)

pub room_next : (at : ℕ) (a b out : List ℕ) (p : ℕ) (after : List ℕ) → Wrote at a out p after → at + length (a ++ b) ≤ length out → p + length b ≤ length after
room_next at a b out p after w h =
    let e = length-append a b in
    let k = wrote_length w (omega arith) in
    let q = w.place in
    omega arith

pub wrote_both : (at : ℕ) (a b out : List ℕ) (p : ℕ) (mid : List ℕ) (q : ℕ) (after : List ℕ) → Wrote at a out p mid → Wrote p b mid q after → at + length (a ++ b) ≤ length out → Wrote at (a ++ b) out q after
wrote_both at a b out p mid q after v w h =
    let e = length-append a b in
    let l = v.place in
    let m = w.place in
    record { place = omega arith; holds = put_more at p a b out mid after v.holds v.place w.holds (omega arith) }

-- a tab and a number, by its sign and its size's digits
module _ (at n : ℕ) (out : List ℕ) (p : ℕ) (after : List ℕ) where
  pub wrote_below : (z : ℤ) → lt_z z (pos 0) ≡ true → n ≡ nat_abs z → at + length (9 ∷ int_text z) ≤ length out
      → Wrote (at + 2) (decimal n) (set (set out at 9) (at + 1) 45) p after → Wrote at (9 ∷ int_text z) out p after
  wrote_below (pos m) l e h w = absurd (let b = ltb-true m 0 l in omega arith)
  wrote_below (negsuc m) l e h w =
      rw (← e)
      (wrote_both at (9 ∷ 45 ∷ []) (decimal n) out (at + 2) _ p after (record { place = refl; holds = put_two at 9 45 out (omega arith) }) w (rw e h))

  pub wrote_above : (z : ℤ) → lt_z z (pos 0) ≡ false → n ≡ nat_abs z → at + length (9 ∷ int_text z) ≤ length out
      → Wrote (at + 1) (decimal n) (set out at 9) p after → Wrote at (9 ∷ int_text z) out p after
  wrote_above (pos m) l e h w =
      rw (← e)
      (wrote_both at (9 ∷ []) (decimal n) out (at + 1) _ p after (record { place = refl; holds = put_one at 9 out (omega arith) }) w (rw e h))
  wrote_above (negsuc m) l e h w = let q : ◌≡◌ {A = ℕ} 0 1 = cc in absurd (omega arith)

-- ---- a text written piece by piece: some of it stands in the bytes, and the rest is left

pub record Left (at : ℕ) (text out rest : List ℕ) (p : ℕ) (mid : List ℕ) : Type 0 where
  pub done : List ℕ
  pub whole : done ++ rest ≡ text
  pub wrote : Wrote at done out p mid
  pub room : at + length text ≤ length out

pub left_all : (at : ℕ) (text out rest : List ℕ) → text ≡ rest → at + length text ≤ length out → Left at text out rest at out
left_all at text out rest e r = record { done = []; whole = sym e; wrote = record { place = omega arith; holds = sym (put_nil at out) }; room = r }

module _ {at : ℕ} {text out : List ℕ} {p : ℕ} {mid : List ℕ} where
  pub left_none : Left at text out [] p mid → Wrote at text out p mid
  left_none l = subst (λ (t : List ℕ). Wrote at t out p mid) (sym (append-nil l.done) ∙ l.whole) l.wrote

  -- the next piece: its room, and what is left behind it
  module _ (t rest : List ℕ) (l : Left at text out (t ++ rest) p mid) where
    whole_room : at + length (l.done ++ (t ++ rest)) ≤ length out
    whole_room = subst (λ (s : List ℕ). at + length s ≤ length out) (sym l.whole) l.room

    pub left_room : p + length t ≤ length mid
    left_room = room_first p t rest mid (room_next at l.done (t ++ rest) out p mid l.wrote whole_room)

    pub left_more : {q : ℕ} {after : List ℕ} → Wrote p t mid q after → Left at text out rest q after
    left_more {q} {after} w =
        let a = append_assoc l.done t rest in
        record {
          done = l.done ++ t;
          whole = a ∙ l.whole;
          wrote = wrote_both at l.done t out p mid q after l.wrote w (room_first at (l.done ++ t) rest out (subst (λ (s : List ℕ). at + length s ≤ length out) (sym a) whole_room));
          room = l.room;
        }

  -- the same for a number that comes by way of its bits
  module _ (z : ℤ) (rest : List ℕ) (s : SFits w64 z) (l : Left at text out (9 ∷ (int_text z ++ rest)) p mid) where
    pub int_room : p + length (9 ∷ int_text (to_z w64 (of_z w64 z))) ≤ length mid
    int_room = subst (λ (y : ℤ). p + length (9 ∷ int_text y) ≤ length mid) (sym (to_z-of_z s)) (left_room (9 ∷ int_text z) rest l)

    pub int_more : {q : ℕ} {after : List ℕ} → Wrote p (9 ∷ int_text (to_z w64 (of_z w64 z))) mid q after → Left at text out rest q after
    int_more {q} {after} w = left_more (9 ∷ int_text z) rest l (subst (λ (y : ℤ). Wrote p (9 ∷ int_text y) mid q after) (to_z-of_z s) w)

-- ---- the pieces of a line: its word, and each field with its tab

abbrev pub pieces : List (List ℕ) → List ℕ → List ℕ
pieces [] end = end
pieces (f ∷ fs) end = 9 ∷ (f ++ pieces fs end)

led_pieces : (fs : List (List ℕ)) (end : List ℕ) → led 9 fs ++ end ≡ pieces fs end
led_pieces [] end = refl
led_pieces (f ∷ fs) end = ap (λ (t : List ℕ). 9 ∷ t) (append_assoc f (led 9 fs) end ∙ ap (λ (t : List ℕ). f ++ t) (led_pieces fs end))

pub line_pieces : (word : List ℕ) (fs : List (List ℕ)) (end : List ℕ) → join 9 (word ∷ fs) ++ end ≡ word ++ pieces fs end
line_pieces word fs end = append_assoc word (led 9 fs) end ∙ ap (λ (t : List ℕ). word ++ t) (led_pieces fs end)

-- the length of a line
abbrev pub lengths : List (List ℕ) → ℕ
lengths [] = 0
lengths (f ∷ fs) = 1 + (length f + lengths fs)

led_length : (fs : List (List ℕ)) → length (led 9 fs) ≡ lengths fs
led_length [] = refl
led_length (f ∷ fs) = let e = length-append f (led 9 fs) in let h = led_length fs in omega arith

pub line_length : (word : List ℕ) (fs : List (List ℕ)) → length (join 9 (word ∷ fs)) ≡ length word + lengths fs
line_length word fs = length-append word (led 9 fs) ∙ ap (λ (n : ℕ). length word + n) (led_length fs)
