-- A loop that writes lines.
use Prim.Native.Nat.{ℕ, suc, ◌+◌, ◌<◌, ◌≤◌}
use mathlib.Core.Path.{◌≡◌, refl, sym, ap, subst, ◌∙◌}
use mathlib.Core.List.{List, [], ◌∷◌, ◌++◌, append_assoc}
use native.Mathlib.Numerals.{add-one}
use native.Mathlib.Omega.{arith}
use lib.ListN.{length, take, drop, get_or, take-append-drop}
use lib.Seq.{drop-cons, take-suc}
use Rattle.text.specs.Wrote.{Wrote}
use Rattle.text.proofs.PutLaws.{put_nil, room_first, room_next, wrote_both}
use Rattle.header.specs.Items.{closed}

module _ {A : Type 0} (text : A → List ℕ) where
  closed_append : (xs ys : List A) → closed text (xs ++ ys) ≡ closed text xs ++ closed text ys
  closed_append [] ys = refl
  closed_append (x ∷ xs) ys = ap (λ (l : List ℕ). text x ++ 10 ∷ l) (closed_append xs ys) ∙ sym (append_assoc (text x) (10 ∷ closed text xs) (closed text ys))

  -- the state of a loop that writes all of them: k of them stand in the bytes
  abbrev pub Writes : (xs : List A) (at : ℕ) (out : List ℕ) (next k : ℕ) (bytes : List ℕ) → Type 0
  Writes xs at out next k bytes = Wrote at (closed text (take k xs)) out next bytes

  pub writes_none : (xs : List A) (at : ℕ) (out : List ℕ) → Writes xs at out at 0 out
  writes_none xs at out = record { place = omega arith; holds = sym (put_nil at out) }

  module _ (d : A) (xs : List A) (at : ℕ) (out : List ℕ) (room : at + length (closed text xs) ≤ length out)
      (next k : ℕ) (bytes : List ℕ) (w : Writes xs at out next k bytes) where
    module _ (h : k < length xs) where
      line : List ℕ
      line = text (get_or xs k d) ++ (10 ∷ [])

      behind : List ℕ
      behind = closed text (drop (suc k) xs)

      lines : closed text xs ≡ closed text (take k xs) ++ (line ++ behind)
      unfolding line behind
      lines =
          ap (closed text) (sym (take-append-drop k xs) ∙ ap (λ (ys : List A). take k xs ++ ys) (drop-cons xs k d h))
          ∙ closed_append (take k xs) (get_or xs k d ∷ drop (suc k) xs)
          ∙ ap (λ (l : List ℕ). closed text (take k xs) ++ l) (sym (append_assoc (text (get_or xs k d)) (10 ∷ []) (closed text (drop (suc k) xs))))

      whole_room : at + length (closed text (take k xs) ++ (line ++ behind)) ≤ length out
      whole_room = subst (λ (l : List ℕ). at + length l ≤ length out) lines room

      pub writes_room : next + length (text (get_or xs k d) ++ (10 ∷ [])) ≤ length bytes
      unfolding line
      writes_room = room_first next line behind bytes (room_next at (closed text (take k xs)) (line ++ behind) out next bytes w whole_room)

      pub writes_more : (p : ℕ) (after : List ℕ) → Wrote next (text (get_or xs k d) ++ (10 ∷ [])) bytes p after → Writes xs at out p (k + 1) after
      unfolding line
      writes_more p after v =
          let e : closed text (take (k + 1) xs) ≡ closed text (take k xs) ++ line =
          ap (λ (n : ℕ). closed text (take n xs)) (add-one k) ∙ ap (closed text) (take-suc xs k d h) ∙ closed_append (take k xs) (get_or xs k d ∷ []) in
          let r : at + length (closed text (take k xs) ++ line) ≤ length out =
          room_first at (closed text (take k xs) ++ line) behind out (subst (λ (l : List ℕ). at + length l ≤ length out) (sym (append_assoc (closed text (take k xs)) line behind)) whole_room) in
          subst (λ (t : List ℕ). Wrote at t out p after) (sym e) (wrote_both at (closed text (take k xs)) line out next bytes p after w v r)
