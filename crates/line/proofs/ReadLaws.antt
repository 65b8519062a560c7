-- What the code meets on a line, in terms of what its callees answer.
use Prim.Native.Nat.{ℕ, zero, suc, ◌+◌}
use mathlib.Core.Path.{◌≡◌, refl, sym, ap, subst, ◌∙◌}
use mathlib.Core.Bool.{Bool, true, false, cond, ◌&&◌}
use mathlib.Core.List.{List, [], ◌∷◌, map}
use mathlib.Core.Option as M
use native.Mathlib.Omega.{arith}
use mir.Syntax.{w64}
use mir.Val.{to_z, of_z, SFits}
use mir.Facts.{to_z-of_z}
use lib.Dec.{eqb}
use lib.ListN.{length, get_or, take, drop}
use lib.Seq.{get_or-drop}
use lib.IntN.{ℤ, pos, negsuc}
use borrow.Author.Tests.{eqb-true, eq-eqb}
use Rattle.std.specs.Prelude.{Option, Some, None, Result, Ok, Err}
use Rattle.numbers.proofs.Bools.{and_left, and_right, true_false}
use Rattle.text.specs.Parts.{split, field_of}
use Rattle.text.specs.Fields.{same, read_ints}
use Rattle.text.specs.Number.{clamp}
use Rattle.text.proofs.PartLaws.{field_split}
use Rattle.group.specs.Limits.{function_fits}
use Rattle.group.specs.Refusals.{refusal}
use Rattle.group.specs.declared.Name.{Name}
use Rattle.group.specs.declared.Unit as U
use Rattle.group.specs.declared.Shape.{Shape}
use Rattle.group.specs.declared.Function.{Function}
use Rattle.group.specs.declared.Refusal.{Refusal}
use Rattle.line.specs.Names.{read_name, read_unit}
use Rattle.line.specs.Lines.{formed, fields, line_of, head_texts, no_texts, of_shape, shape_fit, shape_fields, grid_texts, paired}
use Rattle.line.specs.Numbers.{read_count, as_read}
use Rattle.line.proofs.LineLaws.{Small, keyed_miss, keyed_hit, clamped, fields_count, fields_text, fields_unread, fields_read, limited, numbers_none, numbers_some}
use Rattle.line.proofs.LimitLaws.{shape_small}
use Rattle.line.proofs.NumberLaws.{count_length}
use Rattle.line.proofs.KindLaws.{ShapeKind}

-- the test of a line's keyword, alone and with the count of its fields
pub keyword_told : (word line f : List ℕ) (r : Bool) → r ≡ same f word → f ≡ field_of line 0 → same (get_or (split 9 line) 0 []) word ≡ r
keyword_told word line f r e g = sym (e ∙ ap (λ (l : List ℕ). same l word) (g ∙ field_split line 0))

pub kind_counted : (word line : List ℕ) (n : ℕ) (r : Bool) → r ≡ (same (field_of line 0) word && eqb (length (split 9 line)) n) → r ≡ true → length (split 9 line) ≡ n
kind_counted word line n r e t = eqb-true (length (split 9 line)) n (and_right (same (field_of line 0) word) (eqb (length (split 9 line)) n) (sym e ∙ t))

module _ {B A E : Type 0} (texts numbers : ℕ) (read : List (List ℕ) → Option B) (fits : List ℤ → Bool) (make : B → List ℤ → A) (form limit : E) (word line : List ℕ) where
  keyword : same (get_or (split 9 line) 0 []) word ≡ same (field_of line 0) word
  keyword = ap (λ (l : List ℕ). same l word) (sym (field_split line 0))

  pub kind_hit : (r : Bool) → r ≡ (same (field_of line 0) word && eqb (length (split 9 line)) (suc (texts + numbers))) → r ≡ true
      → line_of texts numbers read fits make form limit word line ≡ fields texts numbers read fits make form limit (drop 1 (split 9 line))
  kind_hit r e t =
      keyed_hit word (fields texts numbers read fits make form limit) (λ fs. Err form) line
      (keyword ∙ and_left (same (field_of line 0) word) (eqb (length (split 9 line)) (suc (texts + numbers))) (sym e ∙ t))

  pub kind_miss : (r : Bool) → r ≡ (same (field_of line 0) word && eqb (length (split 9 line)) (suc (texts + numbers))) → r ≡ false
      → line_of texts numbers read fits make form limit word line ≡ Err form
  kind_miss r e f = go (same (field_of line 0) word) refl (sym e ∙ f)
    where
      go : (b : Bool) → same (field_of line 0) word ≡ b → (b && eqb (length (split 9 line)) (suc (texts + numbers))) ≡ false
          → line_of texts numbers read fits make form limit word line ≡ Err form
      go false k q = keyed_miss word (fields texts numbers read fits make form limit) (λ fs. Err form) (split 9 line) (keyword ∙ k)
      go true k q =
          keyed_hit word (fields texts numbers read fits make form limit) (λ fs. Err form) line (keyword ∙ k)
          ∙ fields_count texts numbers read fits make form limit line (λ n. true_false (eq-eqb (length (split 9 line)) (suc (texts + numbers)) n) q)

-- ---- a line of a kind, by what the reading of its texts and of its numbers tells

module _ {B A E : Type 0} (texts numbers : ℕ) (read : List (List ℕ) → Option B) (fits : List ℤ → Bool) (make : B → List ℤ → A) (form limit : E) (word line : List ℕ)
    (r : Bool) (e : r ≡ (same (field_of line 0) word && eqb (length (split 9 line)) (suc (texts + numbers)))) (t : r ≡ true) where
  abbrev whole : Result A E
  whole = line_of texts numbers read fits make form limit word line

  opened : whole ≡ fields texts numbers read fits make form limit (drop 1 (split 9 line))
  opened = kind_hit texts numbers read fits make form limit word line r e t

  counted : length (split 9 line) ≡ suc (texts + numbers)
  counted = kind_counted word line (suc (texts + numbers)) r e t

  pub kind_textless : read (drop 1 (split 9 line)) ≡ None → Err form ≡ whole
  kind_textless q = sym (opened ∙ fields_text texts numbers read fits make form limit (split 9 line) counted q)

  module _ (o : Option (List ℤ)) (told : o ≡ as_read (read_ints (take numbers (drop (suc texts) (split 9 line))))) where
    pub kind_unread : o ≡ None → Err form ≡ whole
    kind_unread q = sym (opened ∙ fields_unread texts numbers read fits make form limit (split 9 line) counted o told q)

    pub kind_read : ((zs : List ℤ) → length zs ≡ numbers → fits zs ≡ true → Small zs) → (b : B) → read (drop 1 (split 9 line)) ≡ Some b → (ys : List ℤ) → o ≡ Some ys
        → cond (fits ys) (Ok (make b ys)) (Err limit) ≡ whole
    kind_read small b q ys w = sym (opened ∙ fields_read texts numbers read fits make form limit (split 9 line) counted o told small b ys q w)

-- ---- the texts of a line

module _ (line : List ℕ) where
  text_0 : get_or (drop 1 (split 9 line)) 0 [] ≡ field_of line 1
  text_0 = get_or-drop 1 (split 9 line) 0 [] ∙ sym (field_split line 1)

  text_1 : get_or (drop 1 (split 9 line)) 1 [] ≡ field_of line 2
  text_1 = get_or-drop 1 (split 9 line) 1 [] ∙ sym (field_split line 2)

  pub grid_texts_lem : grid_texts (drop 1 (split 9 line)) ≡ read_name (field_of line 1)
  grid_texts_lem = ap read_name text_0

  head_texts_lem : head_texts (drop 1 (split 9 line)) ≡ paired (read_name (field_of line 1)) (read_unit (field_of line 2))
  head_texts_lem = λ i. paired (read_name (text_0 i)) (read_unit (text_1 i))

  pub head_unnamed : read_name (field_of line 1) ≡ None → head_texts (drop 1 (split 9 line)) ≡ None
  head_unnamed e = head_texts_lem ∙ ap (λ (o : Option Name). paired o (read_unit (field_of line 2))) e

  pub head_unitless : read_unit (field_of line 2) ≡ None → head_texts (drop 1 (split 9 line)) ≡ None
  head_unitless e = head_texts_lem ∙ ap (paired (read_name (field_of line 1))) e ∙ go (read_name (field_of line 1))
    where
      go : (o : Option Name) → paired o None ≡ None
      go None = refl
      go (Some m) = refl

  pub head_named : (n : Name) (u : U.Unit) → read_name (field_of line 1) ≡ Some n → read_unit (field_of line 2) ≡ Some u → head_texts (drop 1 (split 9 line)) ≡ Some (n, u)
  head_named n u e f = head_texts_lem ∙ (λ i. paired (e i) (f i))

-- ---- a number comes by way of its bits

abbrev pub bits : ℤ → ℤ
bits z = to_z w64 (of_z w64 z)

clamp_fits : (z : ℤ) → SFits w64 (clamp z)
clamp_fits (pos n) = record { sfits = omega arith }
clamp_fits (negsuc n) = record { sfits = omega arith }

number_told : (zs : List ℤ) (k : ℕ) → bits (get_or (map clamp zs) k (pos 0)) ≡ get_or (map clamp zs) k (pos 0)
number_told [] k = refl
number_told (z ∷ zs) zero = to_z-of_z {w = w64} (clamp_fits z)
number_told (z ∷ zs) (suc k) = number_told zs k

-- and those of a line come as they are
pub numbers_told : (read : M.Option (List ℤ)) (ys : List ℤ) → as_read read ≡ Some ys → (k : ℕ) → bits (get_or ys k (pos 0)) ≡ get_or ys k (pos 0)
numbers_told read ys e k = let g = numbers_some read ys e in subst (λ (zs : List ℤ). bits (get_or zs k (pos 0)) ≡ get_or zs k (pos 0)) g.2 (number_told g.0 k)

-- ---- a function line, by what the reading of its numbers tells

module _ {word : List ℕ} {numbers : ℕ} {make : List ℤ → Shape} (k : ShapeKind word numbers make)
    (n : ℕ) (fs : List (List ℕ)) (o : Option (List ℤ)) (told : o ≡ as_read (read_count numbers fs)) where
  abbrev made : M.Option (List ℤ) → Result Function Refusal
  made = formed 0 numbers no_texts (shape_fit make) (of_shape make) (refusal 1 n) (refusal 2 n) (Some tt)

  behind : shape_fields numbers make n fs ≡ made (read_count numbers fs)
  behind = ap (λ (m : ℕ). cond (eqb (length fs) m) (made (read_ints fs)) (Err (refusal 1 n))) none_more ∙ go (eqb (length fs) numbers)
    where
      none_more : 0 + numbers ≡ numbers
      none_more = omega arith

      go : (t : Bool) → cond t (made (read_ints fs)) (Err (refusal 1 n)) ≡ made (cond t (read_ints fs) M.none)
      go true = refl
      go false = refl

  small : (zs : List ℤ) → length zs ≡ numbers → shape_fit make zs ≡ true → Small zs
  small zs l e = subst Small (k.ints zs l) (shape_small (make zs) e)

  pub shape_unread : o ≡ None → Err (refusal 1 n) ≡ shape_fields numbers make n fs
  shape_unread e = sym (behind ∙ ap made (numbers_none _ (sym told ∙ e)))

  pub shape_read : (ys : List ℤ) → o ≡ Some ys → (s : Shape) → s ≡ make ys → limited function_fits (refusal 2) n (record { shape = s }) ≡ shape_fields numbers make n fs
  shape_read ys e s q =
      let z = numbers_some _ ys (sym told ∙ e) in
      ap (λ (t : Shape). limited function_fits (refusal 2) n (record { shape = t })) q
      ∙ sym (behind ∙ ap made z.1
      ∙ sym (clamped 0 numbers no_texts (shape_fit make) (of_shape make) (refusal 1 n) (refusal 2 n) small tt z.0 (count_length numbers fs z.0 z.1))
      ∙ ap (λ (xs : List ℤ). made (M.some xs)) z.2)
