-- What a line says: reading it and writing it undo each other, and no line feed stands in it.
use Prim.Native.Nat.{ℕ, ◌+◌, ◌<◌}
use mathlib.Core.Path.{◌≡◌, refl, sym, ap, ◌∙◌, subst}
use mathlib.Core.Bool.{Bool, true, false, cond, ◌&&◌}
use mathlib.Core.List.{List, [], ◌∷◌, map}
use mathlib.Core.Option.{Option, none, some}
use native.Mathlib.Omega.{arith}
use borrow.Author.Tests.{eqb-true, eq-eqb, ne_eqb}
use lib.Dec.{eqb}
use lib.IntN.{ℤ, pos}
use lib.ListN.{length, get_or, take, drop, length-map, get_or-map}
use Rattle.numbers.proofs.Bools.{and_parts, both}
use Rattle.text.specs.Parts.{split, join}
use Rattle.text.specs.Decimal.{int_text}
use Rattle.text.specs.Fields.{same, read_ints}
use Rattle.text.proofs.PartLaws.{Free, AllFree, join_split, split_join, Free-join}
use Rattle.text.proofs.FieldLaws.{same_refl, same_true, ints_text, text_ints, length_ints, ints_free}
use Rattle.text.proofs.DecimalLaws.{int_text_free}
use Rattle.line.specs.Names.{is_name}
use Rattle.line.proofs.NameLaws.{name_free}
use Rattle.logs.specs.Line.{Entry, fix_keyword, position_of, entry_with, entry_in, read_entry}
use Rattle.logs.specs.Order4.{Says}

-- the fields behind the word
abbrev fields_behind : Entry → List (List ℕ)
fields_behind e = int_text e.position.lon.0 ∷ int_text e.position.lat.0 ∷ int_text e.position.day ∷ e.name ∷ map int_text e.shifts

word_free : (c : ℕ) → c < 45 → Free c fix_keyword
word_free c l = (ne_eqb 102 c (omega arith), (ne_eqb 105 c (omega arith), (ne_eqb 120 c (omega arith), tt)))

fields_free : (c : ℕ) (e : Entry) → c < 45 → is_name e.name ≡ true → AllFree c (fields_behind e)
fields_free c e l n = (
  int_text_free c e.position.lon.0 l,
  (int_text_free c e.position.lat.0 l, (int_text_free c e.position.day l, (name_free c e.name l n, ints_free c e.shifts l))),
)

-- ---- said, and read

entry_fields : (np : ℕ) (e : Entry) → is_name e.name ≡ true → length e.shifts ≡ np → entry_in np (fix_keyword ∷ fields_behind e) ≡ some e
entry_fields np e n v =
    ap (λ (b : Bool). cond b (entry_with e.name (read_ints (map int_text threes)) (read_ints (map int_text e.shifts))) none)
    (both (both (same_refl fix_keyword) (eq-eqb _ (5 + np) count)) n)
    ∙ (λ i. entry_with e.name (ints_text threes i) (ints_text e.shifts i))
  where
    threes : List ℤ
    threes = e.position.lon.0 ∷ e.position.lat.0 ∷ e.position.day ∷ []

    count : length (fix_keyword ∷ fields_behind e) ≡ 5 + np
    count = let m = length-map e.shifts int_text in omega arith

pub says_read : (np : ℕ) (line : List ℕ) (e : Entry) → Says np line e → read_entry np line ≡ some e
unfolding read_entry
says_read np line e s =
    ap (λ (l : List ℕ). entry_in np (split 9 l)) s.text
    ∙ ap (entry_in np) (split_join 9 fix_keyword (fields_behind e) (word_free 9 (omega arith)) (fields_free 9 e (omega arith) s.name))
    ∙ entry_fields np e s.name s.values

-- no line feed stands in a line that says something
pub says_free : (np : ℕ) (line : List ℕ) (e : Entry) → Says np line e → Free 10 line
says_free np line e s =
    subst (Free 10) (sym s.text) (Free-join 10 9 (fix_keyword ∷ fields_behind e) refl (word_free 10 (omega arith), fields_free 10 e (omega arith) s.name))

-- ---- read, and said

-- fields that are an entry are those of its line
record Fielded (np : ℕ) (fs : List (List ℕ)) (e : Entry) : Type 0 where
  fields : fs ≡ fix_keyword ∷ fields_behind e
  pub name : is_name e.name ≡ true
  pub values : length e.shifts ≡ np

entry_with_lem : (name : List ℕ) (o p : Option (List ℤ)) (e : Entry) → entry_with name o p ≡ some e
    → (zs vs : List ℤ) × (o ≡ some zs) × (p ≡ some vs) × (record { position = position_of zs; name = name; shifts = vs } ≡ e)
entry_with_lem name none p e h = let q : ◌≡◌ {A = ℕ} 0 1 = cc in absurd (omega arith)
entry_with_lem name (some zs) none e h = let q : ◌≡◌ {A = ℕ} 0 1 = cc in absurd (omega arith)
entry_with_lem name (some zs) (some vs) e h = (zs, vs, refl, refl, cc)

module _ (np : ℕ) (fs : List (List ℕ)) (e : Entry) (h : entry_in np fs ≡ some e) where
  abbrev form_test : Bool
  form_test = (same (get_or fs 0 []) fix_keyword && eqb (length fs) (5 + np)) && is_name (get_or fs 4 [])

  passed : (form_test ≡ true) × (entry_with (get_or fs 4 []) (read_ints (take 3 (drop 1 fs))) (read_ints (drop 5 fs)) ≡ some e)
  passed = go form_test refl h
    where
      go : (b : Bool) → form_test ≡ b → cond b (entry_with (get_or fs 4 []) (read_ints (take 3 (drop 1 fs))) (read_ints (drop 5 fs))) none ≡ some e
          → (form_test ≡ true) × (entry_with (get_or fs 4 []) (read_ints (take 3 (drop 1 fs))) (read_ints (drop 5 fs)) ≡ some e)
      go true t w = (t, w)
      go false t w = let q : ◌≡◌ {A = ℕ} 0 1 = cc in absurd (omega arith)

  keyed : get_or fs 0 [] ≡ fix_keyword
  keyed = same_true _ _ (and_parts _ _ (and_parts _ _ passed.0).0).0

  counted : length fs ≡ 5 + np
  counted = eqb-true _ _ (and_parts (same (get_or fs 0 []) fix_keyword) _ (and_parts _ _ passed.0).0).1

  named : is_name (get_or fs 4 []) ≡ true
  named = (and_parts (same (get_or fs 0 []) fix_keyword && eqb (length fs) (5 + np)) _ passed.0).1

fielded : (np : ℕ) (fs : List (List ℕ)) (e : Entry) → entry_in np fs ≡ some e → Fielded np fs e
fielded np [] e h = let k = counted np [] e h in absurd (omega arith)
fielded np (a ∷ []) e h = let k = counted np (a ∷ []) e h in absurd (omega arith)
fielded np (a ∷ b ∷ []) e h = let k = counted np (a ∷ b ∷ []) e h in absurd (omega arith)
fielded np (a ∷ b ∷ c ∷ []) e h = let k = counted np (a ∷ b ∷ c ∷ []) e h in absurd (omega arith)
fielded np (a ∷ b ∷ c ∷ d ∷ []) e h = let k = counted np (a ∷ b ∷ c ∷ d ∷ []) e h in absurd (omega arith)
fielded np (a ∷ b ∷ c ∷ d ∷ n ∷ vs) e h =
    let fs = a ∷ b ∷ c ∷ d ∷ n ∷ vs in
    let w = entry_with_lem n (read_ints (b ∷ c ∷ d ∷ [])) (read_ints vs) e (passed np fs e h).1 in
    let zs = w.0 in
    let t = text_ints (b ∷ c ∷ d ∷ []) zs w.2 in
    let m = length_ints vs w.1 w.3 in
    let k = counted np fs e h in
    subst (Fielded np fs) w.4
    (record {
      fields = λ i. keyed np fs e h i ∷ at zs t 0 i ∷ at zs t 1 i ∷ at zs t 2 i ∷ n ∷ sym (text_ints vs w.1 w.3) i;
      name = named np fs e h;
      values = omega arith;
    })
  where
    at : (zs : List ℤ) → map int_text zs ≡ b ∷ c ∷ d ∷ [] → (k : ℕ) → get_or (b ∷ c ∷ d ∷ []) k (int_text (pos 0)) ≡ int_text (get_or zs k (pos 0))
    at zs t k = ap (λ (l : List (List ℕ)). get_or l k (int_text (pos 0))) (sym t) ∙ get_or-map int_text zs k (pos 0)

pub read_says : (np : ℕ) (line : List ℕ) (e : Entry) → read_entry np line ≡ some e → Says np line e
unfolding read_entry
read_says np line e h =
    let f = fielded np (split 9 line) e h in
    record { text = sym (join_split 9 line) ∙ ap (join 9) f.fields; name = f.name; values = f.values }
