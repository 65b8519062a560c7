-- What the code meets on a line of a log, in terms of what its callees answer.
use Prim.Native.Nat.{ℕ, ◌+◌, ◌<◌, ◌≤◌}
use mathlib.Core.Path.{◌≡◌, refl, sym, ap, ◌∙◌}
use mathlib.Core.Bool.{Bool, true, false, cond, ◌&&◌}
use mathlib.Core.List.{List, [], map}
use mathlib.Core.Option.{Option, none, some}
use native.Mathlib.Omega.{arith}
use lib.Dec.{eqb}
use lib.IntN.{ℤ}
use lib.ListN.{length, get_or, take, drop, length-drop, length-map}
use lib.Seq.{get_or-take, length-take-le, take_all}
use Rattle.text.specs.Parts.{split, field_of}
use Rattle.text.specs.Number.{clamp}
use Rattle.text.specs.Fields.{same, read_ints}
use Rattle.text.proofs.PartLaws.{field_split}
use Rattle.text.proofs.FieldLaws.{length_ints}
use Rattle.group.specs.Numbers.{name_most}
use Rattle.line.specs.Names.{is_name, name_text}
use Rattle.line.specs.Numbers.{NumbersRead}
use Rattle.abi.specs.Abi.{byte_at, name_of_words, grid_of_words}
use Rattle.abi.proofs.ListLaws.{length_list_of}
use Rattle.line.proofs.ReadLaws.{kind_counted}
use Rattle.logs.specs.Line.{fix_keyword, position_of, entry_with, read_entry}
use Rattle.logs.specs.Reading.{Said}

-- ---- the form of a line

module _ (np : ℕ) (line : List ℕ) (keyed : Bool) (e : keyed ≡ (same (field_of line 0) fix_keyword && eqb (length (split 9 line)) (5 + np))) where
  abbrev fs : List (List ℕ)
  fs = split 9 line

  -- by the keyword with the count of fields, and by the name
  opened : (n : Bool) → is_name (field_of line 4) ≡ n
      → read_entry np line ≡ cond (keyed && n) (entry_with (field_of line 4) (read_ints (take 3 (drop 1 fs))) (read_ints (drop 5 fs))) none
  unfolding read_entry
  opened n q =
      let k : (same (get_or fs 0 []) fix_keyword && eqb (length fs) (5 + np)) ≡ keyed = ap (λ (f : List ℕ). same f fix_keyword && eqb (length fs) (5 + np)) (sym (field_split line 0)) ∙ sym e in
      let m = sym (field_split line 4) in
      λ i. cond (k i && (ap is_name m ∙ q) i) (entry_with (m i) (read_ints (take 3 (drop 1 fs))) (read_ints (drop 5 fs))) none

  pub entry_miss : keyed ≡ false → read_entry np line ≡ none
  entry_miss q = opened (is_name (field_of line 4)) refl ∙ ap (λ (b : Bool). cond (b && is_name (field_of line 4)) (entry_with (field_of line 4) (read_ints (take 3 (drop 1 fs))) (read_ints (drop 5 fs))) none) q

  module _ (hit : keyed ≡ true) where
    keyed_opened : (n : Bool) → is_name (field_of line 4) ≡ n → read_entry np line ≡ cond n (entry_with (field_of line 4) (read_ints (take 3 (drop 1 fs))) (read_ints (drop 5 fs))) none
    keyed_opened n q = opened n q ∙ ap (λ (b : Bool). cond (b && n) (entry_with (field_of line 4) (read_ints (take 3 (drop 1 fs))) (read_ints (drop 5 fs))) none) hit

    pub entry_count : length fs ≡ 5 + np
    entry_count = kind_counted fix_keyword line (5 + np) keyed e hit

    pub entry_unnamed : is_name (field_of line 4) ≡ false → read_entry np line ≡ none
    entry_unnamed q = keyed_opened false q

    module _ (named : is_name (field_of line 4) ≡ true) where
      with_numbers : (o p : Option (List ℤ)) → read_ints (take 3 (drop 1 fs)) ≡ o → read_ints (take np (drop 5 fs)) ≡ p → read_entry np line ≡ entry_with (field_of line 4) o p
      with_numbers o p q r = keyed_opened true named ∙ (λ i. entry_with (field_of line 4) (q i) ((ap read_ints (sym behind) ∙ r) i))
        where
          behind : take np (drop 5 fs) ≡ drop 5 fs
          behind = let c = entry_count in let d = length-drop 5 fs in take_all np (drop 5 fs) (omega arith)

      many : (vs shifts : List ℤ) → read_ints (take np (drop 5 fs)) ≡ some vs → map clamp vs ≡ shifts → length shifts ≡ np
      many vs shifts r m =
          let c = entry_count in let d = length-drop 5 fs in
          ap length (sym m) ∙ length-map vs clamp ∙ length_ints (take np (drop 5 fs)) vs r ∙ length-take-le np (drop 5 fs) (omega arith)

      -- what reading the three numbers, and then the shifts, tells
      pub entry_unplaced : (r : Bool) (place : List ℤ) → NumbersRead (read_ints (take 3 (drop 1 fs))) r place → r ≡ false → read_entry np line ≡ none
      entry_unplaced r place n q = with_numbers none (read_ints (take np (drop 5 fs))) (n.bad q) refl

      module _ (r t : Bool) (place shifts : List ℤ) (n : NumbersRead (read_ints (take 3 (drop 1 fs))) r place) (q : r ≡ true) (m : NumbersRead (read_ints (take np (drop 5 fs))) t shifts) where
        pub entry_unvalued : t ≡ false → read_entry np line ≡ none
        entry_unvalued u = with_numbers (some (n.good q).0) none (n.good q).1 (m.bad u)

        pub entry_said : {name : List ℕ} {values : List ℤ} → t ≡ true → name ≡ field_of line 4 → (length shifts ≡ np → shifts ≡ take np values) → Said np line place name values
        entry_said {name} {values} u e s =
            let z = n.good q in let v = m.good u in
            record {
              zs = z.0;
              vs = v.0;
              entry = with_numbers (some z.0) (some v.0) z.1 v.1 ∙ ap (λ (n : List ℕ). some (record { position = position_of z.0; name = n; shifts = v.0 })) (sym e);
              placed = z.2;
              valued = v.2 ∙ s (many v.0 shifts v.1 v.2);
            }

-- ---- the name of grid k in a group's numbers, no longer than a name

module _ (ns : List ℤ) (k : ℕ) where
  name_room : length (grid_of_words ns k).name.bytes ≡ name_most
  unfolding grid_of_words name_of_words
  name_room = length_list_of _ name_most

  module _ (h : (grid_of_words ns k).name.len ≤ name_most) where
    pub grid_name_length : length (name_text (grid_of_words ns k).name) ≡ (grid_of_words ns k).name.len
    grid_name_length = let r = name_room in length-take-le (grid_of_words ns k).name.len (grid_of_words ns k).name.bytes (omega arith)

    pub grid_name_at : (i : ℕ) → i < (grid_of_words ns k).name.len → get_or (name_text (grid_of_words ns k).name) i 0 ≡ byte_at (grid_of_words ns k).name.bytes i
    grid_name_at i l = get_or-take (grid_of_words ns k).name.len (grid_of_words ns k).name.bytes i 0 l
