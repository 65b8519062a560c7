-- Laws of a line of any kind: what the code meets on it, and both round trips.
use Prim.Native.Nat.{ℕ, suc, ◌+◌, ◌<◌}
use mathlib.Core.Path.{◌≡◌, refl, sym, ap, ◌∙◌}
use mathlib.Core.Bool.{Bool, true, false, cond}
use mathlib.Core.List.{List, [], ◌∷◌, ◌++◌, map}
use mathlib.Core.Logic.{◌⊎◌, inl, inr, ⊎_elim}
use mathlib.Core.Option as M
use native.Mathlib.Omega.{arith}
use lib.Dec.{eqb}
use lib.ListN.{length, get_or, take, drop, length-append, length-drop}
use lib.Seq.{drop_at, drop-drop, take_all}
use lib.IntN.{ℤ, pos, negsuc, nat_abs}
use borrow.Author.Tests.{eq-eqb, ne_eqb, eqb-true}
use Rattle.text.specs.Parts.{split, join}
use Rattle.text.specs.Decimal.{int_text}
use Rattle.text.specs.Number.{number_most, clamp}
use Rattle.text.specs.Fields.{same, read_ints}
use Rattle.std.specs.Prelude.{Option, Some, None, Result, Ok, Err}
use Rattle.text.proofs.PartLaws.{Free, AllFree, join_split, split_join, Free-join, first_part}
use Rattle.text.proofs.FieldLaws.{same_refl, same_true, ints_text, text_ints, length_ints, ints_free, clamp_id}
use Rattle.line.specs.Lines.{keyed, with_limits, formed, fields}
use Rattle.line.specs.Numbers.{as_read}

-- ---- numbers that the code tells apart

abbrev pub Small : List ℤ → Type 0
Small [] = Unit {0}
Small (z ∷ zs) = (nat_abs z < number_most) × Small zs

pub small_clamp : (zs : List ℤ) → Small zs → map clamp zs ≡ zs
small_clamp [] s = refl
small_clamp (z ∷ zs) s = let h = s.0 in λ i. clamp_id z (omega arith) i ∷ small_clamp zs s.1 i

pub unclamped : (z : ℤ) → nat_abs (clamp z) < number_most → clamp z ≡ z
unclamped (pos n) h = ap pos (omega arith)
unclamped (negsuc n) h = ap negsuc (omega arith)

clamp_small : (zs : List ℤ) → Small (map clamp zs) → map clamp zs ≡ zs
clamp_small [] s = refl
clamp_small (z ∷ zs) s = λ i. unclamped z s.0 i ∷ clamp_small zs s.1 i

length_map : {A B : Type 0} (f : A → B) (xs : List A) → length (map f xs) ≡ length xs
length_map f [] = refl
length_map f (x ∷ xs) = ap suc (length_map f xs)

-- a list of so many
one_of : {A : Type 0} (P : List A → Type 0) → ((a : A) → P (a ∷ [])) → (zs : List A) → length zs ≡ 1 → P zs
one_of P f [] h = absurd (omega arith)
one_of P f (a ∷ []) h = f a
one_of P f (a ∷ b ∷ zs) h = absurd (omega arith)

two_of : {A : Type 0} (P : List A → Type 0) → ((a b : A) → P (a ∷ b ∷ [])) → (zs : List A) → length zs ≡ 2 → P zs
two_of P f [] h = absurd (omega arith)
two_of P f (a ∷ zs) h = one_of (λ ys. P (a ∷ ys)) (f a) zs (omega arith)

pub three_of : {A : Type 0} (P : List A → Type 0) → ((a b c : A) → P (a ∷ b ∷ c ∷ [])) → (zs : List A) → length zs ≡ 3 → P zs
three_of P f [] h = absurd (omega arith)
three_of P f (a ∷ zs) h = two_of (λ ys. P (a ∷ ys)) (f a) zs (omega arith)

pub four_of_lem : {A : Type 0} (P : List A → Type 0) → ((a b c d : A) → P (a ∷ b ∷ c ∷ d ∷ [])) → (zs : List A) → length zs ≡ 4 → P zs
four_of_lem P f [] h = absurd (omega arith)
four_of_lem P f (a ∷ zs) h = three_of (λ ys. P (a ∷ ys)) (f a) zs (omega arith)

pub eight_of : {A : Type 0} (P : List A → Type 0) → ((a b c d e f g h : A) → P (a ∷ b ∷ c ∷ d ∷ e ∷ f ∷ g ∷ h ∷ [])) → (zs : List A) → length zs ≡ 8 → P zs
eight_of P f (a ∷ b ∷ c ∷ d ∷ zs) h = four_of_lem (λ ys. P (a ∷ b ∷ c ∷ d ∷ ys)) (f a b c d) zs (omega arith)
eight_of P f [] h = absurd (omega arith)
eight_of P f (a ∷ []) h = absurd (omega arith)
eight_of P f (a ∷ b ∷ []) h = absurd (omega arith)
eight_of P f (a ∷ b ∷ c ∷ []) h = absurd (omega arith)

all_append : (c : ℕ) (ps qs : List (List ℕ)) → AllFree c ps → AllFree c qs → AllFree c (ps ++ qs)
all_append c [] qs f g = g
all_append c (p ∷ ps) qs f g = (f.0, all_append c ps qs f.1 g)

-- what the reading of numbers tells
pub numbers_none : (o : M.Option (List ℤ)) → as_read o ≡ None → o ≡ M.none
numbers_none M.none e = refl
numbers_none (M.some zs) e = cc

pub numbers_some : (o : M.Option (List ℤ)) (ys : List ℤ) → as_read o ≡ Some ys → (zs : List ℤ) × (o ≡ M.some zs) × (map clamp zs ≡ ys)
numbers_some M.none ys e = cc
numbers_some (M.some zs) ys e = (zs, refl, (cc))

-- ---- a keyword

module _ {E A : Type 0} (word : List ℕ) (these others : List (List ℕ) → Result A E) where
  pub keyed_miss : (ps : List (List ℕ)) → same (get_or ps 0 []) word ≡ false → keyed word these others ps ≡ others ps
  keyed_miss [] e = refl
  keyed_miss (k ∷ fs) e = rw e

  pub keyed_hit : (line : List ℕ) → same (get_or (split 9 line) 0 []) word ≡ true → keyed word these others (split 9 line) ≡ these (drop 1 (split 9 line))
  keyed_hit line e = let p = first_part 9 line in go (split 9 line) p.0 p.1.0 p.1.1 e
    where
      go : (ps : List (List ℕ)) (q : List ℕ) (qs : List (List ℕ)) → ps ≡ q ∷ qs → same (get_or ps 0 []) word ≡ true → keyed word these others ps ≡ these (drop 1 ps)
      go [] q qs f e = let z : ◌≡◌ {A = ℕ} 0 1 = cc in absurd (omega arith)
      go (k ∷ fs) q qs f e = rw e

  -- what a line of these fields or the others is: by its keyword
  pub keyed_good : (ps : List (List ℕ)) (a : A) → keyed word these others ps ≡ Ok a → ((fs : List (List ℕ)) × (ps ≡ word ∷ fs) × (these fs ≡ Ok a)) ⊎ (others ps ≡ Ok a)
  keyed_good [] a e = inr e
  keyed_good (k ∷ fs) a e = go (same k word) refl e
    where
      go : (t : Bool) → same k word ≡ t → cond t (these fs) (others (k ∷ fs)) ≡ Ok a → ((gs : List (List ℕ)) × (k ∷ fs ≡ word ∷ gs) × (these gs ≡ Ok a)) ⊎ (others (k ∷ fs) ≡ Ok a)
      go true p q = inl (fs, ap (λ (w : List ℕ). w ∷ fs) (same_true k word p), q)
      go false p q = inr q

-- ---- the fields of a kind

module _ {B A : Type 0} (texts numbers : ℕ) (read : List (List ℕ) → Option B) (fits : List ℤ → Bool) (make : B → List ℤ → A) where
  -- ---- what fields that are read hold

  pub record Good (fs : List (List ℕ)) (a : A) : Type 0 where
    pub b : B
    pub zs : List ℤ
    pub count : length fs ≡ texts + numbers
    pub texted : read fs ≡ Some b
    pub numbered : read_ints (drop texts fs) ≡ M.some zs
    pub fit : fits zs ≡ true
    pub whole : make b zs ≡ a

  module _ {E : Type 0} (form limit : E) where
    abbrev of : List (List ℕ) → Result A E
    of = fields texts numbers read fits make form limit

    abbrev form_of : Option B → M.Option (List ℤ) → Result A E
    form_of = formed texts numbers read fits make form limit

    abbrev made : B → List ℤ → Result A E
    made = with_limits texts numbers read fits make form limit

    unnumbered : (o : Option B) → form_of o M.none ≡ Err form
    unnumbered None = refl
    unnumbered (Some b) = refl

    -- numbers beyond those that the code tells apart are judged as these
    pub clamped : ((zs : List ℤ) → length zs ≡ numbers → fits zs ≡ true → Small zs) → (b : B) (zs : List ℤ) → length zs ≡ numbers → made b (map clamp zs) ≡ made b zs
    clamped small b zs l = go (fits zs) (fits (map clamp zs)) refl refl
      where
        go : (p q : Bool) → fits zs ≡ p → fits (map clamp zs) ≡ q → made b (map clamp zs) ≡ made b zs
        go true q u v = ap (made b) (small_clamp zs (small zs l u))
        go false true u v = ap (made b) (clamp_small zs (small (map clamp zs) (length_map clamp zs ∙ l) v))
        go false false u v = rw (u, v)

    -- ---- what the code meets on a line whose parts are ps

    pub fields_count : (line : List ℕ) → (length (split 9 line) ≡ suc (texts + numbers) → ⊥) → of (drop 1 (split 9 line)) ≡ Err form
    fields_count line h = let p = first_part 9 line in go (split 9 line) p.0 p.1.0 p.1.1 h
      where
        go : (ps : List (List ℕ)) (q : List ℕ) (qs : List (List ℕ)) → ps ≡ q ∷ qs → (length ps ≡ suc (texts + numbers) → ⊥) → of (drop 1 ps) ≡ Err form
        go [] q qs f h = let z : ◌≡◌ {A = ℕ} 0 1 = cc in absurd (omega arith)
        go (k ∷ fs) q qs f h = rw (ne_eqb (length fs) (texts + numbers) (λ e. h (ap suc e)))

    module _ (ps : List (List ℕ)) (counted : length ps ≡ suc (texts + numbers)) where
      opened : of (drop 1 ps) ≡ form_of (read (drop 1 ps)) (read_ints (drop (suc texts) ps))
      opened =
          let d = length-drop 1 ps in
          ap (λ (t : Bool). cond t (form_of (read (drop 1 ps)) (read_ints (drop texts (drop 1 ps)))) (Err form)) (eq-eqb (length (drop 1 ps)) (texts + numbers) (omega arith))
          ∙ ap (λ (fs : List (List ℕ)). form_of (read (drop 1 ps)) (read_ints fs)) (drop-drop texts 1 ps ∙ ap (λ (k : ℕ). drop k ps) one)
        where
          one : 1 + texts ≡ suc texts
          one = omega arith

      pub fields_text : read (drop 1 ps) ≡ None → of (drop 1 ps) ≡ Err form
      fields_text r = opened ∙ ap (λ (o : Option B). form_of o (read_ints (drop (suc texts) ps))) r

      module _ (o : Option (List ℤ)) (told : o ≡ as_read (read_ints (take numbers (drop (suc texts) ps)))) where
        all_told : o ≡ as_read (read_ints (drop (suc texts) ps))
        all_told =
            let d = length-drop (suc texts) ps in
            told ∙ ap (λ (fs : List (List ℕ)). as_read (read_ints fs)) (take_all numbers (drop (suc texts) ps) (omega arith))

        -- a field that is no number
        pub fields_unread : o ≡ None → of (drop 1 ps) ≡ Err form
        fields_unread e = opened ∙ ap (form_of (read (drop 1 ps))) (numbers_none _ (sym all_told ∙ e)) ∙ unnumbered (read (drop 1 ps))

        -- all fields are read
        pub fields_read : ((zs : List ℤ) → length zs ≡ numbers → fits zs ≡ true → Small zs)
            → (b : B) (ys : List ℤ) → read (drop 1 ps) ≡ Some b → o ≡ Some ys → of (drop 1 ps) ≡ made b ys
        fields_read small b ys r e =
            let x = numbers_some _ ys (sym all_told ∙ e) in
            let l = length_ints (drop (suc texts) ps) x.0 x.1 in
            let d = length-drop (suc texts) ps in
            opened ∙ ap (λ (o : Option B). form_of o (read_ints (drop (suc texts) ps))) r
            ∙ ap (form_of (Some b)) x.1 ∙ sym (clamped small b x.0 (omega arith)) ∙ ap (made b) x.2

    pub fields_good : (fs : List (List ℕ)) (a : A) → of fs ≡ Ok a → Good fs a
    fields_good fs a e = in_count (eqb (length fs) (texts + numbers)) refl e
      where
        in_judged : (b : B) (zs : List ℤ) (t : Bool) → length fs ≡ texts + numbers → read fs ≡ Some b → read_ints (drop texts fs) ≡ M.some zs
            → fits zs ≡ t → cond t (Ok (make b zs)) (Err limit) ≡ Ok a → Good fs a
        in_judged b zs false l r i w q = let x : ◌≡◌ {A = ℕ} 0 1 = cc in absurd (omega arith)
        in_judged b zs true l r i w q = record { b = b; zs = zs; count = l; texted = r; numbered = i; fit = w; whole = (let m : make b zs ≡ a = cc in m) }

        in_formed : (o : Option B) (u : M.Option (List ℤ)) → length fs ≡ texts + numbers → read fs ≡ o → read_ints (drop texts fs) ≡ u → form_of o u ≡ Ok a → Good fs a
        in_formed None u l r i q = let x : ◌≡◌ {A = ℕ} 0 1 = cc in absurd (omega arith)
        in_formed (Some b) M.none l r i q = let x : ◌≡◌ {A = ℕ} 0 1 = cc in absurd (omega arith)
        in_formed (Some b) (M.some zs) l r i q = in_judged b zs (fits zs) l r i refl q

        in_count : (t : Bool) → eqb (length fs) (texts + numbers) ≡ t → cond t (form_of (read fs) (read_ints (drop texts fs))) (Err form) ≡ Ok a → Good fs a
        in_count false p q = let x : ◌≡◌ {A = ℕ} 0 1 = cc in absurd (omega arith)
        in_count true p q = in_formed (read fs) (read_ints (drop texts fs)) (eqb-true (length fs) (texts + numbers) p) refl refl q

  -- ---- both round trips, of a kind whose texts and numbers come back
  module _ (texted : B → List (List ℕ)) (part : A → B) (ints : A → List ℤ) where
    abbrev pub fielded : A → List (List ℕ)
    fielded a = texted (part a) ++ map int_text (ints a)

    -- a record whose texts are well formed; its numbers may be any
    pub record WellFormed (a : A) : Type 0 where
      pub lead_free : (c : ℕ) → c < 45 → AllFree c (texted (part a))
      pub lead_count : length (texted (part a)) ≡ texts
      pub lead_back : read (texted (part a) ++ map int_text (ints a)) ≡ Some (part a)
      pub ints_count : length (ints a) ≡ numbers
      pub whole : make (part a) (ints a) ≡ a

    pub fielded_free : (c : ℕ) → c < 45 → (a : A) → WellFormed a → AllFree c (fielded a)
    fielded_free c l a f = all_append c (texted (part a)) (map int_text (ints a)) (f.lead_free c l) (ints_free c (ints a) l)

    module _ {E : Type 0} (form limit : E) where
      abbrev of' : List (List ℕ) → Result A E
      of' = fields texts numbers read fits make form limit

      abbrev form_of' : Option B → M.Option (List ℤ) → Result A E
      form_of' = formed texts numbers read fits make form limit

      -- written, and read again: the record where its numbers are within their limits
      pub fields_back : (a : A) → WellFormed a → of' (fielded a) ≡ cond (fits (ints a)) (Ok a) (Err limit)
      fields_back a f =
          let fs = fielded a in
          let c : length fs ≡ texts + numbers = length-append (texted (part a)) (map int_text (ints a)) ∙ (λ i. f.lead_count i + (length_map int_text (ints a) ∙ f.ints_count) i) in
          ap (λ (t : Bool). cond t (form_of' (read fs) (read_ints (drop texts fs))) (Err form)) (eq-eqb (length fs) (texts + numbers) c)
          ∙ ap (λ (o : Option B). form_of' o (read_ints (drop texts fs))) f.lead_back
          ∙ ap (λ (gs : List (List ℕ)). form_of' (Some (part a)) (read_ints gs)) (drop_at (texted (part a)) (map int_text (ints a)) texts f.lead_count)
          ∙ ap (form_of' (Some (part a))) (ints_text (ints a))
          ∙ ap (λ (x : A). cond (fits (ints a)) (Ok x) (Err limit)) f.whole

      -- read, and written again
      module _ (lead-read : (fs : List (List ℕ)) (b : B) → length fs ≡ texts + numbers → read fs ≡ Some b → fs ≡ texted b ++ drop texts fs)
          (part-made : (b : B) (zs : List ℤ) → part (make b zs) ≡ b)
          (ints-made : (b : B) (zs : List ℤ) → length zs ≡ numbers → fits zs ≡ true → ints (make b zs) ≡ zs) where
        pub fields_same : (fs : List (List ℕ)) (a : A) → of' fs ≡ Ok a → fielded a ≡ fs
        fields_same fs a e =
            let g = fields_good form limit fs a e in
            let k : length g.zs ≡ numbers = length_ints (drop texts fs) g.zs g.numbered ∙ length-drop texts fs ∙ (let c = g.count in omega arith) in
            ap fielded (sym g.whole)
            ∙ (λ j. texted (part-made g.b g.zs j) ++ map int_text (ints-made g.b g.zs k g.fit j))
            ∙ ap (λ (gs : List (List ℕ)). texted g.b ++ gs) (text_ints (drop texts fs) g.zs g.numbered)
            ∙ sym (lead-read fs g.b g.count g.texted)

-- ---- kinds of line. P n a says that the record a may be written as line n, and `answer n a` is what that line is read as

-- the record where it is within its limits, else the fault
abbrev pub limited : {E A : Type 0} → (A → Bool) → (ℕ → E) → ℕ → A → Result A E
limited fits limit n a = cond (fits a) (Ok a) (Err (limit n))

-- what is asked of a kind of line
pub record Kind {E A : Type 0} (read : ℕ → List ℕ → Result A E) (text : A → List ℕ) (P : ℕ → A → Type 0) (answer : ℕ → A → Result A E) : Type 0 where
  pub free : (n : ℕ) (a : A) → P n a → Free 10 (text a)
  pub back : (n : ℕ) (a : A) → P n a → read n (text a) ≡ answer n a
  pub same : (n : ℕ) (l : List ℕ) (a : A) → read n l ≡ Ok a → text a ≡ l

-- what is asked of the fields behind a keyword
pub record Body {E A : Type 0} (these : ℕ → List (List ℕ) → Result A E) (word : List ℕ) (fielded : A → List (List ℕ)) (P : ℕ → A → Type 0) (answer : ℕ → A → Result A E) : Type 0 where
  pub word_free : (c : ℕ) → c < 45 → Free c word
  pub free : (c : ℕ) → c < 45 → (n : ℕ) (a : A) → P n a → AllFree c (fielded a)
  pub back : (n : ℕ) (a : A) → P n a → these n (fielded a) ≡ answer n a
  pub same : (n : ℕ) (fs : List (List ℕ)) (a : A) → these n fs ≡ Ok a → fielded a ≡ fs

-- what is asked of all the parts of a line, its keyword among them
pub record Parted {E A : Type 0} (read : ℕ → List (List ℕ) → Result A E) (parts : A → List (List ℕ)) (P : ℕ → A → Type 0) (answer : ℕ → A → Result A E) : Type 0 where
  pub some_part : (n : ℕ) (a : A) → P n a → 0 < length (parts a)
  pub free : (c : ℕ) → c < 45 → (n : ℕ) (a : A) → P n a → AllFree c (parts a)
  pub back : (n : ℕ) (a : A) → P n a → read n (parts a) ≡ answer n a
  pub same : (n : ℕ) (ps : List (List ℕ)) (a : A) → read n ps ≡ Ok a → parts a ≡ ps

-- parts that are read are those written: of one kind, or else of the others
pub keyed_same : {E A : Type 0} (a : A) (parts : List (List ℕ)) (word : List ℕ) (these others : List (List ℕ) → Result A E)
    → ((fs : List (List ℕ)) → these fs ≡ Ok a → parts ≡ word ∷ fs) → ((ps : List (List ℕ)) → others ps ≡ Ok a → parts ≡ ps)
    → (ps : List (List ℕ)) → keyed word these others ps ≡ Ok a → parts ≡ ps
keyed_same a parts word these others k o ps e = ⊎_elim (λ w. k w.0 w.2 ∙ sym w.1) (λ w. o ps w) (keyed_good word these others ps a e)

pub none_same : {E A : Type 0} (a : A) (parts : List (List ℕ)) (form : E) (ps : List (List ℕ)) → Err form ≡ Ok a → parts ≡ ps
none_same a parts form ps e = let z : ◌≡◌ {A = ℕ} 0 1 = cc in absurd (omega arith)

module _ {E A : Type 0} where
  -- the parts with tabs between them
  pub parted_kind : (answer : ℕ → A → Result A E) (read : ℕ → List (List ℕ) → Result A E) (parts : A → List (List ℕ)) (P : ℕ → A → Type 0) → Parted read parts P answer
      → Kind (λ n l. read n (split 9 l)) (λ a. join 9 (parts a)) P answer
  parted_kind answer read parts P k =
      record {
        free = λ n a p. Free-join 10 9 (parts a) refl (k.free 10 (omega arith) n a p);
        back = λ n a p. ap (read n) (parted (parts a) (k.some_part n a p) (k.free 9 (omega arith) n a p)) ∙ k.back n a p;
        same = λ n l a e. ap (join 9) (k.same n (split 9 l) a e) ∙ join_split 9 l;
      }
    where
      parted : (ps : List (List ℕ)) → 0 < length ps → AllFree 9 ps → split 9 (join 9 ps) ≡ ps
      parted [] l f = absurd (omega arith)
      parted (w ∷ fs) l f = split_join 9 w fs f.0 f.1

  -- a kind alone
  pub body_kind : (answer : ℕ → A → Result A E) (these : ℕ → List (List ℕ) → Result A E) (word : List ℕ) (fielded : A → List (List ℕ)) (P : ℕ → A → Type 0) → Body these word fielded P answer
      → (form : ℕ → E) → Kind (λ n l. keyed word (these n) (λ fs. Err (form n)) (split 9 l)) (λ a. join 9 (word ∷ fielded a)) P answer
  body_kind answer these word fielded P k form =
      parted_kind answer (λ n. keyed word (these n) (λ fs. Err (form n))) (λ a. word ∷ fielded a) P
      (record {
        some_part = λ n a p. omega arith;
        free = λ c l n a p. (k.word_free c l, k.free c l n a p);
        back = λ n a p. ap (λ (b : Bool). cond b (these n (fielded a)) (Err (form n))) (same_refl word) ∙ k.back n a p;
        same = λ n ps a. keyed_same a (word ∷ fielded a) word (these n) (λ fs. Err (form n)) (λ fs e. ap (λ (gs : List (List ℕ)). word ∷ gs) (k.same n fs a e)) (none_same a (word ∷ fielded a) (form n)) ps;
      })
