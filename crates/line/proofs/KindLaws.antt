-- The lines are written and read again, as far as their numbers are within their limits, and read and written again.
use Prim.Native.Nat.{ℕ, ◌<◌}
use mathlib.Core.Path.{◌≡◌, refl, sym, ap, ◌∙◌}
use mathlib.Core.Bool.{Bool, true, cond, ◌&&◌}
use mathlib.Core.List.{List, [], ◌∷◌, ◌++◌, map}
use Rattle.std.specs.Prelude.{Option, None, Some, Ok, Err}
use native.Mathlib.Omega.{arith}
use lib.ListN.{length, drop}
use lib.IntN.{ℤ, pos}
use borrow.Author.Tests.{ne_eqb}
use Rattle.numbers.proofs.Bools.{and_left, and_right}
use Rattle.text.specs.Decimal.{int_text}
use Rattle.text.proofs.PartLaws.{Free}
use Rattle.text.proofs.FieldLaws.{ints_free}
use Rattle.group.specs.Numbers.{name_most}
use Rattle.group.specs.Limits.{name_fits, origin_fits, counts_fit, shape_fits, function_fits, grid_fits}
use Rattle.group.specs.Shapes.{shape_ints, ramp_of, step_of, ramp2_of}
use Rattle.group.specs.declared.Name.{Name}
use Rattle.group.specs.declared.Unit as U
use Rattle.group.specs.declared.Shape.{Shape}
use Rattle.group.specs.declared.Shape.TheVariants as S
use Rattle.group.specs.declared.Function.{Function}
use Rattle.group.specs.declared.Grid.{Grid}
use Rattle.line.specs.declared.Head.{Head}
use Rattle.line.specs.Names.{name_text, read_name, unit_text, read_unit}
use Rattle.group.specs.Refusals.{refusal}
use Rattle.line.specs.Lines.{fields, group_keyword, head_texts, paired, head_fit, head_of, head_ints, head_line, head_text, grid_keyword, grid_texts, grid_fit, grid_of, grid_ints, grid_line, grid_text, ramp_keyword, step_keyword, ramp2_keyword, no_texts, of_shape, shape_fit, shape_fields, function_fields, function_line, shape_keyword, function_text}
use Rattle.line.proofs.LineLaws.{three_of, four_of_lem, eight_of, WellFormed, fielded_free, fields_good, fields_back, fields_same, limited, Kind, Body, Parted, keyed_same, none_same, parted_kind, body_kind}
use Rattle.line.proofs.NameLaws.{fits_is_name, read_name_text, name_read, name_free, read_unit_text, unit_read, unit_free}
use Rattle.line.proofs.LimitLaws.{head_sizes, counts_sizes}

-- ---- functions

-- a kind of function: the shape that numbers make has its keyword and these numbers
pub record ShapeKind (word : List ℕ) (numbers : ℕ) (make : List ℤ → Shape) : Type 0 where
  pub keyword : (zs : List ℤ) → shape_keyword (make zs) ≡ word
  pub ints : (zs : List ℤ) → length zs ≡ numbers → shape_ints (make zs) ≡ zs

pub ramp_shape : ShapeKind ramp_keyword 4 ramp_of
ramp_shape = record { keyword = λ zs. refl; ints = four_of_lem (λ zs. shape_ints (ramp_of zs) ≡ zs) (λ a b c d. refl) }

pub step_shape : ShapeKind step_keyword 3 step_of
step_shape = record { keyword = λ zs. refl; ints = three_of (λ zs. shape_ints (step_of zs) ≡ zs) (λ a b c. refl) }

pub ramp2_shape : ShapeKind ramp2_keyword 4 ramp2_of
ramp2_shape = record { keyword = λ zs. refl; ints = four_of_lem (λ zs. shape_ints (ramp2_of zs) ≡ zs) (λ a b c d. refl) }

no_texts_lem : Unit {0} → List (List ℕ)
no_texts_lem t = []

no_part : Function → Unit {0}
no_part f = tt

abbrev function_ints : Function → List ℤ
function_ints f = shape_ints f.shape

abbrev function_parts : Function → List (List ℕ)
function_parts f = shape_keyword f.shape ∷ map int_text (function_ints f)

-- read, and written again
module _ {word : List ℕ} {numbers : ℕ} {make : List ℤ → Shape} (k : ShapeKind word numbers make) where
  function_same : (n : ℕ) (f : Function) (fs : List (List ℕ)) → shape_fields numbers make n fs ≡ Ok f → function_parts f ≡ word ∷ fs
  unfolding no_texts_lem no_part
  function_same n f fs e =
      let g = fields_good 0 numbers no_texts (shape_fit make) (of_shape make) (refusal 1 n) (refusal 2 n) fs f e in
      let w : shape_keyword f.shape ≡ word = ap (λ (h : Function). shape_keyword h.shape) (sym g.whole) ∙ k.keyword g.zs in
      let s = fields_same 0 numbers no_texts (shape_fit make) (of_shape make) no_texts_lem no_part function_ints (refusal 1 n) (refusal 2 n) (λ gs b l r. refl) (λ b zs. refl) (λ b zs l t. k.ints zs l) fs f e in
      λ i. w i ∷ s i

-- written, and read again
function_back : (n numbers : ℕ) (make : List ℤ → Shape) (s : Shape) → length (shape_ints s) ≡ numbers → make (shape_ints s) ≡ s
    → shape_fields numbers make n (map int_text (shape_ints s)) ≡ limited function_fits (refusal 2) n (record { shape = s })
unfolding no_texts_lem no_part
function_back n numbers make s l e =
    fields_back 0 numbers no_texts (shape_fit make) (of_shape make) no_texts_lem no_part function_ints (refusal 1 n) (refusal 2 n) (record { shape = s })
    (record { lead_free = λ c l. tt; lead_count = refl; lead_back = refl; ints_count = l; whole = (λ i. record { shape = e i }) })
    ∙ ap (λ (t : Shape). cond (shape_fits t) (Ok (record { shape = s })) (Err (refusal 2 n))) e

-- every function is well formed
abbrev pub FunctionFormed : ℕ → Function → Type 0
FunctionFormed n f = Unit {0}

function_parts_lem : Parted function_fields function_parts FunctionFormed (limited function_fits (refusal 2))
function_parts_lem =
    record {
      some_part = λ n f e. omega arith;
      free = λ c l n f e. (free c l f.shape, ints_free c (function_ints f) l);
      back = λ n f e. back n f.shape;
      same = same;
    }
  where
    free : (c : ℕ) → c < 45 → (s : Shape) → Free c (shape_keyword s)
    free c l (S.Ramp r) = (ne_eqb 114 c (omega arith), (ne_eqb 97 c (omega arith), (ne_eqb 109 c (omega arith), (ne_eqb 112 c (omega arith), tt))))
    free c l (S.Step s) = (ne_eqb 115 c (omega arith), (ne_eqb 116 c (omega arith), (ne_eqb 101 c (omega arith), (ne_eqb 112 c (omega arith), tt))))
    free c l (S.Ramp2 r) = (ne_eqb 114 c (omega arith), (ne_eqb 97 c (omega arith), (ne_eqb 109 c (omega arith), (ne_eqb 112 c (omega arith), (ne_eqb 50 c (omega arith), tt)))))

    back : (n : ℕ) (s : Shape) → function_fields n (shape_keyword s ∷ map int_text (shape_ints s)) ≡ limited function_fits (refusal 2) n (record { shape = s })
    back n (S.Ramp r) = function_back n 4 ramp_of (S.Ramp r) refl refl
    back n (S.Step s) = function_back n 3 step_of (S.Step s) refl refl
    back n (S.Ramp2 r) = function_back n 4 ramp2_of (S.Ramp2 r) refl refl

    same : (n : ℕ) (ps : List (List ℕ)) (f : Function) → function_fields n ps ≡ Ok f → function_parts f ≡ ps
    same n ps f =
        keyed_same f (function_parts f) ramp_keyword (shape_fields 4 ramp_of n) _ (function_same ramp_shape n f)
        (keyed_same f (function_parts f) step_keyword (shape_fields 3 step_of n) _ (function_same step_shape n f)
        (keyed_same f (function_parts f) ramp2_keyword (shape_fields 4 ramp2_of n) _ (function_same ramp2_shape n f)
        (none_same f (function_parts f) (refusal 1 n)))) ps

pub function_kind : Kind function_line function_text FunctionFormed (limited function_fits (refusal 2))
function_kind = parted_kind (limited function_fits (refusal 2)) function_fields function_parts FunctionFormed function_parts_lem

-- ---- grids

-- a grid whose name is well formed
pub record GridFormed (g : Grid) : Type 0 where
  pub name : name_fits g.name ≡ true
  pub room : length g.name.bytes ≡ name_most

grid_free : (c : ℕ) → c < 45 → Free c grid_keyword
grid_free c l = (ne_eqb 103 c (omega arith), (ne_eqb 114 c (omega arith), (ne_eqb 105 c (omega arith), (ne_eqb 100 c (omega arith), tt))))

pub grid_name_lem : (g : Grid) → grid_fits g ≡ true → name_fits g.name ≡ true
unfolding grid_fits
grid_name_lem g e = and_left (name_fits g.name) _ (and_left (name_fits g.name && origin_fits g.lon.0 g.lat.0 g.dlon g.dlat) _ e)

pub grid_numbers_lem : (g : Grid) → grid_fits g ≡ true → (origin_fits g.lon.0 g.lat.0 g.dlon g.dlat ≡ true) × (counts_fit (pos g.ni) (pos g.nj) (pos g.rank) (pos g.start) ≡ true)
unfolding grid_fits
grid_numbers_lem g e =
    let o = origin_fits g.lon.0 g.lat.0 g.dlon g.dlat in
    let c = counts_fit (pos g.ni) (pos g.nj) (pos g.rank) (pos g.start) in
    (and_right (name_fits g.name) o (and_left (name_fits g.name && o) c e), and_right (name_fits g.name && o) c e)

grid_texted : Name → List (List ℕ)
grid_texted n = name_text n ∷ []

grid_part : Grid → Name
grid_part g = g.name

grid_formed : (g : Grid) → GridFormed g → WellFormed 1 8 grid_texts grid_fit grid_of grid_texted grid_part grid_ints g
unfolding grid_texted grid_part
grid_formed g f =
    record {
      lead_free = λ c l. (name_free c (name_text g.name) l (fits_is_name g.name f.name), tt);
      lead_count = refl;
      lead_back = read_name_text g.name f.room f.name;
      ints_count = refl;
      whole = refl;
    }

-- its limits are then those of its numbers
grid_limits : (g : Grid) → name_fits g.name ≡ true → grid_fit (grid_ints g) ≡ grid_fits g
unfolding grid_fits
grid_limits g e = rw e

grid_lead : (fs : List (List ℕ)) (n : Name) → length fs ≡ 9 → grid_texts fs ≡ Some n → fs ≡ (name_text n ∷ []) ++ drop 1 fs
grid_lead [] n l e = absurd (omega arith)
grid_lead (f ∷ fs) n l e = ap (λ (g : List ℕ). g ∷ fs) (sym (name_read f n e))

grid_ints_lem : (n : Name) (zs : List ℤ) → length zs ≡ 8 → grid_fit zs ≡ true → grid_ints (grid_of n zs) ≡ zs
grid_ints_lem n =
    eight_of (λ zs. grid_fit zs ≡ true → grid_ints (grid_of n zs) ≡ zs)
    (λ a b c d e f g h t.
    let s = counts_sizes e f g h (and_right (origin_fits a b c d) (counts_fit e f g h) t) in
    λ i. a ∷ b ∷ c ∷ d ∷ s.0.1 i ∷ s.1.1 i ∷ s.2.1 i ∷ s.3.1 i ∷ [])

pub grid_body : Body (λ n. fields 1 8 grid_texts grid_fit grid_of (refusal 1 n) (refusal 2 n)) grid_keyword (λ g. name_text g.name ∷ map int_text (grid_ints g)) (λ n. GridFormed) (limited grid_fits (refusal 2))
unfolding grid_texted grid_part
grid_body =
    record {
      word_free = grid_free;
      free = λ c l n a e. fielded_free 1 8 grid_texts grid_fit grid_of grid_texted grid_part grid_ints c l a (grid_formed a e);
      back = λ n a e. fields_back 1 8 grid_texts grid_fit grid_of grid_texted grid_part grid_ints (refusal 1 n) (refusal 2 n) a (grid_formed a e) ∙ ap (λ (t : Bool). cond t (Ok a) (Err (refusal 2 n))) (grid_limits a e.name);
      same = λ n. fields_same 1 8 grid_texts grid_fit grid_of grid_texted grid_part grid_ints (refusal 1 n) (refusal 2 n) grid_lead (λ b zs. refl) grid_ints_lem;
    }

pub grid_kind : Kind grid_line grid_text (λ n. GridFormed) (limited grid_fits (refusal 2))
grid_kind = body_kind (limited grid_fits (refusal 2)) (λ n. fields 1 8 grid_texts grid_fit grid_of (refusal 1 n) (refusal 2 n)) grid_keyword (λ g. name_text g.name ∷ map int_text (grid_ints g)) (λ n. GridFormed) grid_body (refusal 1)

-- ---- group lines

-- a group line whose name is well formed
pub record HeadFormed (h : Head) : Type 0 where
  pub name : name_fits h.name ≡ true
  pub room : length h.name.bytes ≡ name_most

abbrev pub head_within : Head → Bool
head_within h = head_fit (head_ints h)

head_free : (c : ℕ) → c < 45 → Free c group_keyword
head_free c l = (ne_eqb 103 c (omega arith), (ne_eqb 114 c (omega arith), (ne_eqb 111 c (omega arith), (ne_eqb 117 c (omega arith), (ne_eqb 112 c (omega arith), tt)))))

head_texted : Name × U.Unit → List (List ℕ)
head_texted t = name_text t.0 ∷ unit_text t.1 ∷ []

head_part : Head → Name × U.Unit
head_part h = (h.name, h.unit)

head_formed : (h : Head) → HeadFormed h → WellFormed 2 4 head_texts head_fit head_of head_texted head_part head_ints h
unfolding head_texted head_part
head_formed h f =
    record {
      lead_free = λ c l. (name_free c (name_text h.name) l (fits_is_name h.name f.name), (unit_free c h.unit l, tt));
      lead_count = refl;
      lead_back = λ i. paired (read_name_text h.name f.room f.name i) (read_unit_text h.unit i);
      ints_count = refl;
      whole = refl;
    }

pub paired_both : (o : Option Name) (p : Option U.Unit) (t : Name × U.Unit) → paired o p ≡ Some t → (o ≡ Some t.0) × (p ≡ Some t.1)
paired_both None p t e = let x : ◌≡◌ {A = ℕ} 0 1 = cc in absurd (omega arith)
paired_both (Some n) None t e = let x : ◌≡◌ {A = ℕ} 0 1 = cc in absurd (omega arith)
paired_both (Some n) (Some u) t e = let q : (n, u) ≡ t = cc in (ap (λ (x : Name × U.Unit). Some x.0) q, ap (λ (x : Name × U.Unit). Some x.1) q)

head_lead : (fs : List (List ℕ)) (t : Name × U.Unit) → length fs ≡ 6 → head_texts fs ≡ Some t → fs ≡ (name_text t.0 ∷ unit_text t.1 ∷ []) ++ drop 2 fs
head_lead [] t l e = absurd (omega arith)
head_lead (f ∷ []) t l e = absurd (omega arith)
head_lead (f ∷ g ∷ fs) t l e =
    let p = paired_both (read_name f) (read_unit g) t e in
    λ i. sym (name_read f t.0 p.0) i ∷ sym (unit_read g t.1 p.1) i ∷ fs

head_ints_lem : (t : Name × U.Unit) (zs : List ℤ) → length zs ≡ 4 → head_fit zs ≡ true → head_ints (head_of t zs) ≡ zs
head_ints_lem t =
    four_of_lem (λ zs. head_fit zs ≡ true → head_ints (head_of t zs) ≡ zs)
    (λ a b c d e. let s = head_sizes a b c d e in λ i. s.0.1 i ∷ s.1.1 i ∷ s.2.1 i ∷ s.3.1 i ∷ [])

pub head_body : Body (λ n. fields 2 4 head_texts head_fit head_of (refusal 1 n) (refusal 2 n)) group_keyword (λ h. name_text h.name ∷ unit_text h.unit ∷ map int_text (head_ints h)) (λ n. HeadFormed) (limited head_within (refusal 2))
unfolding head_texted head_part
head_body =
    record {
      word_free = head_free;
      free = λ c l n a e. fielded_free 2 4 head_texts head_fit head_of head_texted head_part head_ints c l a (head_formed a e);
      back = λ n a e. fields_back 2 4 head_texts head_fit head_of head_texted head_part head_ints (refusal 1 n) (refusal 2 n) a (head_formed a e);
      same = λ n. fields_same 2 4 head_texts head_fit head_of head_texted head_part head_ints (refusal 1 n) (refusal 2 n) head_lead (λ b zs. refl) head_ints_lem;
    }

pub head_kind : Kind head_line head_text (λ n. HeadFormed) (limited head_within (refusal 2))
head_kind = body_kind (limited head_within (refusal 2)) (λ n. fields 2 4 head_texts head_fit head_of (refusal 1 n) (refusal 2 n)) group_keyword (λ h. name_text h.name ∷ unit_text h.unit ∷ map int_text (head_ints h)) (λ n. HeadFormed) head_body (refusal 1)
