-- Reading and writing tell 0 exactly where they are accepted, else a number of the table of refusals.
use Prim.Native.Nat.{ℕ, zero, suc, ◌+◌}
use mathlib.Core.Path.{◌≡◌, refl}
use mathlib.Core.Bool.{Bool, true, false, cond}
use mathlib.Core.List.{List, [], ◌∷◌}
use mathlib.Core.Option as M
use lib.Dec.{eqb}
use lib.ListN.{length, drop}
use lib.IntN.{ℤ}
use Rattle.text.specs.Parts.{split}
use Rattle.text.specs.Fields.{same, read_ints}
use Rattle.group.specs.Refusals.{refusal, in_table, Told, refusal_of}
use Rattle.group.specs.Shapes.{ramp_of, step_of, ramp2_of}
use Rattle.group.proofs.RefusalLaws.{told_accepted, told_by, told_if, told_verdict, results}
use Rattle.group.specs.declared.Refusal.{Refusal}
use Rattle.group.specs.declared.Shape.{Shape}
use Rattle.group.specs.declared.Function.{Function}
use Rattle.group.specs.declared.Grid.{Grid}
use Rattle.group.specs.declared.Group.{Group}
use Rattle.judge.specs.Judge.{judged}
use Rattle.judge.proofs.TableLaws.{judged_told}
use Rattle.line.specs.declared.Head.{Head}
use Rattle.line.specs.Lines.{keyed, formed, fields, line_of, group_keyword, head_texts, head_fit, head_of, head_line, grid_keyword, grid_texts, grid_fit, grid_of, ramp_keyword, step_keyword, ramp2_keyword, no_texts, of_shape, shape_fit, shape_fields, function_line}
use Rattle.header.specs.Items.{Items, refused, items, on_line, read_items}
use Rattle.header.specs.Whole.{Header, stopped, header, ending, after_grids, after_functions_of, after_head_of, read_lines_of, grid_lines, read_lines, group_of_lines}
use Rattle.header.specs.Header.{judged_reading, read_header, written}
use Rattle.std.specs.Prelude.{Option, Some, None, Result, Ok, Err}

abbrev InTable : Refusal → Type 0
InTable r = in_table r.number ≡ true

-- ---- one line

abbrev LineIn : {A : Type 0} → Result A Refusal → Type 0
LineIn (Err r) = InTable r
LineIn (Ok a) = Unit {0}

if_in : {A : Type 0} (b : Bool) (x y : Result A Refusal) → LineIn x → LineIn y → LineIn (cond b x y)
if_in true x y p q = p
if_in false x y p q = q

module _ {B A : Type 0} (texts numbers : ℕ) (read : List (List ℕ) → Option B) (fits : List ℤ → Bool) (make : B → List ℤ → A) (form limit : Refusal) (p : InTable form) (q : InTable limit) where
  formed_in : (o : Option B) (zs : M.Option (List ℤ)) → LineIn (formed texts numbers read fits make form limit o zs)
  formed_in None zs = p
  formed_in (Some b) M.none = p
  formed_in (Some b) (M.some zs) = if_in (fits zs) (Ok (make b zs)) (Err limit) tt q

  fields_in : (fs : List (List ℕ)) → LineIn (fields texts numbers read fits make form limit fs)
  fields_in fs =
      if_in (eqb (length fs) (texts + numbers)) (formed texts numbers read fits make form limit (read fs) (read_ints (drop texts fs))) (Err form)
      (formed_in (read fs) (read_ints (drop texts fs))) p

keyed_in : {A : Type 0} (word : List ℕ) (these others : List (List ℕ) → Result A Refusal)
    → ((fs : List (List ℕ)) → LineIn (these fs)) → ((ps : List (List ℕ)) → LineIn (others ps)) → (ps : List (List ℕ)) → LineIn (keyed word these others ps)
keyed_in word these others p q [] = q []
keyed_in word these others p q (k ∷ fs) = if_in (same k word) (these fs) (others (k ∷ fs)) (p fs) (q (k ∷ fs))

line_in : {B A : Type 0} (texts numbers : ℕ) (read : List (List ℕ) → Option B) (fits : List ℤ → Bool) (make : B → List ℤ → A) (word : List ℕ) (n : ℕ) (l : List ℕ)
    → LineIn (line_of texts numbers read fits make (refusal 1 n) (refusal 2 n) word l)
line_in texts numbers read fits make word n l =
    keyed_in word (fields texts numbers read fits make (refusal 1 n) (refusal 2 n)) (λ fs. Err (refusal 1 n))
    (fields_in texts numbers read fits make (refusal 1 n) (refusal 2 n) refl refl) (λ ps. refl) (split 9 l)

kinds_in : (n : ℕ) (l : List ℕ) → LineIn (function_line n l)
kinds_in n l =
    keyed_in ramp_keyword (shape_fields 4 ramp_of n) (keyed step_keyword (shape_fields 3 step_of n) (keyed ramp2_keyword (shape_fields 4 ramp2_of n) none_of)) (shape_in 4 ramp_of)
    (keyed_in step_keyword (shape_fields 3 step_of n) (keyed ramp2_keyword (shape_fields 4 ramp2_of n) none_of) (shape_in 3 step_of)
    (keyed_in ramp2_keyword (shape_fields 4 ramp2_of n) none_of (shape_in 4 ramp2_of)
    (λ ps. refl))) (split 9 l)
  where
    none_of : List (List ℕ) → Result Function Refusal
    none_of fs = Err (refusal 1 n)

    shape_in : (numbers : ℕ) (make : List ℤ → Shape) (fs : List (List ℕ)) → LineIn (shape_fields numbers make n fs)
    shape_in numbers make = fields_in 0 numbers no_texts (shape_fit make) (of_shape make) (refusal 1 n) (refusal 2 n) refl refl

-- ---- several lines

abbrev ItemsIn : {A : Type 0} → Items A → Type 0
ItemsIn (refused r) = InTable r
ItemsIn (items xs ls) = Unit {0}

module _ {A : Type 0} (read : ℕ → List ℕ → Result A Refusal) (read-in : (n : ℕ) (l : List ℕ) → LineIn (read n l)) where
  on_line_in : (x : Result A Refusal) (is : Items A) → LineIn x → ItemsIn is → ItemsIn (on_line x is)
  on_line_in (Err r) is p q = p
  on_line_in (Ok a) (refused r) p q = q
  on_line_in (Ok a) (items xs ls) p q = tt

  items_in : (k n : ℕ) (ls : List (List ℕ)) → ItemsIn (read_items read k n ls)
  items_in zero n ls = tt
  items_in (suc k) n [] = refl
  items_in (suc k) n (l ∷ []) = refl
  items_in (suc k) n (l ∷ m ∷ ls) = on_line_in (read n l) (read_items read k (suc n) (m ∷ ls)) (read-in n l) (items_in k (suc n) (m ∷ ls))

-- ---- a whole header, over any two kinds of line

abbrev HeaderIn : {R D : Type 0} → Header R D → Type 0
HeaderIn (stopped r) = InTable r
HeaderIn (header h rs ds) = Unit {0}

module _ {R D : Type 0} (function : ℕ → List ℕ → Result R Refusal) (grid : Head → List (List ℕ) → ℕ → List ℕ → Result D Refusal)
    (function-in : (n : ℕ) (l : List ℕ) → LineIn (function n l)) (grid-in : (h : Head) (ls : List (List ℕ)) (n : ℕ) (l : List ℕ) → LineIn (grid h ls n l)) where
  ending_in : (n : ℕ) (ls : List (List ℕ)) (x : Header R D) → HeaderIn x → HeaderIn (ending n ls x)
  ending_in n [] x p = refl
  ending_in n ([] ∷ []) x p = p
  ending_in n ([] ∷ l ∷ ls) x p = refl
  ending_in n ((y ∷ ys) ∷ ls) x p = refl

  after_grids_lem : (n : ℕ) (h : Head) (rs : List R) (is : Items D) → ItemsIn is → HeaderIn (after_grids n h rs is)
  after_grids_lem n h rs (refused r) p = p
  after_grids_lem n h rs (items ds ls) p = ending_in n ls (header h rs ds) tt

  after_functions : (h : Head) (is : Items R) → ItemsIn is → HeaderIn (after_functions_of function grid h is)
  after_functions h (refused r) p = p
  after_functions h (items rs ls) p =
      after_grids_lem (2 + h.functions + h.grids) h rs (read_items (grid h ls) h.grids (2 + h.functions) ls) (items_in (grid h ls) (grid-in h ls) h.grids (2 + h.functions) ls)

  after_head : (is : Items Head) → ItemsIn is → HeaderIn (after_head_of function grid is)
  after_head (refused r) p = p
  after_head (items [] ls) p = refl
  after_head (items (h ∷ hs) ls) p = after_functions h (read_items function h.functions 2 ls) (items_in function function-in h.functions 2 ls)

  lines_in : (t : List ℕ) → HeaderIn (read_lines_of function grid t)
  lines_in t = after_head (read_items head_line 1 1 (split 10 t)) (items_in head_line (line_in 2 4 head_texts head_fit head_of group_keyword) 1 1 (split 10 t))

-- ---- reading and writing

pub read_told : (t : List ℕ) → Told ((g : Group) × (read_header t ≡ Ok g)) (refusal_of (read_header t))
unfolding read_header
read_told t =
    in_lines (read_lines t)
    (lines_in function_line grid_lines kinds_in (λ h ls. line_in 1 8 grid_texts grid_fit grid_of grid_keyword) t)
  where
    in_lines : (x : Header Function Grid) → HeaderIn x → Told ((g : Group) × (judged_reading x ≡ Ok g)) (refusal_of (judged_reading x))
    in_lines (stopped r) p = told_by results r p
    in_lines (header h rs ds) p = told_verdict results (judged (group_of_lines h rs ds)) (judged_told (group_of_lines h rs ds)) (told_accepted (_, refl))

pub written_told : (g : Group) (room : ℕ) → Told ((n : ℕ) × (written g room ≡ Ok n)) (refusal_of (written g room))
unfolding written
written_told g room = told_verdict results (judged g) (judged_told g) (told_if results _ 12 0 refl (told_accepted (_, refl)))
