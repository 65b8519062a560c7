-- How long the text of an accepted group can be: at most 6732 bytes.
use Prim.Native.Nat.{ℕ, suc, ◌+◌, ◌*◌, ◌<◌, ◌≤◌}
use mathlib.Core.Path.{◌≡◌, sym, subst}
use mathlib.Core.Bool.{true}
use mathlib.Core.List.{List, [], ◌∷◌, ◌++◌, map}
use native.Mathlib.Nat.{suc-mul}
use native.Mathlib.Omega.{arith}
use lib.ListN.{length, take, get_or, length-append, length-take}
use lib.Seq.{get_or-take}
use lib.IntN.{pos}
use Rattle.std.proofs.lemmas.List.{get_or_default}
use Rattle.text.specs.Decimal.{int_text}
use Rattle.text.proofs.PutLaws.{line_length}
use Rattle.text.proofs.DecimalLaws.{int_text_length, pos_text_length}
use Rattle.numbers.proofs.Bools.{and_parts}
use Rattle.group.specs.Numbers.{name_most}
use Rattle.group.specs.Limits.{name_fits, head_numbers_fit, head_fits, shape_fits, function_fits, grid_fits}
use Rattle.group.specs.Shapes.{shape_ints}
use Rattle.group.specs.Blank.{blank_function}
use Rattle.group.specs.Record.{no_grid, function_at, grid_at}
use Rattle.group.specs.declared.Name.{Name}
use Rattle.group.specs.declared.Unit as U
use Rattle.group.specs.declared.Unit.TheVariants.{ArcSecond, Metre}
use Rattle.group.specs.declared.Shape.{Shape}
use Rattle.group.specs.declared.Shape.TheVariants as S
use Rattle.group.specs.declared.Function.{Function}
use Rattle.group.specs.declared.Grid.{Grid}
use Rattle.group.specs.declared.Group.{Group}
use Rattle.judge.specs.Judge.{judged}
use Rattle.judge.proofs.Accepted.{accepted, accepted_head}
use Rattle.line.specs.declared.Head.{Head}
use Rattle.line.specs.Names.{name_text, unit_text}
use Rattle.header.specs.Items.{closed}
use Rattle.line.specs.Lines.{group_keyword, head_ints, head_text, ramp_keyword, step_keyword, ramp2_keyword, function_text, grid_keyword, grid_ints, grid_text}
use Rattle.header.specs.Whole.{head_of_group, header_text}
use Rattle.line.proofs.LimitLaws.{head_sizes, ramp_sizes, step_sizes, ramp2_sizes, origin_sizes, counts_sizes}
use Rattle.line.proofs.NameLaws.{name_len}
use Rattle.line.proofs.KindLaws.{grid_name_lem, grid_numbers_lem}
use Rattle.std.specs.Prelude.{Ok}

-- ---- the parts of a line

name_length : (n : Name) → name_fits n ≡ true → length (name_text n) ≤ name_most
name_length n e = let l = (name_len n e).1 in let k = length-take n.len n.bytes in omega arith

unit_length : (u : U.Unit) → length (unit_text u) ≤ 10
unit_length ArcSecond = omega arith
unit_length Metre = omega arith

-- ---- the lines, that of the group with its line feed

head_length : (h : Head) → name_fits h.name ≡ true → head_numbers_fit (pos h.quantum) (pos h.parameters) (pos h.functions) (pos h.grids) ≡ true
    → length (head_text h ++ (10 ∷ [])) ≤ 52
head_length h m e =
    let s = head_sizes (pos h.quantum) (pos h.parameters) (pos h.functions) (pos h.grids) e in
    let s₀ = s.0.0 in let s₁ = s.1.0 in let s₂ = s.2.0 in let s₃ = s.3.0 in
    let a = pos_text_length 1 h.quantum (omega arith) in
    let b = pos_text_length 0 h.parameters (omega arith) in
    let c = pos_text_length 0 h.functions (omega arith) in
    let d = pos_text_length 1 h.grids (omega arith) in
    let n = name_length h.name m in
    let u = unit_length h.unit in
    let p = length-append (head_text h) (10 ∷ []) in
    let q = line_length group_keyword (name_text h.name ∷ unit_text h.unit ∷ map int_text (head_ints h)) in
    omega arith

shape_length : (s : Shape) → shape_fits s ≡ true → length (function_text (record { shape = s })) < 43
shape_length (S.Ramp r) e =
    let s = ramp_sizes r.a r.s0 r.b r.s1 e in
    let s₀ = s.0 in let s₁ = s.1 in let s₂ = s.2 in let s₃ = s.3 in
    let a = int_text_length 6 r.a (omega arith) in
    let b = int_text_length 7 r.s0 (omega arith) in
    let c = int_text_length 6 r.b (omega arith) in
    let d = int_text_length 7 r.s1 (omega arith) in
    let q = line_length ramp_keyword (map int_text (shape_ints (S.Ramp r))) in
    omega arith
shape_length (S.Step r) e =
    let s = step_sizes r.event r.reference r.mult e in
    let s₀ = s.0 in let s₁ = s.1 in let s₂ = s.2 in
    let a = int_text_length 6 r.event (omega arith) in
    let b = int_text_length 6 r.reference (omega arith) in
    let c = int_text_length 7 r.mult (omega arith) in
    let q = line_length step_keyword (map int_text (shape_ints (S.Step r))) in
    omega arith
shape_length (S.Ramp2 r) e =
    let s = ramp2_sizes r.start r.end r.reference r.mult e in
    let s₀ = s.0 in let s₁ = s.1 in let s₂ = s.2 in let s₃ = s.3 in
    let a = int_text_length 6 r.start (omega arith) in
    let b = int_text_length 6 r.end (omega arith) in
    let c = int_text_length 6 r.reference (omega arith) in
    let d = int_text_length 7 r.mult (omega arith) in
    let q = line_length ramp2_keyword (map int_text (shape_ints (S.Ramp2 r))) in
    omega arith

function_length : (f : Function) → function_fits f ≡ true → length (function_text f) < 43
function_length f e = shape_length f.shape e

grid_length : (g : Grid) → grid_fits g ≡ true → length (grid_text g) < 99
grid_length g e =
    let l = grid_numbers_lem g e in
    let s = origin_sizes g.lon.0 g.lat.0 g.dlon g.dlat l.0 in
    let s₀ = s.0 in let s₁ = s.1 in let s₂ = s.2 in let s₃ = s.3 in
    let u = counts_sizes (pos g.ni) (pos g.nj) (pos g.rank) (pos g.start) l.1 in
    let u₀ = u.0.0 in let u₁ = u.1.0 in let u₂ = u.2.0 in let u₃ = u.3.0 in
    let a = int_text_length 9 g.lon.0 (omega arith) in
    let b = int_text_length 8 g.lat.0 (omega arith) in
    let c = int_text_length 7 g.dlon (omega arith) in
    let d = int_text_length 7 g.dlat (omega arith) in
    let a' = pos_text_length 4 g.ni (omega arith) in
    let b' = pos_text_length 4 g.nj (omega arith) in
    let c' = pos_text_length 3 g.rank (omega arith) in
    let d' = pos_text_length 7 g.start (omega arith) in
    let n = name_length g.name (grid_name_lem g e) in
    let q = line_length grid_keyword (name_text g.name ∷ map int_text (grid_ints g)) in
    omega arith

-- ---- lines that follow each other

closed_length : {A : Type 0} (text : A → List ℕ) (d : A) (m : ℕ) (xs : List A) → ((k : ℕ) → k < length xs → length (text (get_or xs k d)) < m) → length (closed text xs) ≤ length xs * m
closed_length text d m [] h = omega arith
closed_length text d m (x ∷ xs) h =
    let p = length-append (text x) (10 ∷ closed text xs) in
    let q = closed_length text d m xs (λ k l. h (suc k) (omega arith)) in
    let r = h 0 (omega arith) in
    let e : suc (length xs) * m ≡ length xs * m + m = suc-mul (length xs) m in
    omega arith

taken_length : {A : Type 0} (text : A → List ℕ) (d : A) (m n : ℕ) (xs : List A) → ((k : ℕ) → k < n → length (text (get_or xs k d)) < m) → length (closed text (take n xs)) ≤ length (take n xs) * m
taken_length text d m n xs h =
    let l = length-take n xs in
    closed_length text d m (take n xs) (λ k i. subst (λ x. length (text x) < m) (sym (get_or-take n xs k d (omega arith))) (h k (omega arith)))

-- ---- the whole text

module _ (g : Group) (e : judged g ≡ Ok tt) where
  pub head_parts : (name_fits g.name ≡ true) × (head_numbers_fit (pos g.quantum) (pos g.parameters) (pos g.functions) (pos g.grids) ≡ true)
  unfolding head_fits
  head_parts = and_parts (name_fits g.name) (head_numbers_fit (pos g.quantum) (pos g.parameters) (pos g.functions) (pos g.grids)) (accepted g e).head

  pub grids_wide : (k : ℕ) (d : Grid) → k < length g.grid → k < g.grids → (get_or g.grid k d).name.len ≤ name_most
  grids_wide k d r l =
      subst (λ (x : Grid). x.name.len ≤ name_most) (get_or_default g.grid k no_grid d r)
      (name_len (grid_at g k).name (grid_name_lem (grid_at g k) ((accepted g e).grid k l))).1

  pub length_most : length (header_text g) ≤ 6732
  unfolding header_text
  length_most =
      let h = head_length (head_of_group g) head_parts.0 head_parts.1 in
      let r = taken_length function_text blank_function 43 g.functions g.function (λ k l. function_length (function_at g k) ((accepted g e).function k l)) in
      let d = taken_length grid_text no_grid 99 g.grids g.grid (λ k l. grid_length (grid_at g k) ((accepted g e).grid k l)) in
      let m = (accepted_head g e).functions in let n = (accepted_head g e).grids in
      let x = length-take g.functions g.function in
      let y = length-take g.grids g.grid in
      let p = length-append (head_text (head_of_group g) ++ (10 ∷ [])) (closed function_text (take g.functions g.function) ++ closed grid_text (take g.grids g.grid)) in
      let q = length-append (closed function_text (take g.functions g.function)) (closed grid_text (take g.grids g.grid)) in
      omega arith
