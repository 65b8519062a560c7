-- The record of a line that is read has a name of 24 bytes, and counts of functions and grids within the two arrays.
use Prim.Native.Nat.{ℕ, ◌-◌, ◌≤◌}
use mathlib.Core.Path.{◌≡◌, refl, sym, ap, ◌∙◌, subst}
use mathlib.Core.Bool.{Bool, true, false, cond}
use mathlib.Core.List.{List, []}
use mathlib.Core.Logic.{⊎_elim}
use Rattle.std.specs.Prelude.{Option, None, Some, Ok, Err}
use native.Mathlib.Omega.{arith}
use lib.ListN.{length, get_or, replicate, length-append, length-replicate}
use lib.IntN.{ℤ}
use Rattle.text.specs.Parts.{split}
use Rattle.group.specs.declared.Name.{Name}
use Rattle.group.specs.declared.Grid.{Grid}
use Rattle.group.specs.Refusals.{refusal}
use Rattle.group.specs.Shapes.{int_at}
use Rattle.line.specs.declared.Head.{Head}
use Rattle.line.specs.Names.{is_name, name_of, read_name, read_unit}
use Rattle.line.specs.Lines.{fields, line_of, group_keyword, head_texts, head_fit, head_of, head_line, grid_keyword, grid_texts, grid_fit, grid_of, grid_line}
use Rattle.line.proofs.LineLaws.{keyed_good, Good, fields_good}
use Rattle.line.proofs.NameLaws.{name_length}
use Rattle.line.proofs.KindLaws.{paired_both}
use Rattle.line.proofs.LimitLaws.{head_sizes}

name_room : (f : List ℕ) (n : Name) → read_name f ≡ Some n → length n.bytes ≡ 24
name_room f n e = go (is_name f) refl e
  where
    go : (b : Bool) → is_name f ≡ b → cond b (Some (name_of f)) None ≡ Some n → length n.bytes ≡ 24
    go true p q =
        let m : name_of f ≡ n = cc in
        let l = name_length f p in
        let r = length-replicate {A = ℕ} (24 - length f) 0 in
        ap (λ (x : Name). length x.bytes) (sym m) ∙ length-append f (replicate (24 - length f) 0) ∙ omega arith
    go false p q = let x : ◌≡◌ {A = ℕ} 0 1 = cc in absurd (omega arith)

-- the fields of a line that is read
module _ {B A E : Type 0} (texts numbers : ℕ) (read : List (List ℕ) → Option B) (fits : List ℤ → Bool) (make : B → List ℤ → A) (form limit : E)
  where
    line_good : (word line : List ℕ) (a : A) → line_of texts numbers read fits make form limit word line ≡ Ok a
        → (fs : List (List ℕ)) × Good texts numbers read fits make fs a
    line_good word line a e =
        ⊎_elim (λ h. (h.0, fields_good texts numbers read fits make form limit h.0 a h.2))
        (λ h. let x : ◌≡◌ {A = ℕ} 0 1 = cc in absurd (omega arith))
        (keyed_good word (fields texts numbers read fits make form limit) (λ fs. Err form) (split 9 line) a e)

pub record HeadRoom (h : Head) : Type 0 where
  pub name : length h.name.bytes ≡ 24
  pub functions : h.functions ≤ 8
  pub grids : h.grids ≤ 64

pub head_room : (n : ℕ) (l : List ℕ) (h : Head) → head_line n l ≡ Ok h → HeadRoom h
head_room n l h e =
    let w = line_good 2 4 head_texts head_fit head_of (refusal 1 n) (refusal 2 n) group_keyword l h e in
    let fs = w.0 in let g = w.1 in let zs = g.zs in
    let s = head_sizes (int_at zs 0) (int_at zs 1) (int_at zs 2) (int_at zs 3) g.fit in
    let t = paired_both (read_name (get_or fs 0 [])) (read_unit (get_or fs 1 [])) g.b g.texted in
    subst HeadRoom g.whole (record { name = name_room (get_or fs 0 []) g.b.0 t.0; functions = s.2.0; grids = s.3.0 })

pub grid_room : (n : ℕ) (l : List ℕ) (d : Grid) → grid_line n l ≡ Ok d → length d.name.bytes ≡ 24
grid_room n l d e =
    let w = line_good 1 8 grid_texts grid_fit grid_of (refusal 1 n) (refusal 2 n) grid_keyword l d e in
    let g = w.1 in
    ap (λ (x : Grid). length x.name.bytes) (sym g.whole) ∙ name_room (get_or w.0 0 []) g.b g.texted
