-- What the code meets behind a line's form: the lookup's answer, the name of its grid, and the shifts as the code tells them apart.
use Prim.Native.Nat.{ℕ, zero, suc, ◌-◌, ◌<◌, ◌≤◌}
use mathlib.Core.Path.{◌≡◌, refl, sym, ap, ◌∙◌}
use mathlib.Core.Bool.{Bool, true, false, cond, not}
use mathlib.Core.List.{List, [], ◌∷◌}
use mathlib.Core.Option.{none}
use native.Mathlib.Omega.{arith}
use lib.Dec.{leb}
use lib.IntN.{ℤ, pos}
use lib.Seq.{get_or-take}
use Rattle.numbers.proofs.FirstLaws.{first_same}
use Rattle.text.specs.Number.{clamp}
use Rattle.text.specs.Fields.{same}
use Rattle.group.specs.declared.Grid.{Grid}
use Rattle.group.specs.declared.Group.{Group}
use Rattle.group.specs.declared.Refusal.{Refusal}
use Rattle.group.specs.Numbers.{name_most, grids_most}
use Rattle.group.specs.Record.{grid_at}
use Rattle.group.specs.Shapes.{int_at}
use Rattle.line.specs.Names.{name_text}
use Rattle.line.proofs.NameLaws.{name_len}
use Rattle.line.proofs.KindLaws.{grid_name_lem}
use Rattle.abi.specs.Abi.{number_at, grid_of_words, group_of_words}
use Rattle.abi.proofs.EntryLaws.{grid_of_words_lem}
use Rattle.judge.specs.Judge.{judged}
use Rattle.judge.proofs.Accepted.{accepted, accepted_head}
use Rattle.fix.specs.declared.Fix.{Fix}
use Rattle.fix.specs.Answers.{result_in}
use Rattle.lookup.specs.Lookup.{looked}
use Rattle.logs.specs.Kinds.{passes, form_fault, lookup_fault, grid_fault, shift_fault}
use Rattle.logs.specs.Line.{grid_name, equal, same_shifts, read_entry, found_kind, entry_kind, line_kind}
use Rattle.logs.specs.Reading.{Said, FoundIn}
use Rattle.logs.proofs.EqualLaws.{equal_clamped}
use Rattle.logs.proofs.PlaceLaws.{clamp_at, point_of, looked_clamped}
use Rattle.logs.proofs.LengthLaws.{fix_found}
use Rattle.std.specs.Prelude.{Result, Ok, Err}

-- the results of a fix as a list
abbrev pub result_list : Fix → List ℤ
result_list f = f.first ∷ f.second ∷ f.third ∷ []

result_at_lem : (f : Fix) (q : ℕ) → number_at (result_list f) q ≡ result_in f q
result_at_lem f zero = refl
result_at_lem f (suc zero) = refl
result_at_lem f (suc (suc zero)) = refl
result_at_lem f (suc (suc (suc q))) = refl

pub kind_refused : (g : Group) (name : List ℕ) (shifts : List ℤ) (l : Result Fix Refusal) (r : Refusal) → l ≡ Err r → found_kind g name shifts l ≡ lookup_fault
unfolding found_kind
kind_refused g name shifts l r e = rw e

-- a fix in an accepted group
module _ (ns : List ℤ) (l : Result Fix Refusal) (f : Fix) (e : l ≡ Ok f) (h : FoundIn (group_of_words ns) l) where
  abbrev g : Group
  g = group_of_words ns

  pub fix_some : 1 ≤ f.grid
  fix_some = (h.grid f e).0

  pub fix_grid : f.grid - 1 < grids_most
  fix_grid = let n = h.grid f e in let m = (accepted_head g h.accepted).grids in let a = n.0 in let b = n.1 in omega arith

  grid_is : grid_at g (f.grid - 1) ≡ grid_of_words ns (f.grid - 1)
  grid_is = grid_of_words_lem ns (f.grid - 1) fix_grid

  pub fix_name : (grid_of_words ns (f.grid - 1)).name.len ≤ name_most
  fix_name =
      let n = h.grid f e in let a = n.0 in let b = n.1 in
      let w = (name_len (grid_at g (f.grid - 1)).name (grid_name_lem (grid_at g (f.grid - 1)) ((accepted g h.accepted).grid (f.grid - 1) (omega arith)))).1 in
      let q = ap (λ (d : Grid). d.name.len) grid_is in
      omega arith

  module _ (name : List ℕ) (shifts : List ℤ) where
    opened : (t u : Bool) → same name (name_text (grid_of_words ns (f.grid - 1)).name) ≡ t → same_shifts g.parameters shifts (number_at (result_list f)) ≡ u
        → found_kind g name shifts l ≡ cond t (cond u passes shift_fault) grid_fault
    unfolding found_kind
    opened t u p q =
        let s = ap (λ (d : Grid). same name (name_text d.name)) grid_is ∙ p in
        let r : same_shifts g.parameters shifts (result_in f) ≡ u = ap (same_shifts g.parameters shifts) (λ i k. sym (result_at_lem f k) i) ∙ q in
        rw e (λ i. cond (s i) (cond (r i) passes shift_fault) grid_fault)

    pub kind_grid : same name (name_text (grid_of_words ns (f.grid - 1)).name) ≡ false → found_kind g name shifts l ≡ grid_fault
    kind_grid p = opened false (same_shifts g.parameters shifts (number_at (result_list f))) p refl

    pub kind_shift : same name (name_text (grid_of_words ns (f.grid - 1)).name) ≡ true → same_shifts g.parameters shifts (number_at (result_list f)) ≡ false
        → found_kind g name shifts l ≡ shift_fault
    kind_shift p q = opened true false p q

    pub kind_none : same name (name_text (grid_of_words ns (f.grid - 1)).name) ≡ true → same_shifts g.parameters shifts (number_at (result_list f)) ≡ true
        → found_kind g name shifts l ≡ passes
    kind_none p q = opened true true p q

-- ---- a line of the form, by its numbers as the code tells them apart

pub line_unformed : (g : Group) (nodes : List ℤ) (line : List ℕ) → read_entry g.parameters line ≡ none → line_kind g nodes line ≡ form_fault
unfolding line_kind
line_unformed g nodes line e = ap (entry_kind g nodes) e

module _ (g : Group) (nodes : List ℤ) (line : List ℕ) (place : List ℤ) (name : List ℕ) (values : List ℤ) (s : Said g.parameters line place name values) where
  abbrev at : Result Fix Refusal
  at = looked g nodes (point_of (number_at place 0) (number_at place 1)) (number_at place 2)

  at_is : looked g nodes (point_of (int_at s.zs 0) (int_at s.zs 1)) (int_at s.zs 2) ≡ at
  at_is =
      let p : (k : ℕ) → clamp (int_at s.zs k) ≡ number_at place k = λ k. sym (clamp_at s.zs k) ∙ ap (λ (l : List ℤ). int_at l k) s.placed in
      sym (looked_clamped g nodes (int_at s.zs 0) (int_at s.zs 1) (int_at s.zs 2)) ∙ (λ i. looked g nodes (point_of (p 0 i) (p 1 i)) (p 2 i))

  value_at : (q : ℕ) → q < g.parameters → clamp (int_at s.vs q) ≡ int_at values q
  value_at q l = sym (clamp_at s.vs q) ∙ ap (λ (l : List ℤ). int_at l q) s.valued ∙ get_or-take g.parameters values q (pos 0) l

  shifts_told : (f : Fix) → at ≡ Ok f → same_shifts g.parameters s.vs (result_in f) ≡ same_shifts g.parameters values (result_in f)
  shifts_told f e =
      ap (λ (n : ℕ). leb g.parameters n)
      (first_same (λ q. not (equal (int_at s.vs q) (result_in f q))) (λ q. not (equal (int_at values q) (result_in f q))) g.parameters
      (λ q l.
      let m = (fix_found g nodes (record { lon = record { 0 = number_at place 0 }; lat = record { 0 = number_at place 1 }; day = number_at place 2 }) f e).results q in
      ap not (sym (equal_clamped (int_at s.vs q) (result_in f q) (omega arith)) ∙ ap (λ (z : ℤ). equal z (result_in f q)) (value_at q l))))

  found_told : (l : Result Fix Refusal) → at ≡ l → found_kind g name s.vs l ≡ found_kind g name values l
  unfolding found_kind
  found_told (Err r) e = refl
  found_told (Ok f) e = ap (λ (t : Bool). cond (same name (grid_name g f.grid)) (cond t passes shift_fault) grid_fault) (shifts_told f e)

  pub line_formed : line_kind g nodes line ≡ found_kind g name values at
  unfolding line_kind
  line_formed = ap (entry_kind g nodes) s.entry ∙ ap (found_kind g name s.vs) at_is ∙ found_told at refl

-- a fix is in one of an accepted group's grids
pub found_in : (g : Group) (nodes : List ℤ) (x y t : ℤ) (l : Result Fix Refusal) → judged g ≡ Ok tt → l ≡ looked g nodes (point_of x y) t → FoundIn g l
found_in g nodes x y t l a e =
    record {
      accepted = a;
      grid = λ f q. let w = fix_found g nodes (record { lon = record { 0 = x }; lat = record { 0 = y }; day = t }) f (sym e ∙ q) in (w.some, w.among);
    }
