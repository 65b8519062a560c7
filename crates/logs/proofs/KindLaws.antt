-- The verdict of a line: which of its tests fails first, exactly.
use Prim.Native.Nat.{ℕ, zero, suc, ◌-◌}
use mathlib.Core.Path.{◌≡◌, refl, sym, ap, ◌∙◌, subst}
use mathlib.Core.Bool.{Bool, true, false, cond}
use mathlib.Core.List.{List}
use mathlib.Core.Option.{Option, none, some}
use native.Mathlib.Omega.{arith}
use lib.IntN.{ℤ}
use Rattle.numbers.proofs.Bools.{true_false, untrue}
use Rattle.numbers.proofs.FirstLaws.{every_at, all_every}
use Rattle.text.specs.Fields.{same}
use Rattle.text.proofs.FieldLaws.{same_refl, same_true}
use Rattle.text.proofs.PartLaws.{Free}
use Rattle.group.specs.declared.Group.{Group}
use Rattle.group.specs.declared.Position.{Position}
use Rattle.group.specs.declared.Refusal.{Refusal}
use Rattle.group.specs.Record.{grid_at}
use Rattle.group.specs.Refusals.{no_refusal, refusal_of}
use Rattle.group.specs.Shapes.{int_at}
use Rattle.line.specs.Names.{name_text}
use Rattle.fix.specs.declared.Fix.{Fix}
use Rattle.fix.specs.Answers.{lookup_grid, result_in, results_of}
use Rattle.lookup.specs.Lookup.{looked}
use Rattle.lookup.proofs.Demand2.{demand_2}
use Rattle.exercise.specs.Exercise.{point_at}
use Rattle.logs.specs.Line.{Entry, grid_name, equal, same_shifts, found_kind, entry_kind, read_entry, line_kind}
use Rattle.logs.specs.Kinds.{passes, form_fault, lookup_fault, grid_fault, shift_fault, failed_number}
use Rattle.logs.specs.Order4.{Says, found_for, Accepts, NamesChosen, EqualShifts, LineIs, LineJudged}
use Rattle.logs.proofs.EqualLaws.{equal_refl, equal_true}
use Rattle.logs.proofs.SaysLaws.{says_read, read_says, says_free}
use Rattle.std.specs.Prelude.{Result, Ok, Err}

-- ---- the lookup of a position

module _ (g : Group) (nodes : List ℤ) (p : Position) where
  -- an accepted one is a fix in grid k, from 0
  fixed : refusal_of (looked g nodes (point_at p) p.day) ≡ no_refusal
      → (f : Fix) × (k : ℕ) × (looked g nodes (point_at p) p.day ≡ Ok f) × (f.grid ≡ suc k)
  fixed a =
      let d = demand_2 g nodes (point_at p) p.day in
      let z = ap (λ (r : Refusal). r.number) a in
      let u = d.zero.0 z in let w = d.accepted z in
      (u.0, w.k, u.1, sym (ap lookup_grid u.1) ∙ w.number)

  -- a refused one refuses something
  pub refused_some : (r : Refusal) → looked g nodes (point_at p) p.day ≡ Err r → r ≡ no_refusal → ⊥
  refused_some r h a =
      let u = fixed (ap refusal_of h ∙ a) in let f = u.0 in
      let w = sym u.2 ∙ h in let z : ◌≡◌ {A = ℕ} 0 1 = cc in omega arith

module _ (g : Group) (nodes : List ℤ) (e : Entry) where
  module _ (f : Fix) (h : found_for g nodes e ≡ Ok f) where
    accepts : Accepts g nodes e
    accepts = ap refusal_of h

    pub the_grid : (k : ℕ) → lookup_grid (found_for g nodes e) ≡ suc k → grid_name g f.grid ≡ name_text (grid_at g k).name
    the_grid k n =
        let m : f.grid ≡ suc k = sym (ap lookup_grid h) ∙ n in
        let j : f.grid - 1 ≡ k = omega arith in
        ap (λ (i : ℕ). name_text (grid_at g i).name) j

    names : same e.name (grid_name g f.grid) ≡ true → NamesChosen g nodes e
    names t =
        let u = fixed g nodes e.position accepts in let k = u.1 in
        let n : lookup_grid (found_for g nodes e) ≡ suc k = ap lookup_grid u.2 ∙ u.3 in
        (k, n, same_true _ _ t ∙ the_grid k n)

    named : NamesChosen g nodes e → same e.name (grid_name g f.grid) ≡ true
    named n = ap (same e.name) (the_grid n.0 n.1 ∙ sym n.2) ∙ same_refl e.name

    shifts : same_shifts g.parameters e.shifts (result_in f) ≡ true → EqualShifts g nodes e
    shifts t q l = equal_true _ _ (every_at (λ j. equal (int_at e.shifts j) (result_in f j)) g.parameters q t l) ∙ ap (λ (r : Result Fix Refusal). results_of r q) (sym h)

    shifted : EqualShifts g nodes e → same_shifts g.parameters e.shifts (result_in f) ≡ true
    shifted s = all_every (λ j. equal (int_at e.shifts j) (result_in f j)) g.parameters (λ q l. equal_refl _ _ (s q l ∙ ap (λ (r : Result Fix Refusal). results_of r q) h))

-- ---- the verdict is what the line is

module _ (g : Group) (nodes : List ℤ) (line : List ℕ) where
  abbrev np : ℕ
  np = g.parameters

  abbrev Is : ℕ → Type 0
  Is = LineIs g nodes line

  found_is : (e : Entry) → Says np line e → (l : Result Fix Refusal) → found_for g nodes e ≡ l → Is (failed_number (found_kind g e.name e.shifts l))
  unfolding found_kind
  found_is e s (Err r) h = (e, s, λ a. refused_some g nodes e.position r h (sym (ap refusal_of h) ∙ a))
  found_is e s (Ok f) h = by_name (same e.name (grid_name g f.grid)) refl
    where
      by_shifts : NamesChosen g nodes e → (b : Bool) → same_shifts np e.shifts (result_in f) ≡ b → Is (failed_number (cond b passes shift_fault))
      by_shifts n true t = (e, s, accepts g nodes e f h, n, shifts g nodes e f h t)
      by_shifts n false t = (e, s, accepts g nodes e f h, n, λ q. true_false (shifted g nodes e f h q) t)

      by_name : (b : Bool) → same e.name (grid_name g f.grid) ≡ b
          → Is (failed_number (cond b (cond (same_shifts np e.shifts (result_in f)) passes shift_fault) grid_fault))
      by_name true t = by_shifts (names g nodes e f h t) (same_shifts np e.shifts (result_in f)) refl
      by_name false t = (e, s, accepts g nodes e f h, λ n. true_false (named g nodes e f h n) t)

  line_is : Is (failed_number (line_kind g nodes line))
  unfolding line_kind
  line_is = go (read_entry np line) refl
    where
      go : (o : Option Entry) → read_entry np line ≡ o → Is (failed_number (entry_kind g nodes o))
      go none h = λ e s. let w = sym h ∙ says_read np line e s in let z : ◌≡◌ {A = ℕ} 0 1 = cc in omega arith
      go (some e) h = found_is e (read_says np line e h) (found_for g nodes e) refl

  -- ---- a line is of one kind

  module _ (e : Entry) (s : Says np line e) where
    kind_found : line_kind g nodes line ≡ found_kind g e.name e.shifts (found_for g nodes e)
    unfolding line_kind
    kind_found = ap (entry_kind g nodes) (says_read np line e s)

    kind_fix : (f : Fix) → found_for g nodes e ≡ Ok f
        → line_kind g nodes line ≡ cond (same e.name (grid_name g f.grid)) (cond (same_shifts np e.shifts (result_in f)) passes shift_fault) grid_fault
    unfolding found_kind
    kind_fix f h = kind_found ∙ ap (found_kind g e.name e.shifts) h

    kind_named : (f : Fix) → found_for g nodes e ≡ Ok f → NamesChosen g nodes e → line_kind g nodes line ≡ cond (same_shifts np e.shifts (result_in f)) passes shift_fault
    kind_named f h n = kind_fix f h ∙ ap (λ (b : Bool). cond b (cond (same_shifts np e.shifts (result_in f)) passes shift_fault) grid_fault) (named g nodes e f h n)

    kind_refused : (Accepts g nodes e → ⊥) → line_kind g nodes line ≡ lookup_fault
    unfolding found_kind
    kind_refused n = kind_found ∙ go (found_for g nodes e) refl
      where
        go : (l : Result Fix Refusal) → found_for g nodes e ≡ l → found_kind g e.name e.shifts l ≡ lookup_fault
        go (Err r) h = refl
        go (Ok f) h = absurd (n (ap refusal_of h))

  kind_formless : ((e : Entry) → Says np line e → ⊥) → line_kind g nodes line ≡ form_fault
  unfolding line_kind
  kind_formless n = go (read_entry np line) refl
    where
      go : (o : Option Entry) → read_entry np line ≡ o → entry_kind g nodes o ≡ form_fault
      go none h = refl
      go (some e) h = absurd (n e (read_says np line e h))

  kind_is : (k : ℕ) → Is k → failed_number (line_kind g nodes line) ≡ k
  kind_is zero (e, s, a, n, q) =
      let u = fixed g nodes e.position a in let f = u.0 in let h = u.2 in
      ap failed_number (kind_named e s f h n ∙ ap (λ (b : Bool). cond b passes shift_fault) (shifted g nodes e f h q))
  kind_is (suc zero) n = ap failed_number (kind_formless n)
  kind_is (suc (suc zero)) (e, s, n) = ap failed_number (kind_refused e s n)
  kind_is (suc (suc (suc zero))) (e, s, a, n) =
      let u = fixed g nodes e.position a in let f = u.0 in let h = u.2 in
      ap failed_number
      (kind_fix e s f h
      ∙ ap (λ (b : Bool). cond b (cond (same_shifts np e.shifts (result_in f)) passes shift_fault) grid_fault) (untrue _ (λ t. n (names g nodes e f h t))))
  kind_is (suc (suc (suc (suc zero)))) (e, s, a, n, q) =
      let u = fixed g nodes e.position a in let f = u.0 in let h = u.2 in
      ap failed_number (kind_named e s f h n ∙ ap (λ (b : Bool). cond b passes shift_fault) (untrue _ (λ t. q (shifts g nodes e f h t))))
  kind_is (suc (suc (suc (suc (suc k))))) n = absurd n

pub line_exactly : (g : Group) (nodes : List ℤ) (line : List ℕ) → LineJudged g nodes line
line_exactly g nodes line k = (λ h. subst (LineIs g nodes line) h (line_is g nodes line), kind_is g nodes line k)

-- no line feed stands in a line that passes
pub pass_free : (g : Group) (nodes : List ℤ) (line : List ℕ) → line_kind g nodes line ≡ passes → Free 10 line
pass_free g nodes line h = let p = (line_exactly g nodes line 0).0 (ap failed_number h) in says_free g.parameters line p.0 p.1
