-- What is answered where the lookup is refused, and where it is not.
use Prim.Native.Nat.{ℕ, ◌-◌}
use mathlib.Core.Path.{◌≡◌, refl, sym, ap, ◌∙◌}
use mathlib.Core.List.{List}
use native.Mathlib.Omega.{arith}
use lib.IntN.{ℤ}
use Rattle.group.specs.declared.Group.{Group}
use Rattle.group.specs.declared.Point.{Point}
use Rattle.group.specs.declared.Refusal.{Refusal}
use Rattle.group.specs.Refusals.{unless_refused}
use Rattle.group.specs.Record.{grid_at}
use Rattle.judge.specs.Judge.{judged}
use Rattle.cell.specs.Cell.{is_beyond}
use Rattle.fix.specs.declared.Fix.{Fix}
use Rattle.fix.specs.Fix.{corner_some}
use Rattle.lookup.specs.Lookup.{offset_of, looked_in, looked}
use Rattle.lookup.proofs.FoundLaws.{found}
use Rattle.explain.specs.Explain.{pieces_of, pieces_numbers, explained_by, explained}
use Rattle.explain.specs.Flat.{Explainable}
use Rattle.std.specs.Prelude.{Result, Ok, Err, ⊤}

module _ (g : Group) (nodes : List ℤ) (p : Point) (t : ℤ) where
  pub by_refusal : {l : Result Fix Refusal} (r : Refusal) → l ≡ Err r → Err r ≡ explained_by g nodes p t l
  unfolding explained_by
  by_refusal r e = rw e refl

  pub by_fix : {l : Result Fix Refusal} (f : Fix) {numbers : List ℤ} → l ≡ Ok f → numbers ≡ pieces_numbers (pieces_of g nodes p t f.grid)
      → Ok numbers ≡ explained_by g nodes p t l
  unfolding explained_by
  by_fix f e n = rw e (ap Ok n)

  -- an accepted lookup can be explained
  pub explainable : (f : Fix) → looked g nodes p t ≡ Ok f → Explainable g nodes p t f.grid
  explainable f e =
      let h = found g nodes p t f e in let n = h.number in let before : f.grid - 1 ≡ h.k = omega arith in
      record {
        ready = h.ready;
        chosen = h.number ∙ sym h.chosen;
        some = omega arith;
        small = ap (λ (k : ℕ). corner_some is_beyond (offset_of (grid_at g k) g.parameters p) nodes) before ∙ h.no_beyond;
      }

  -- judged first, as every call is
  pub explained_judged : explained g nodes p t ≡ unless_refused Err (judged g) (explained_by g nodes p t (looked_in g nodes p t))
  unfolding looked explained_by
  explained_judged = go (judged g)
    where
      go : (v : Result ⊤ Refusal) → explained_by g nodes p t (unless_refused Err v (looked_in g nodes p t)) ≡ unless_refused Err v (explained_by g nodes p t (looked_in g nodes p t))
      go (Ok tt) = refl
      go (Err r) = refl
