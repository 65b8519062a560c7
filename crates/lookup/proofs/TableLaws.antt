-- A lookup tells 0 exactly where it is a fix, else a number of the table of refusals.
use Prim.Native.Nat.{ℕ, zero, suc}
use mathlib.Core.Path.{◌≡◌, refl, ap}
use mathlib.Core.List.{List}
use mathlib.Core.Logic.{◌↔◌}
use lib.IntN.{ℤ}
use Rattle.group.specs.declared.Group.{Group}
use Rattle.group.specs.declared.Point.{Point}
use Rattle.group.specs.declared.Refusal.{Refusal}
use Rattle.group.specs.Refusals.{refusal, refuse_first, Told, refusal_of}
use Rattle.group.proofs.RefusalLaws.{told_accepted, told_by, told_if, told_verdict, results}
use Rattle.judge.specs.Judge.{judged}
use Rattle.judge.proofs.TableLaws.{judged_told}
use Rattle.fix.specs.declared.Fix.{Fix}
use Rattle.fix.specs.declared.Offset.{Offset}
use Rattle.fix.specs.Fix.{fix_in}
use Rattle.lookup.specs.Lookup.{fix_at, looked_in, looked}
use Rattle.std.specs.Prelude.{Ok}

in_choice : (c : ℕ) (offset : ℕ → Offset) (nodes : List ℤ) (factor : ℤ)
    → Told ((f : Fix) × (fix_at c offset nodes factor ≡ Ok f)) (refusal_of (fix_at c offset nodes factor))
unfolding fix_at fix_in
in_choice zero offset nodes factor = told_by results (refusal 7 0) refl
in_choice (suc k) offset nodes factor = told_if results _ 8 0 refl (told_if results _ 11 0 refl (told_accepted (_, refl)))

module _ (g : Group) (nodes : List ℤ) (p : Point) (t : ℤ) where
  pub looked_told : Told ((f : Fix) × (looked g nodes p t ≡ Ok f)) (refusal_of (looked g nodes p t))
  unfolding looked looked_in refuse_first
  looked_told =
      told_verdict results (judged g) (judged_told g)
      (told_if results _ 6 0 refl
      (told_if results _ 9 0 refl
      (told_if results _ 13 _ refl (in_choice _ _ _ _))))

  pub zero_fix : ((refusal_of (looked g nodes p t)).number ≡ 0) ↔ ((f : Fix) × (looked g nodes p t ≡ Ok f))
  zero_fix = (looked_told.zero, λ f. ap (λ (r : Refusal). r.number) (looked_told.accepted f))
