-- The refusals of a point in an accepted call are those of the table with the place 0, so that their numbers are stored as they are.
use Prim.Native.Nat.{ℕ, zero, suc, ◌≤◌}
use mathlib.Core.Path.{◌≡◌, refl, sym, subst}
use mathlib.Core.Bool.{false, not}
use mathlib.Core.List.{List, [], ◌∷◌}
use native.Mathlib.Omega.{arith}
use lib.IntN.{ℤ}
use lib.ListN.{length}
use Rattle.numbers.specs.First.{some}
use Rattle.group.specs.declared.Group.{Group}
use Rattle.group.specs.declared.Point.{Point}
use Rattle.group.specs.declared.Position.{Position}
use Rattle.group.specs.Numbers.{day_fits}
use Rattle.group.proofs.RefusalLaws.{chain_if, first_past}
use Rattle.abi.proofs.NumberLaws.{as_it_is}
use Rattle.judge.specs.Judge.{judged}
use Rattle.fix.specs.declared.Offset.{Offset}
use Rattle.fix.specs.Fix.{fix_in}
use Rattle.lookup.specs.Answer.{answer_record}
use Rattle.lookup.specs.Lookup.{point_fits, ends_early, fix_at, fix_of, looked_in}
use Rattle.lookup.proofs.StageLaws.{looked_accepted}
use Rattle.exercise.specs.Exercise.{point_at, answer_numbers, answer_at}
use Rattle.exercise.specs.Tables.{stored_numbers}
use Rattle.std.specs.Prelude.{Result, Ok, Err}
use Rattle.group.specs.declared.Refusal.{Refusal}
use Rattle.fix.specs.declared.Fix.{Fix}

abbrev Small : Result Fix Refusal → Type 0
Small found = ((answer_record found).number ≤ 13) × ((answer_record found).place ≡ 0)

in_choice : (c : ℕ) (offset : ℕ → Offset) (nodes : List ℤ) (factor : ℤ) → Small (fix_at c offset nodes factor)
unfolding fix_at fix_in
in_choice zero offset nodes factor = (omega arith, refl)
in_choice (suc k) offset nodes factor =
    chain_if Err Small _ 8 0 _ (omega arith, refl) (chain_if Err Small _ 11 0 _ (omega arith, refl) (omega arith, refl))

module _ (g : Group) (nodes : List ℤ) (e : judged g ≡ Ok tt) (ends : some (ends_early g (length nodes)) g.grids ≡ false) where
  in_group : (p : Point) (t : ℤ) → Small (looked_in g nodes p t)
  unfolding looked_in
  in_group p t =
      chain_if Err Small (not (point_fits p)) 6 0 _ (omega arith, refl)
      (chain_if Err Small (not (day_fits t)) 9 0 _ (omega arith, refl)
      (subst Small (sym (first_past Err (ends_early g (length nodes)) g.grids 13 1 (fix_of g nodes p t) ends)) (in_choice _ _ _ _)))

  pub point_small : (p : Position) → ((answer_at g nodes p).number ≤ 13) × ((answer_at g nodes p).place ≡ 0)
  unfolding answer_at
  point_small p = subst Small (sym (looked_accepted g nodes (point_at p) p.day e)) (in_group (point_at p) p.day)

  pub numbers_stored : (p : Position) → stored_numbers (answer_at g nodes p) ≡ answer_numbers (answer_at g nodes p)
  numbers_stored p =
      let a = answer_at g nodes p in
      let s = point_small p in
      let n = as_it_is a.number (omega arith) in
      let k = as_it_is a.place (omega (arith, s.1)) in
      λ i. n i ∷ k i ∷ a.grid ∷ a.first ∷ a.second ∷ a.third ∷ []
