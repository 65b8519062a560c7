-- The refusals of a lookup in their order, each exactly where those before it don't refuse.
use Prim.Native.Nat.{ℕ}
use mathlib.Core.Path.{◌≡◌, refl, sym, ◌∙◌, ap}
use mathlib.Core.Bool.{Bool, true, false, not}
use mathlib.Core.List.{List}
use lib.IntN.{ℤ}
use lib.ListN.{length}
use mir.Syntax.{w64}
use mir.Val.{SFits, to_z, of_z}
use Rattle.numbers.proofs.Machine.{passed}
use Rattle.numbers.specs.First.{some}
use Rattle.group.specs.declared.Group.{Group}
use Rattle.group.specs.declared.Point.{Point}
use Rattle.group.specs.declared.Refusal.{Refusal}
use Rattle.judge.specs.Judge.{judged}
use Rattle.group.specs.Numbers.{day_fits}
use Rattle.group.specs.Refusals.{refuse_first, refusal_of}
use Rattle.group.proofs.RefusalLaws.{if_here, if_past, first_here, first_past, passed_first, no_acceptance}
use Rattle.lookup.specs.Lookup.{point_fits, ends_early, nodes_judged, fix_of, looked_in, looked, LookupReady}
use Rattle.std.specs.Prelude.{Result, Ok, Err, ⊤}

-- what `day_fits` tells of the day that it was passed
pub day_told : {b : Bool} {t : ℤ} → SFits w64 t → b ≡ day_fits (to_z w64 (of_z w64 t)) → day_fits t ≡ b
day_told {b} {t} h e = sym (passed w64 h (λ (z : ℤ). b ≡ day_fits z) e)

-- what 13 alone tells of every call that comes to it
module _ (g : Group) (count : ℕ) where
  pub nodes_accepted : nodes_judged g count ≡ Ok tt → some (ends_early g count) g.grids ≡ false
  unfolding nodes_judged
  nodes_accepted e = (passed_first Err (Ok tt) no_acceptance (ends_early g count) g.grids 13 1 (Ok tt) e).0

  pub nodes_refused : {A : Type 0} (refused : Refusal → A) (next : A) (r : Refusal) → nodes_judged g count ≡ Err r
      → refuse_first refused (ends_early g count) g.grids 13 1 next ≡ refused r
  unfolding nodes_judged
  nodes_refused refused next r e = go (some (ends_early g count) g.grids) refl
    where
      go : (b : Bool) → some (ends_early g count) g.grids ≡ b → refuse_first refused (ends_early g count) g.grids 13 1 next ≡ refused r
      go true h =
          first_here refused (ends_early g count) g.grids 13 1 next h
          ∙ ap (λ (v : Result ⊤ Refusal). refused (refusal_of v)) (sym (first_here Err (ends_early g count) g.grids 13 1 (Ok tt) h) ∙ e)
      go false h = absurd (no_acceptance r (sym e ∙ first_past Err (ends_early g count) g.grids 13 1 (Ok tt) h))

module _ (g : Group) (nodes : List ℤ) (p : Point) (t : ℤ) where
  pub looked_group : (r : Refusal) → judged g ≡ Err r → looked g nodes p t ≡ Err r
  unfolding looked
  looked_group r e = rw e refl

  pub looked_accepted : judged g ≡ Ok tt → looked g nodes p t ≡ looked_in g nodes p t
  unfolding looked
  looked_accepted e = rw e refl

  pub looked_6 : point_fits p ≡ false → looked_in g nodes p t ≡ Err (record { number = 6; place = 0 })
  unfolding looked_in
  looked_6 e = if_here Err (not (point_fits p)) 6 0 _ (ap not e)

  pub looked_9 : point_fits p ≡ true → day_fits t ≡ false → looked_in g nodes p t ≡ Err (record { number = 9; place = 0 })
  unfolding looked_in
  looked_9 e f = if_past Err (not (point_fits p)) 6 0 _ (ap not e) ∙ if_here Err (not (day_fits t)) 9 0 _ (ap not f)

  pub looked_13 : point_fits p ≡ true → day_fits t ≡ true → (r : Refusal) → nodes_judged g (length nodes) ≡ Err r → looked_in g nodes p t ≡ Err r
  unfolding looked_in
  looked_13 e f r h =
      if_past Err (not (point_fits p)) 6 0 _ (ap not e)
      ∙ if_past Err (not (day_fits t)) 9 0 _ (ap not f) ∙ nodes_refused g (length nodes) Err (fix_of g nodes p t) r h

  pub looked_on : LookupReady g (length nodes) p t
      → looked_in g nodes p t ≡ fix_of g nodes p t
  unfolding looked_in
  looked_on r =
      if_past Err (not (point_fits p)) 6 0 _ (ap not r.point)
      ∙ if_past Err (not (day_fits t)) 9 0 _ (ap not r.day)
      ∙ first_past Err (ends_early g (length nodes)) g.grids 13 1 _ r.ends
