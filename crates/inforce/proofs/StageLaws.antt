-- The refusals of a call over an area in their order, each exactly where those before it don't refuse, and what the calls answer then.
use mathlib.Core.Path.{◌≡◌, refl, sym, ◌∙◌, ap}
use Prim.Native.Nat.{ℕ}
use mathlib.Core.Bool.{true, false, not}
use mathlib.Core.List.{List}
use borrow.Author.Tests.{not-false}
use Rattle.group.specs.declared.Group.{Group}
use Rattle.group.specs.declared.Refusal.{Refusal}
use Rattle.group.specs.Refusals.{refusal, refuse_if, unless_refused}
use Rattle.group.proofs.RefusalLaws.{if_here, if_past, passed_if, passed_verdict, no_acceptance, in_turn}
use Rattle.abi.specs.Abi.{group_of_words, numbers_of, MachineGroup}
use Rattle.judge.specs.Judge.{judged}
use Rattle.judge.proofs.StoredLaws.{stored_told}
use Rattle.inforce.specs.declared.Area.{Area}
use Rattle.inforce.specs.Area.{area_fits, area_judged}
use Rattle.inforce.specs.Flat.{Ready}
use Rattle.inforce.specs.InForce.{in_force_in, accepted_list, in_force_of}
use Rattle.inforce.specs.Hole.{hole_in, accepted_hole, hole_of}
use Rattle.std.specs.Prelude.{Ok, Err}

module _ (g : Group) (a : Area) where
  pub area_group : (r : Refusal) → judged g ≡ Err r → area_judged g a ≡ Err r
  unfolding area_judged
  area_group r e = rw e refl

  module _ (e : judged g ≡ Ok tt) where
    pub area_10 : area_fits a ≡ false → area_judged g a ≡ Err (refusal 10 0)
    unfolding area_judged
    area_10 f = rw e (if_here Err (not (area_fits a)) 10 0 (Ok tt) (ap not f))

    pub area_accepted : area_fits a ≡ true → area_judged g a ≡ Ok tt
    unfolding area_judged
    area_accepted f = rw e (if_past Err (not (area_fits a)) 10 0 (Ok tt) (ap not f))

  -- an accepted group and an admitted area, and back
  pub accepted_area : area_judged g a ≡ Ok tt → (judged g ≡ Ok tt) × (area_fits a ≡ true)
  unfolding area_judged
  accepted_area e =
      let v = passed_verdict Err (Ok tt) no_acceptance (judged g) (refuse_if Err (not (area_fits a)) 10 0 (Ok tt)) e in
      (v.0, not-false (area_fits a) (passed_if Err (Ok tt) no_acceptance (not (area_fits a)) 10 0 (Ok tt) v.1).0)

  pub in_force_refused : (r : Refusal) → area_judged g a ≡ Err r → in_force_of g a ≡ Err r
  unfolding in_force_of
  in_force_refused r e = rw e refl

  pub in_force_listed : area_judged g a ≡ Ok tt → in_force_of g a ≡ Ok (accepted_list (in_force_in g a))
  unfolding in_force_of
  in_force_listed e = rw e refl

  pub hole_refused : (r : Refusal) → area_judged g a ≡ Err r → hole_of g a ≡ Err r
  unfolding hole_of
  hole_refused r e = rw e refl

  pub hole_answered : area_judged g a ≡ Ok tt → hole_of g a ≡ Ok (accepted_hole (hole_in g a))
  unfolding hole_of
  hole_answered e = rw e refl

-- what a list or a hole is worked out from is judged
pub ready_judged : {g : Group} {a : Area} {sides ranks : List ℕ} → Ready g a sides ranks → (judged g ≡ Ok tt) × (area_fits a ≡ true)
ready_judged {g} {a} r = accepted_area g a r.accepted

-- a record that is stored as numbers is told the same
pub area_stored : (g : Group) → MachineGroup g → (a : Area) {A : Type 0} (refused : Refusal → A) (next : Group → A)
    → unless_refused refused (area_judged (group_of_words (numbers_of g)) a) (next (group_of_words (numbers_of g))) ≡ unless_refused refused (area_judged g a) (next g)
unfolding area_judged
area_stored g h a refused next =
    let area = refuse_if Err (not (area_fits a)) 10 0 (Ok tt) in
    in_turn refused (judged (group_of_words (numbers_of g))) area (next (group_of_words (numbers_of g)))
    ∙ stored_told g h refused (λ x. unless_refused refused area (next x))
    ∙ sym (in_turn refused (judged g) area (next g))
