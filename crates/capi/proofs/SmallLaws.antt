-- Every number and count in a list of grids in force is at most that of the grids, so that it is stored as it is.
use Prim.Native.Nat.{ℕ, zero, suc, ◌≤◌}
use mathlib.Core.Path.{◌≡◌, refl, sym, ap, ◌∙◌, subst}
use mathlib.Core.Bool.{Bool, true, false}
use mathlib.Core.List.{List, [], ◌∷◌, ◌++◌}
use native.Mathlib.Omega.{arith}
use borrow.Author.Tests.{leb-true, leb-false}
use lib.Dec.{leb}
use lib.IntN.{ℤ, pos}
use lib.ListN.{get_or, replicate}
use Rattle.group.specs.declared.Group.{Group}
use Rattle.group.specs.Numbers.{grids_most}
use Rattle.judge.proofs.Accepted.{accepted_head}
use Rattle.inforce.specs.declared.Area.{Area}
use Rattle.inforce.specs.declared.GridInForce.{GridInForce}
use Rattle.inforce.specs.declared.InForce.{InForce}
use Rattle.inforce.specs.Area.{area_judged}
use Rattle.inforce.specs.InForce.{blank_entry, in_force_of}
use Rattle.inforce.specs.Demand3.{GridsInForce}
use Rattle.inforce.proofs.StageLaws.{accepted_area, in_force_refused}
use Rattle.inforce.proofs.Demand3.{demand_3}
use Rattle.group.proofs.RefusalLaws.{no_answer, ok_same}
use Rattle.capi.specs.Answers.{left_by}
use Rattle.abi.specs.Abi.{joined}
use Rattle.abi.proofs.NumberLaws.{as_it_is}
use Rattle.capi.specs.InForce.{list_words, entry_numbers, stored_entry, list_numbers, stored_list}
use Rattle.std.specs.Prelude.{Result, Ok, Err, ⊤}
use Rattle.group.specs.declared.Refusal.{Refusal}

record Small (r : InForce) : Type 0 where
  few : r.count ≤ grids_most
  each : (k : ℕ) → (get_or r.entries k blank_entry).grid ≤ grids_most

listed_small : (g : Group) (a : Area) (r : InForce) → g.grids ≤ grids_most → GridsInForce g a r → Small r
listed_small g a r s h = record { few = omega (arith, h.most); each = λ k. go k (leb r.count k) refl }
  where
    go : (k : ℕ) (t : Bool) → leb r.count k ≡ t → (get_or r.entries k blank_entry).grid ≤ grids_most
    go k true e = let q = ap (λ (x : GridInForce). x.grid) (h.unused k (leb-true r.count k e)) in omega arith
    go k false e = let q = (h.placed k (leb-false r.count k e)).number in omega arith

joined_same : {A : Type 0} (f h : ℕ → List A) (n : ℕ) → ((k : ℕ) → f k ≡ h k) → joined f n ≡ joined h n
unfolding joined
joined_same f h zero e = refl
joined_same f h (suc n) e = λ i. joined_same f h n e i ++ e n i

whole : (r : InForce) → Small r → stored_list r ≡ list_numbers r
unfolding stored_list list_numbers
whole r h =
    let c = as_it_is r.count (let f = h.few in omega arith) in
    let es = joined_same (λ k. stored_entry (get_or r.entries k blank_entry)) (λ k. entry_numbers (get_or r.entries k blank_entry)) grids_most
    (λ k. let e = get_or r.entries k blank_entry in ap (λ (z : ℤ). z ∷ e.lon.0 ∷ e.lat.0 ∷ []) (as_it_is e.grid (let f = h.each k in omega arith))) in
    λ i. (c i ∷ []) ++ es i

pub in_force_stored : (g : Group) (a : Area) (f : Result InForce Refusal) → f ≡ in_force_of g a
    → left_by stored_list (replicate list_words (pos 0)) f ≡ left_by list_numbers (replicate list_words (pos 0)) f
in_force_stored g a (Err r) e = refl
in_force_stored g a (Ok l) e = whole l (go (area_judged g a) refl)
  where
    go : (v : Result ⊤ Refusal) → area_judged g a ≡ v → Small l
    go (Err r) q = absurd (no_answer l r (sym (in_force_refused g a r q) ∙ sym e))
    go (Ok tt) q =
        let j = accepted_area g a q in let d = demand_3 g a j.0 j.1 in
        listed_small g a l (accepted_head g j.0).grids (subst (GridsInForce g a) (ok_same d.0 l (sym d.1 ∙ sym e)) d.2)
