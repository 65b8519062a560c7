-- Order 2: what `hole_of` answers for every accepted group and admitted area, that it refuses as grids in force does, and how both go together.
use Prim.Native.Nat.{ℕ, zero, suc, ◌<◌}
use mathlib.Core.Path.{◌≡◌, refl, sym, ◌∙◌, ap, subst}
use mathlib.Core.Bool.{true}
use mathlib.Core.Logic.{◌⊎◌, inl, inr}
use native.Mathlib.Omega.{arith}
use native.Mathlib.Decide.{dec_lt}
use lib.IntN.{ℤ}
use Rattle.std.specs.Prelude.{Option, Some, None, Result, Ok, Err, ⊤}
use Rattle.std.proofs.lemmas.Option.{none-some}
use Rattle.group.specs.declared.Group.{Group}
use Rattle.group.specs.declared.Point.{Point}
use Rattle.group.specs.declared.Refusal.{Refusal}
use Rattle.group.specs.Refusals.{verdict_of}
use Rattle.ingroup.specs.InGroup.{chosen_in, Held}
use Rattle.ingroup.proofs.InGroupLaws.{chosen_holds, none_holds}
use Rattle.region.specs.declared.Spot.{Spot}
use Rattle.inforce.specs.declared.Area.{Area}
use Rattle.inforce.specs.declared.InForce.{InForce}
use Rattle.inforce.specs.Area.{area_fits, area_judged, JudgesArea}
use Rattle.inforce.specs.InForce.{in_force_of}
use Rattle.inforce.specs.Hole.{hole_in, shown_hole, accepted_hole, hole_of}
use Rattle.inforce.specs.Demand3.{entry_at, IsFirstChosen, GridsInForce}
use Rattle.inforce.specs.Order2.{HoleInArea, Order2, RefusesAlike, NamedOnce, HoleNamed, Accounted, Together}
use Rattle.inforce.proofs.GroupLaws.{hole_first, hole_found}
use Rattle.inforce.proofs.StageLaws.{area_group, area_10, area_accepted, in_force_refused, in_force_listed, hole_refused, hole_answered}
use Rattle.inforce.proofs.Demand3.{demand_3}

-- ---- the answer

some_same : (p q : Point) → ◌≡◌ {A = Option Point} (Some p) (Some q) → p ≡ q
some_same p q e = cc

module _ (g : Group) (a : Area) (f : area_fits a ≡ true) where
  -- a coordinate is held by a grid, or none is chosen there
  held : (x y : ℤ) → (chosen_in g x y ≡ 0 → ⊥) → Held g x y
  held x y n = go (chosen_in g x y) refl
    where
      go : (c : ℕ) → chosen_in g x y ≡ c → Held g x y
      go zero e = absurd (n e)
      go (suc k) e = let h = chosen_holds g x y k e in (k, h.0, h.1)

  bare : (x y : ℤ) → chosen_in g x y ≡ 0 → Held g x y → ⊥
  bare x y c h = none_holds g x y c h.0 h.1 h.2

  answers : (s : Option Spot) → hole_in g a ≡ s → HoleInArea g a (accepted_hole s)
  answers (Some s) e =
      let p = hole_first g a f s e in
      record {
        named = λ x y i c. (shown_hole s, refl);
        placed = λ q t. subst (λ (r : Point). IsFirstChosen g a 0 r.lon.0 r.lat.0) (some_same (shown_hole s) q t) p;
        bare = λ q t. bare _ _ (subst (λ (r : Point). chosen_in g r.lon.0 r.lat.0 ≡ 0) (some_same (shown_hole s) q t) p.chosen);
        none = λ h. absurd (bare _ _ p.chosen (h _ _ p.inside));
        held = λ t. absurd (none-some (shown_hole s) (sym t));
      }
  answers None e =
      record {
        named = λ x y i c. let n = hole_found g a f x y i c in absurd (none-some n.0 (sym e ∙ n.1));
        placed = λ q t. absurd (none-some q t);
        bare = λ q t. absurd (none-some q t);
        none = λ h. refl;
        held = λ t x y i. held x y (λ c. let n = hole_found g a f x y i c in none-some n.0 (sym e ∙ n.1));
      }

pub order_2 : (g : Group) (a : Area) → Order2 g a
order_2 g a e f = (accepted_hole (hole_in g a), hole_answered g a (area_accepted g a e f), answers g a f (hole_in g a) refl)

-- ---- the refusals

pub refuses_alike : (g : Group) (a : Area) → RefusesAlike g a
refuses_alike g a = record { judges = judges; alike = alike (area_judged g a) refl }
  where
    told : (v : Result ⊤ Refusal) → area_judged g a ≡ v → verdict_of (hole_of g a) ≡ v
    told (Err r) e = ap verdict_of (hole_refused g a r e)
    told (Ok tt) e = ap verdict_of (hole_answered g a e)

    judges : JudgesArea g a (verdict_of (hole_of g a))
    judges =
        record {
          group = λ r e. told (Err r) (area_group g a r e);
          area = λ e f. told _ (area_10 g a e f);
          neither = λ e f. told (Ok tt) (area_accepted g a e f);
        }

    alike : (v : Result ⊤ Refusal) → area_judged g a ≡ v → verdict_of (hole_of g a) ≡ verdict_of (in_force_of g a)
    alike (Err r) e = told (Err r) e ∙ sym (ap verdict_of (in_force_refused g a r e))
    alike (Ok tt) e = told (Ok tt) e ∙ sym (ap verdict_of (in_force_listed g a e))

-- ---- together with demand 3

-- an entry that names a grid is the only one
once : (g : Group) (a : Area) (l : InForce) → GridsInForce g a l → (i j k : ℕ) → i < l.count → j < l.count
    → (entry_at l i).grid ≡ k → (entry_at l j).grid ≡ k → j ≡ i
once g a l h i j k m n p q =
    elim (dec_lt i j) [
      | yes lt ↦ absurd (h.once i j lt n (p ∙ sym q))
      | no ge ↦ elim (dec_lt j i) [ yes lt ↦ absurd (h.once j i lt m (q ∙ sym p)) | no ge₂ ↦ omega arith ]
    ]

accounted : (g : Group) (a : Area) (l : InForce) (h : Option Point) → GridsInForce g a l → HoleInArea g a h → Accounted g a l h
accounted g a l h d o x y i = go (chosen_in g x y) refl
  where
    go : (c : ℕ) → chosen_in g x y ≡ c → ((k : ℕ) × (chosen_in g x y ≡ suc k) × NamedOnce l (suc k)) ⊎ HoleNamed g h x y
    go zero e =
        let n = o.named x y i e in
        inr (record { none = e; point = n.0; found = n.1; before = (o.placed n.0 n.1).others x y i e })
    go (suc k) e =
        let n = d.named x y k i e in
        inl (k, e, record { entry = n.0; counted = n.1; named = n.2; once = λ j m q. once g a l d n.0 j (suc k) n.1 m n.2 q })

pub together : (g : Group) (a : Area) → Together g a
together g a e f =
    let d = demand_3 g a e f in let o = order_2 g a e f in
    (d.0, o.0, d.1, o.1, accounted g a d.0 o.0 d.2 o.2)
