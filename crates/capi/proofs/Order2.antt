-- Order 2 holds of what the C function leaves.
use mathlib.Core.Path.{◌≡◌, refl, sym, ◌∙◌, ap, subst}
use mathlib.Core.Bool.{Bool, true, false}
use mathlib.Core.List.{List}
use native.Mathlib.Omega.{arith}
use lib.IntN.{ℤ, pos, nat_abs}
use lib.ListN.{replicate}
use Rattle.group.specs.declared.Group.{Group}
use Rattle.group.specs.declared.Point.{Point}
use Rattle.group.specs.Refusals.{refusal, verdict_of}
use Rattle.group.proofs.RefusalLaws.{no_acceptance}
use Rattle.judge.specs.Judge.{judged}
use Rattle.inforce.specs.declared.Area.{Area}
use Rattle.inforce.specs.Area.{area_fits}
use Rattle.inforce.specs.Hole.{hole_of}
use Rattle.inforce.specs.Order2.{HoleInArea}
use Rattle.inforce.proofs.TableLaws.{found_told}
use Rattle.inforce.proofs.Order2.{order_2, refuses_alike}
use Rattle.abi.specs.Abi.{number_at, group_of_words}
use Rattle.capi.specs.Answers.{left_by, hole_numbers, hole_answer}
use Rattle.capi.specs.Order2.{HoleWords, NamesHole}
use Rattle.std.specs.Prelude.{Option, Some, None, Result, Ok, Err, ⊤}
use Rattle.std.proofs.lemmas.Option.{none-some}
use Rattle.group.specs.declared.Refusal.{Refusal}

-- the first number says whether there is a hole
words : (g : Group) (a : Area) (h : Option Point) → HoleInArea g a h → HoleWords g a (hole_numbers h)
words g a (Some p) o =
    record {
      named = λ x y i c. refl;
      placed = λ e. o.placed p refl;
      none = λ k. absurd (none-some p (sym (o.none k)));
      held = λ e. absurd (one_zero (ap (λ (ns : List ℤ). number_at ns 0) e));
    }
  where
    one_zero : pos 1 ≡ pos 0 → ⊥
    one_zero e = omega (arith, ap nat_abs e)
words g a None o =
    record {
      named = λ x y i c. absurd (none-some (o.named x y i c).0 (o.named x y i c).1);
      placed = λ e. absurd (zero_one e);
      none = λ k. refl;
      held = λ e. o.held refl;
    }
  where
    zero_one : pos 0 ≡ pos 1 → ⊥
    zero_one e = omega (arith, ap nat_abs e)

pub names_hole : (group : List ℤ) (area : Area) → NamesHole group area
unfolding hole_answer
names_hole group area z = go (judged g) refl (area_fits area) refl
  where
    g : Group
    g = group_of_words group

    accepted : (h : Option Point) × (hole_of g area ≡ Ok h)
    accepted = (found_told g area).zero z

    -- no refusal
    taken : (r : Refusal) → verdict_of (hole_of g area) ≡ Err r → ⊥
    taken r e = no_acceptance r (sym e ∙ ap verdict_of accepted.1)

    go : (v : Result ⊤ Refusal) → judged g ≡ v → (t : Bool) → area_fits area ≡ t → HoleWords g area (left_by hole_numbers (replicate 3 (pos 0)) (hole_of g area))
    go (Err r) e t f = absurd (taken r ((refuses_alike g area).judges.group r e))
    go (Ok tt) e false f = absurd (taken (refusal 10 0) ((refuses_alike g area).judges.area e f))
    go (Ok tt) e true f =
        let o = order_2 g area e f in
        subst (λ (h : Result (Option Point) Refusal). HoleWords g area (left_by hole_numbers (replicate 3 (pos 0)) h)) (sym o.1) (words g area o.0 o.2)
