-- The calls for grids in force and for the hole tell 0 exactly where they answer, else a number of the table of refusals.
use mathlib.Core.Path.{◌≡◌, refl}
use mathlib.Core.Bool.{not}
use Rattle.group.specs.declared.Group.{Group}
use Rattle.group.specs.declared.Point.{Point}
use Rattle.group.specs.Refusals.{refusal_of, Told}
use Rattle.group.proofs.RefusalLaws.{verdicts, results, told_accepted, told_if, told_verdict}
use Rattle.judge.specs.Judge.{judged}
use Rattle.judge.proofs.TableLaws.{judged_told}
use Rattle.inforce.specs.declared.Area.{Area}
use Rattle.inforce.specs.declared.InForce.{InForce}
use Rattle.inforce.specs.Area.{area_fits, area_judged}
use Rattle.inforce.specs.InForce.{in_force_of}
use Rattle.inforce.specs.Hole.{hole_of}
use Rattle.std.specs.Prelude.{Option, Ok}

area_told : (g : Group) (a : Area) → Told (area_judged g a ≡ Ok tt) (refusal_of (area_judged g a))
unfolding area_judged
area_told g a = told_verdict verdicts (judged g) (judged_told g) (told_if verdicts (not (area_fits a)) 10 0 refl (told_accepted refl))

pub listed_told : (g : Group) (a : Area) → Told ((l : InForce) × (in_force_of g a ≡ Ok l)) (refusal_of (in_force_of g a))
unfolding in_force_of
listed_told g a = told_verdict results (area_judged g a) (area_told g a) (told_accepted (_, refl))

pub found_told : (g : Group) (a : Area) → Told ((h : Option Point) × (hole_of g a ≡ Ok h)) (refusal_of (hole_of g a))
unfolding hole_of
found_told g a = told_verdict results (area_judged g a) (area_told g a) (told_accepted (_, refl))
