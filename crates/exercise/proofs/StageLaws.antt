-- The refusals of a call for many points in their order, each exactly where those before it don't refuse.
use Prim.Native.Nat.{ℕ}
use mathlib.Core.Path.{◌≡◌, refl, ap}
use mathlib.Core.Bool.{Bool, true, false, not}
use Rattle.group.specs.declared.Group.{Group}
use Rattle.group.specs.declared.Refusal.{Refusal}
use Rattle.group.specs.Refusals.{refusal}
use Rattle.group.proofs.RefusalLaws.{if_here, if_past}
use Rattle.judge.specs.Judge.{judged}
use Rattle.lookup.specs.Lookup.{nodes_judged}
use Rattle.exercise.specs.Exercise.{many_judged, many_verdict}
use Rattle.std.specs.Prelude.{Ok, Err}

module _ (g : Group) (nodes : ℕ) (agree : Bool) where
  pub many_group : (r : Refusal) → judged g ≡ Err r → many_verdict g nodes agree ≡ Err r
  unfolding many_verdict
  many_group r e = rw e refl

  pub many_accepted : judged g ≡ Ok tt → many_verdict g nodes agree ≡ many_judged g nodes agree
  unfolding many_verdict
  many_accepted e = rw e refl

  pub many_12 : agree ≡ false → many_judged g nodes agree ≡ Err (refusal 12 0)
  unfolding many_judged
  many_12 e = if_here Err (not agree) 12 0 (nodes_judged g nodes) (ap not e)

  pub many_nodes : agree ≡ true → many_judged g nodes agree ≡ nodes_judged g nodes
  unfolding many_judged
  many_nodes e = if_past Err (not agree) 12 0 (nodes_judged g nodes) (ap not e)
