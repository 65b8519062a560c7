-- `many_words` meets its contract: an answer more in each turn, and the results as they were after a refusal.
use Prim.Native.Nat.{ℕ, ◌+◌, ◌<◌}
use mathlib.Core.Path.{◌≡◌, sym, ap, ◌∙◌, subst}
use mathlib.Core.List.{List, map}
use native.Mathlib.Numerals.{add-one}
use native.Mathlib.Omega.{arith}
use borrow.Author.Rules.{rules}
use borrow.Author.Tests.{eqb-true}
use lib.Dec.{eqb}
use lib.ListN.{length, get_or, set, length-map, get_or-map}
use Rattle.std.specs.Prelude.{Ok}
use Rattle.std.proofs.lemmas.Result.{err_from_is_err_and}
use mir.Syntax.{w64}
use mir.ValLaws.{to_z-of_z}
use Rattle.group.specs.declared.Position.{Position}
use Rattle.abi.specs.Abi.{group_of_words}
use Rattle.judge.specs.Judge.{judged}
use Rattle.lookup.specs.declared.Answer.{Answer}
use Rattle.exercise.specs.declared.Scale.{Scale}
use Rattle.exercise.specs.Exercise.{many_verdict, answer_at}
use Rattle.exercise.specs.Tables.{scale_for}
use Rattle.exercise.proofs.FilledLaws.{filled, filled_suc}
use Rattle.exercise.proofs.ScaleLaws.{scale_none, scale_same}
use Rattle.exercise.proofs.CallLaws.{call_judged, call_agree, call_ready, results_all, results_kept}
use Rattle.exercise.proofs.many_words.Goals as goal
use Rattle.exercise.proofs.many_words.Goals.{In_ok-judge_call}

-- the call is accepted
told : (c : In_ok-judge_call) → many_verdict (group_of_words c.args.words.now) (length c.args.nodes.now) (eqb (length c.args.points.now) (length c.args.results.now)) ≡ Ok tt
told c = c.in_ok-judge_call.ensures.0

judged_group : (c : In_ok-judge_call) → judged (group_of_words c.args.words.now) ≡ Ok tt
judged_group c = call_judged _ _ _ (told c)

as_long : (c : In_ok-judge_call) → length c.args.points.now ≡ length c.args.results.now
as_long c = eqb-true _ _ (call_agree _ _ _ (told c))

-- one more answer
written_more : (f : Position → Answer) (xs : List Position) (l ys : List Answer) (i : ℕ) (o : Position) (z : Answer)
    → l ≡ filled (map f xs) ys i → z ≡ f (get_or xs i o) → i < length xs → i < length ys → set l i z ≡ filled (map f xs) ys (i + 1)
written_more f xs l ys i o z e a h k =
    ap (λ (r : List Answer). set r i z) e
    ∙ ap (set (filled (map f xs) ys i) i) (a ∙ sym (get_or-map f xs i o))
    ∙ filled_suc (map f xs) ys i (f o) (omega (arith, length-map xs f)) k
    ∙ ap (filled (map f xs) ys) (sym (add-one i))

pub returns-in_err-judge_call : goal.returns-in_err-judge_call
returns-in_err-judge_call c =
    let g = group_of_words c.args.words.now in
    let p = err_from_is_err_and c.from_residual.result c.from_residual.ensures.1 in
    let e = c.in_err-judge_call.ensures in
    (rw (p.1, p.2) (sym e), results_kept g c.args.nodes.now c.args.points.now c.args.results.now _ e)

pub loop-i-init : goal.loop-i-init
loop-i-init c =
    let g = group_of_words c.args.words.now in
    record {
      written = search rules;
      scaled = subst (λ (z : Scale). z ≡ scale_for g z.day) (sym c.no_scale-scale.ensures) (scale_none g);
    }

pub scale_on-scale-requires : goal.scale_on-scale-requires
scale_on-scale-requires c = (judged_group (goal.at.scale_on-scale-requires c).In_ok-judge_call, c.loop-i.invariant.scaled)

pub look_one-requires : goal.look_one-requires
look_one-requires c =
    let g = group_of_words c.args.words.now in
    let q = goal.at.look_one-requires c in (
      call_ready g (length c.args.nodes.now) _ (told q.In_ok-judge_call) _ c.in_ok-judge_call.ensures.1,
      c.scale_on-scale.ensures ∙ ap (scale_for g) (to_z-of_z w64 _ (search rules)),
    )

pub bounds-results-i : goal.bounds-results-i
bounds-results-i c = omega (arith, as_long (goal.at.bounds-results-i c).In_ok-judge_call)

pub loop-i-preserved : goal.loop-i-preserved
loop-i-preserved c =
    let g = group_of_words c.args.words.now in
    let q = goal.at.loop-i-preserved c in
    let s = c.scale_on-scale.ensures in
    record {
      written = written_more (answer_at g c.args.nodes.now) c.args.points.now c.loop-i.results c.args.results.now c.loop-i.i _ c.look_one.result c.loop-i.invariant.written c.look_one.ensures (search rules) (omega (arith, as_long q.In_ok-judge_call));
      scaled = s ∙ scale_same g _ ∙ ap (λ (z : Scale). scale_for g z.day) (sym s);
    }

pub returns : goal.returns
returns c =
    let g = group_of_words c.args.words.now in
    let q = goal.at.returns c in
    let e : c.loop-i.i ≡ length c.args.points.now = omega arith in (
      sym (told q.In_ok-judge_call),
      c.loop-i.invariant.written
          ∙ ap (filled (map (answer_at g c.args.nodes.now) c.args.points.now) c.args.results.now) e
          ∙ results_all g c.args.nodes.now c.args.points.now c.args.results.now (told q.In_ok-judge_call),
    )
