-- `columns_words` meets its contract: the numbers of an answer more in each turn, and the results as they were after a refusal.
use Prim.Native.Nat.{ℕ, ◌+◌, ◌*◌}
use mathlib.Core.Path.{◌≡◌, refl, sym, ap, ◌∙◌, subst}
use native.Mathlib.Omega.{arith}
use borrow.Author.Rules.{rules}
use lib.ListN.{length}
use lib.Seq.{sets}
use Rattle.std.specs.Prelude.{Ok}
use Rattle.std.proofs.lemmas.Result.{err_from_is_err_and}
use mir.Syntax.{w64}
use mir.Val.{to_z, of_z}
use mir.ValLaws.{to_z-of_z}
use Rattle.group.specs.declared.Group.{Group}
use Rattle.abi.specs.Abi.{group_of_words, number_at}
use Rattle.abi.proofs.ListLaws.{run_none, run_length, run_more, run_all}
use Rattle.exercise.specs.Exercise.{many_verdict, answer_words, answer_numbers, answer_at, columns_agree, position_at}
use Rattle.judge.specs.Judge.{judged}
use Rattle.exercise.specs.declared.Scale.{Scale}
use Rattle.exercise.specs.Tables.{scale_for, stored_numbers}
use Rattle.exercise.proofs.ScaleLaws.{scale_none, scale_same}
use Rattle.exercise.proofs.CallLaws.{call_judged, call_agree, call_ends, call_ready}
use Rattle.exercise.proofs.SmallLaws.{numbers_stored}
use Rattle.exercise.proofs.ColumnLaws.{columns_lengths, columns_all, columns_kept}
use Rattle.exercise.proofs.columns_words.Goals as goal
use Rattle.exercise.proofs.columns_words.Goals.{In_ok-judge_call}

-- the call is accepted
told : (c : In_ok-judge_call) → many_verdict (group_of_words c.args.words.now) (length c.args.nodes.now) (columns_agree (length c.args.lons.now) (length c.args.lats.now) (length c.args.days.now) (length c.args.results.now)) ≡ Ok tt
told c = sym (ap (many_verdict (group_of_words c.args.words.now) (length c.args.nodes.now)) c.columns_agree-agree.ensures) ∙ c.in_ok-judge_call.ensures.0

judged_group : (c : In_ok-judge_call) → judged (group_of_words c.args.words.now) ≡ Ok tt
judged_group c = call_judged _ _ _ (told c)

as_long : (c : In_ok-judge_call) → (length c.args.lats.now ≡ length c.args.lons.now) × (length c.args.days.now ≡ length c.args.lons.now) × (length c.args.results.now ≡ length c.args.lons.now * answer_words)
as_long c = columns_lengths _ _ _ _ (call_agree _ _ _ (told c))

same : (k : ℕ) → k ≡ k + 0
same k = omega arith

pub returns-in_err-judge_call : goal.returns-in_err-judge_call
returns-in_err-judge_call c =
    let g = group_of_words c.args.words.now in
    let a = c.args in
    let p = err_from_is_err_and c.from_residual.result c.from_residual.ensures.1 in
    let e = sym (ap (many_verdict g (length a.nodes.now)) c.columns_agree-agree.ensures) ∙ c.in_err-judge_call.ensures in
    (rw (p.1, p.2) (sym e), columns_kept g a.nodes.now a.lons.now a.lats.now a.days.now a.results.now _ e)

pub loop-i-init : goal.loop-i-init
loop-i-init c =
    let g = group_of_words c.args.words.now in
    record {
      run = run_none _ _ _ 0;
      scaled = subst (λ (z : Scale). z ≡ scale_for g z.day) (sym c.no_scale-scale.ensures) (scale_none g);
    }

pub bounds-days-i : goal.bounds-days-i
bounds-days-i c = omega (arith, (as_long (goal.at.bounds-days-i c).In_ok-judge_call).1)

pub bounds-lats-i : goal.bounds-lats-i
bounds-lats-i c = omega (arith, (as_long (goal.at.bounds-lats-i c).In_ok-judge_call).0)

pub scale_on-scale-requires : goal.scale_on-scale-requires
scale_on-scale-requires c = (judged_group (goal.at.scale_on-scale-requires c).In_ok-judge_call, c.loop-i.invariant.scaled)

pub look_one-requires : goal.look_one-requires
look_one-requires c =
    let q = goal.at.look_one-requires c in
    (call_ready _ _ _ (told q.In_ok-judge_call) _ c.in_ok-judge_call.ensures.1, c.scale_on-scale.ensures)

pub store_answer-requires : goal.store_answer-requires
store_answer-requires c =
    let e = run_length _ _ _ 0 _ _ c.loop-i.invariant.run in
    omega (arith, e, (as_long (goal.at.store_answer-requires c).In_ok-judge_call).2)

pub loop-i-preserved : goal.loop-i-preserved
loop-i-preserved c =
    let g : Group = group_of_words c.args.words.now in
    let q = goal.at.loop-i-preserved c in
    let a = c.args in let i = c.loop-i.i in let s = c.scale_on-scale.ensures in
    let lon : to_z w64 (of_z w64 (number_at a.lons.now i)) ≡ number_at a.lons.now i = to_z-of_z w64 _ (search rules) in
    let lat : to_z w64 (of_z w64 (number_at a.lats.now i)) ≡ number_at a.lats.now i = to_z-of_z w64 _ (search rules) in
    let day : to_z w64 (of_z w64 (number_at a.days.now i)) ≡ number_at a.days.now i = to_z-of_z w64 _ (search rules) in
    record {
      run =
          run_more (λ k. answer_numbers (answer_at g a.nodes.now (position_at a.lons.now a.lats.now a.days.now k))) answer_words _ _ 0 i c.loop-i.results (stored_numbers c.look_one.result) _
          (λ k. refl) c.loop-i.invariant.run (search rules)
          (c.store_answer.ensures ∙ ap (λ (k : ℕ). sets c.loop-i.results k (stored_numbers c.look_one.result)) (same (i * answer_words)))
          (ap stored_numbers c.look_one.ensures ∙ numbers_stored g a.nodes.now (judged_group q.In_ok-judge_call) (call_ends _ _ _ (told q.In_ok-judge_call)) _
          ∙ (λ j. answer_numbers (answer_at g a.nodes.now (record { lon = record { 0 = lon j }; lat = record { 0 = lat j }; day = day j }))));
      scaled = s ∙ scale_same g _ ∙ ap (λ (z : Scale). scale_for g z.day) (sym s);
    }

pub shape_of-results : goal.shape_of-results
shape_of-results c = run_length _ _ _ 0 _ _ c.loop-i.invariant.run

pub returns : goal.returns
returns c =
    let g = group_of_words c.args.words.now in
    let q = goal.at.returns c in
    let a = c.args in (
      sym (told q.In_ok-judge_call),
      run_all _ _ _ 0 _ _ c.loop-i.invariant.run c.loop-i-test.false ∙ columns_all g a.nodes.now a.lons.now a.lats.now a.days.now a.results.now (told q.In_ok-judge_call),
    )
