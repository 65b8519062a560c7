-- `explain_words` meets its contract.
use mathlib.Core.Path.{sym, ap, ◌∙◌}
use native.Mathlib.Omega.{arith}
use mir.Syntax.{w64}
use mir.ValLaws.{to_z-of_z}
use Rattle.std.proofs.lemmas.Result.{err_from_is_err_and}
use Rattle.abi.specs.Abi.{group_of_words}
use Rattle.lookup.specs.Lookup.{looked_in}
use Rattle.lookup.proofs.StageLaws.{looked_group, looked_accepted}
use Rattle.explain.specs.Explain.{explained_by}
use Rattle.explain.proofs.ExplainLaws.{by_refusal}
use Rattle.explain.proofs.explain_words.Goals as goal

pub explain_accepted-requires : goal.explain_accepted-requires
explain_accepted-requires c =
    let j = c.judge_into in let v = sym c.in_ok-judge_into.ensures.0 in (
      v,
      record {
        flat = j.ensures.1 (j.ensures.0 ∙ v);
        room = record {
          room = record { few = omega arith; sides_room = omega (arith, j.auto.sides); ranks_room = omega (arith, j.auto.ranks) };
          frames_room = omega (arith, j.auto.frames);
        };
      },
    )

pub returns-in_err-judge_into : goal.returns-in_err-judge_into
returns-in_err-judge_into c =
    let a = c.args in let g = group_of_words a.words.now in
    let p = err_from_is_err_and c.from_residual.result c.from_residual.ensures.1 in
    rw (p.1, p.2) (by_refusal g a.nodes.now a.point a.day _ (looked_group g a.nodes.now a.point a.day _ (sym c.in_err-judge_into.ensures.0)))

pub returns : goal.returns
returns c =
    let a = c.args in let g = group_of_words a.words.now in let day = to_z-of_z w64 a.day c.ranges.day in
    c.explain_accepted.ensures
    ∙ (λ i. explained_by g a.nodes.now a.point (day i) (looked_in g a.nodes.now a.point (day i)))
    ∙ ap (explained_by g a.nodes.now a.point a.day) (sym (looked_accepted g a.nodes.now a.point a.day (sym c.in_ok-judge_into.ensures.0)))
