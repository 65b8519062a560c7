-- `look_words` meets its contract.
use mathlib.Core.Path.{sym, ap, ◌∙◌}
use native.Mathlib.Omega.{arith}
use mir.Syntax.{w64}
use Rattle.std.proofs.lemmas.Result.{err_from_is_err_and}
use mir.ValLaws.{to_z-of_z}
use Rattle.abi.specs.Abi.{group_of_words}
use Rattle.lookup.specs.Lookup.{looked_in}
use Rattle.lookup.proofs.StageLaws.{looked_group, looked_accepted}
use Rattle.lookup.proofs.look_words.Goals as goal

pub look_accepted-requires : goal.look_accepted-requires
look_accepted-requires c =
    let j = c.judge_into in let v = sym c.in_ok-judge_into.ensures.0 in (
      v,
      record {
        flat = j.ensures.1 (j.ensures.0 ∙ v);
        room = record {
          room = record { few = omega arith; sides_room = omega (arith, j.auto.sides); ranks_room = omega (arith, j.auto.ranks) };
          frames_room = omega (arith, j.auto.frames);
        };
      },
    )

pub returns-in_err-judge_into : goal.returns-in_err-judge_into
returns-in_err-judge_into c =
    let a = c.args in
    let p = err_from_is_err_and c.from_residual.result c.from_residual.ensures.1 in
    rw (p.1, p.2) (sym (looked_group (group_of_words a.words.now) a.nodes.now a.point a.day _ (sym c.in_err-judge_into.ensures.0)))

pub returns : goal.returns
returns c =
    let a = c.args in
    c.look_accepted.ensures
    ∙ ap (looked_in (group_of_words a.words.now) a.nodes.now a.point) (to_z-of_z w64 a.day c.ranges.day)
    ∙ sym (looked_accepted (group_of_words a.words.now) a.nodes.now a.point a.day (sym c.in_ok-judge_into.ensures.0))
