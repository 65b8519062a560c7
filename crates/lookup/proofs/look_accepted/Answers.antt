-- `look_accepted` meets its contract.
use mathlib.Core.Path.{◌≡◌, sym, ◌∙◌, subst}
use mathlib.Core.Bool.{true}
use lib.IntN.{ℤ}
use lib.ListN.{length}
use mir.Syntax.{w64}
use Rattle.std.proofs.lemmas.Result.{err_from_is_err_and}
use mir.ValLaws.{to_z-of_z}
use Rattle.group.specs.Numbers.{day_fits}
use Rattle.group.specs.Record.{grid_at}
use Rattle.abi.specs.Abi.{group_of_words}
use Rattle.day.specs.Day.{factor_of}
use Rattle.ingroup.specs.InGroup.{chosen_in}
use Rattle.lookup.specs.Lookup.{point_fits, offset_of, fix_at, LookupReady}
use Rattle.lookup.proofs.StageLaws.{day_told, nodes_accepted, looked_6, looked_9, looked_13, looked_on}
use Rattle.lookup.proofs.look_accepted.Goals as goal
use Rattle.lookup.proofs.look_accepted.Goals.{Else-not-day_fits, In_ok-judge_nodes}

-- behind the tests
point : (c : Else-not-day_fits) → point_fits c.args.point ≡ true
point c = sym c.point_fits.ensures ∙ c.if-not-point_fits.false

day : (c : Else-not-day_fits) → day_fits c.args.day ≡ true
day c = day_told c.ranges.day c.day_fits.ensures ∙ c.if-not-day_fits.false

ready : (c : In_ok-judge_nodes) → point_fits c.args.point ≡ true → day_fits c.args.day ≡ true → LookupReady (group_of_words c.args.words.now) (length c.args.nodes.now) c.args.point c.args.day
ready c p d =
    record {
      accepted = c.requires.0;
      point = p;
      day = d;
      ends = nodes_accepted (group_of_words c.args.words.now) (length c.args.nodes.now) (sym c.in_ok-judge_nodes.ensures);
    }

pub returns-then-not-point_fits : goal.returns-then-not-point_fits
returns-then-not-point_fits c =
    sym (looked_6 (group_of_words c.args.words.now) c.args.nodes.now c.args.point c.args.day (sym c.point_fits.ensures ∙ c.if-not-point_fits.true))

pub returns-then-not-day_fits : goal.returns-then-not-day_fits
returns-then-not-day_fits c =
    sym
    (looked_9 (group_of_words c.args.words.now) c.args.nodes.now c.args.point c.args.day
    (sym c.point_fits.ensures ∙ c.if-not-point_fits.false)
    (day_told c.ranges.day c.day_fits.ensures ∙ c.if-not-day_fits.true))

pub judge_nodes-requires : goal.judge_nodes-requires
judge_nodes-requires c = (c.requires.0, c.requires.1.flat.framed, c.requires.1.room.frames_room)

pub look_in-requires : goal.look_in-requires
look_in-requires c =
    let q = goal.at.look_in-requires c in (
      subst (λ (z : ℤ). LookupReady (group_of_words c.args.words.now) (length c.args.nodes.now) c.args.point z) (sym (to_z-of_z w64 c.args.day c.ranges.day))
          (ready q.In_ok-judge_nodes (point q.Else-not-day_fits) (day q.Else-not-day_fits)),
      c.requires.1,
    )

pub returns-in_err-judge_nodes : goal.returns-in_err-judge_nodes
returns-in_err-judge_nodes c =
    let a = c.args in let q = goal.at.returns-in_err-judge_nodes c in
    let p = err_from_is_err_and c.from_residual.result c.from_residual.ensures.1 in
    rw (p.1, p.2)
    (sym (looked_13 (group_of_words a.words.now) a.nodes.now a.point a.day (point q.Else-not-day_fits) (day q.Else-not-day_fits) _ (sym c.in_err-judge_nodes.ensures)))

pub returns : goal.returns
returns c =
    let g = group_of_words c.args.words.now in let q = goal.at.returns c in
    c.look_in.ensures
    ∙ (λ i. fix_at (chosen_in g c.args.point.lon.0 c.args.point.lat.0) (λ k. offset_of (grid_at g k) g.parameters c.args.point) c.args.nodes.now (factor_of g.function g.functions (to_z-of_z w64 c.args.day c.ranges.day i)))
    ∙ sym (looked_on g c.args.nodes.now c.args.point c.args.day (ready q.In_ok-judge_nodes (point q.Else-not-day_fits) (day q.Else-not-day_fits)))
