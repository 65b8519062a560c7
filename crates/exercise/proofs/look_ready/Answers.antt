-- `look_ready` meets its contract: the tables say what the record says of a point.
use Prim.Native.Nat.{◌≤◌}
use mathlib.Core.Path.{◌≡◌, sym, ap, ◌∙◌, subst}
use mathlib.Core.Bool.{true}
use native.Mathlib.Omega.{arith}
use lib.IntN.{ℤ, nat_abs}
use lib.ListN.{length}
use mir.Syntax.{w64}
use mir.Val.{SFits, to_z, of_z}
use mir.ValLaws.{to_z-of_z}
use Rattle.group.specs.declared.Group.{Group}
use Rattle.group.specs.Numbers.{day_fits, factor_most}
use Rattle.abi.specs.Abi.{group_of_words}
use Rattle.judge.proofs.Accepted.{accepted, accepted_head}
use Rattle.day.specs.Day.{factor_of}
use Rattle.day.proofs.DayLaws.{factor_bound}
use Rattle.lookup.specs.Lookup.{LookupReady}
use Rattle.lookup.specs.Flat.{fix_ranked}
use Rattle.lookup.proofs.StageLaws.{day_told, looked_accepted, looked_6, looked_9, looked_on}
use Rattle.lookup.proofs.BridgeLaws.{ranked_laid, ranked_fix}
use Rattle.exercise.specs.declared.Scale.{Scale}
use Rattle.exercise.proofs.ScaleLaws.{scale_in}
use Rattle.exercise.proofs.TableLaws.{few_rows}
use borrow.Author.Rules.{rules}
use Rattle.exercise.proofs.look_ready.Goals as goal

pub returns-then-not-point_fits : goal.returns-then-not-point_fits
returns-then-not-point_fits c =
    let g : Group = group_of_words c.args.words.now in
    let a = c.args in
    sym
    (looked_accepted (g) a.nodes.now a.point a.scale.day c.requires.0.accepted
    ∙ looked_6 (g) a.nodes.now a.point a.scale.day (sym c.point_fits.ensures ∙ c.if-not-point_fits.true))

pub returns-then-not-day_fits : goal.returns-then-not-day_fits
returns-then-not-day_fits c =
    let g : Group = group_of_words c.args.words.now in
    let a = c.args in
    sym
    (looked_accepted (g) a.nodes.now a.point a.scale.day c.requires.0.accepted
    ∙ looked_9 (g) a.nodes.now a.point a.scale.day
    (sym c.point_fits.ensures ∙ c.if-not-point_fits.false)
    (day_told {t = a.scale.day} (search rules) c.day_fits.ensures ∙ c.if-not-day_fits.true))

pub look_ranked-requires : goal.look_ranked-requires
look_ranked-requires c =
    let g : Group = group_of_words c.args.words.now in
    let day_bits : SFits w64 c.args.scale.day = search rules in
    let day : day_fits c.args.scale.day ≡ true = day_told day_bits c.day_fits.ensures ∙ c.if-not-day_fits.false in
    let ready : LookupReady (g) (length c.args.nodes.now) c.args.point c.args.scale.day =
    record {
      accepted = c.requires.0.accepted;
      point = sym c.point_fits.ensures ∙ c.if-not-point_fits.false;
      day = day;
      ends = c.requires.0.ends;
    } in
    let factor : to_z w64 (of_z w64 c.args.scale.factor) ≡ factor_of (g).function (g).functions c.args.scale.day =
    to_z-of_z w64 c.args.scale.factor (search rules)
    ∙ ap (λ (s : Scale). s.factor) (c.requires.1 ∙ scale_in (g) c.args.scale.day day) in
    let a = c.args in let t = c.requires.0.tabled in let l = a.tables.now in let e = c.requires.0.accepted in let m = few_rows (g) l e t in (
      rw c.parameter_count.ensures
          (ranked_laid (g) a.nodes.now a.point a.scale.day (ready) t.sides t.ranks l.frames t.flat c.lat_from_least-y.ensures t.room
          l.rows l.owners l.shifts l.count t.rows c.lon_from_least-x.ensures
          (omega (arith, m)) (omega (arith, m)) (omega (arith, m)) (omega (arith, (accepted_head (g) e).grids))),
      subst (λ (z : ℤ). nat_abs z ≤ factor_most) (sym (factor))
          (factor_bound (g).function a.scale.day (g).functions (accepted_head (g) e).functions (accepted (g) e).function),
    )

pub returns : goal.returns
returns c =
    let g : Group = group_of_words c.args.words.now in
    let day_bits : SFits w64 c.args.scale.day = search rules in
    let day : day_fits c.args.scale.day ≡ true = day_told day_bits c.day_fits.ensures ∙ c.if-not-day_fits.false in
    let ready : LookupReady (g) (length c.args.nodes.now) c.args.point c.args.scale.day =
    record {
      accepted = c.requires.0.accepted;
      point = sym c.point_fits.ensures ∙ c.if-not-point_fits.false;
      day = day;
      ends = c.requires.0.ends;
    } in
    let factor : to_z w64 (of_z w64 c.args.scale.factor) ≡ factor_of (g).function (g).functions c.args.scale.day =
    to_z-of_z w64 c.args.scale.factor (search rules)
    ∙ ap (λ (s : Scale). s.factor) (c.requires.1 ∙ scale_in (g) c.args.scale.day day) in
    let a = c.args in let t = c.requires.0.tabled in let l = a.tables.now in
    let x = c.lon_from_least-x.result in let y = c.lat_from_least-y.result in
    c.look_ranked.ensures
    ∙ (λ i. fix_ranked l.rows l.owners l.shifts l.frames l.count (c.parameter_count.ensures i) a.nodes.now (to_z w64 (of_z w64 a.scale.factor)) x y)
    ∙ ranked_fix (g) a.nodes.now a.point a.scale.day (ready) t.sides t.ranks l.frames t.flat c.lat_from_least-y.ensures t.room
    l.rows l.owners l.shifts l.count t.rows c.lon_from_least-x.ensures (factor)
    ∙ sym (looked_accepted (g) a.nodes.now a.point a.scale.day c.requires.0.accepted ∙ looked_on (g) a.nodes.now a.point a.scale.day (ready))
