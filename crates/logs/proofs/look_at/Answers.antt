-- `look_at` meets its contract: the tables say what the record says of a point.
use Prim.Native.Nat.{ℕ, ◌≤◌}
use mathlib.Core.Path.{◌≡◌, sym, ap, ◌∙◌, subst}
use mathlib.Core.Bool.{true}
use native.Mathlib.Omega.{arith}
use borrow.Author.Rules.{rules}
use lib.IntN.{ℤ, nat_abs}
use lib.ListN.{length}
use mir.Syntax.{w64}
use mir.Val.{to_z, of_z}
use mir.ValLaws.{to_z-of_z}
use Rattle.std.specs.Prelude.{Option}
use Rattle.group.specs.Numbers.{day_fits, factor_most}
use Rattle.extent.specs.Sides.{lon_from_least, lat_from_least}
use Rattle.abi.specs.Abi.{group_of_words}
use Rattle.judge.proofs.Accepted.{accepted, accepted_head}
use Rattle.day.specs.Day.{factor_of}
use Rattle.day.proofs.DayLaws.{factor_bound}
use Rattle.choice.specs.declared.Holder.{Holder}
use Rattle.lookup.specs.Lookup.{LookupReady}
use Rattle.lookup.specs.Flat.{fix_held, HeldChosen, LaidRows}
use Rattle.lookup.proofs.StageLaws.{day_told, looked_accepted, looked_6, looked_9, looked_on}
use Rattle.lookup.proofs.BridgeLaws.{ranked_laid, ranked_fix}
use Rattle.exercise.specs.declared.Scale.{Scale}
use Rattle.exercise.proofs.ScaleLaws.{scale_in}
use Rattle.exercise.proofs.TableLaws.{few_rows}
use Rattle.logs.proofs.look_at.Goals as goal
use Rattle.logs.proofs.look_at.Goals.{Else-not-day_fits}

day : (c : Else-not-day_fits) → day_fits c.args.scale.day ≡ true
day c = day_told {t = c.args.scale.day} (search rules) c.day_fits.ensures ∙ c.if-not-day_fits.false

ready : (c : Else-not-day_fits) → LookupReady (group_of_words c.args.words.now) (length c.args.nodes.now) c.args.point c.args.scale.day
ready c =
    record {
      accepted = c.requires.call.accepted;
      point = sym c.point_fits.ensures ∙ c.if-not-point_fits.false;
      day = day c;
      ends = c.requires.call.ends;
    }

-- the factor of the scale, which comes by way of its bits, is the day's
factor : (c : Else-not-day_fits) → to_z w64 (of_z w64 c.args.scale.factor) ≡ factor_of (group_of_words c.args.words.now).function (group_of_words c.args.words.now).functions c.args.scale.day
factor c =
    to_z-of_z w64 c.args.scale.factor (search rules)
    ∙ ap (λ (s : Scale). s.factor) (c.requires.scale ∙ scale_in (group_of_words c.args.words.now) c.args.scale.day (day c))

-- the rows of the tables, seen from the point
laid : (c : Else-not-day_fits) {x y : ℕ} → x ≡ lon_from_least c.args.point.lon.0 → y ≡ lat_from_least c.args.point.lat.0
    → LaidRows c.args.tables.now.rows c.args.tables.now.owners c.args.tables.now.shifts c.args.tables.now.frames c.args.tables.now.count (group_of_words c.args.words.now).parameters (length c.args.nodes.now) x y
laid c ex ey =
    let g = group_of_words c.args.words.now in let l = c.args.tables.now in
    let e = c.requires.call.accepted in let t = c.requires.call.tabled in let m = few_rows g l e t in
    ranked_laid g c.args.nodes.now c.args.point c.args.scale.day (ready c) t.sides t.ranks l.frames t.flat ey t.room l.rows l.owners l.shifts l.count t.rows ex
    (omega (arith, m)) (omega (arith, m)) (omega (arith, m)) (omega (arith, (accepted_head g e).grids))

pub returns-then-not-point_fits : goal.returns-then-not-point_fits
returns-then-not-point_fits c =
    let g = group_of_words c.args.words.now in let a = c.args in
    sym
    (looked_accepted g a.nodes.now a.point a.scale.day c.requires.call.accepted
    ∙ looked_6 g a.nodes.now a.point a.scale.day (sym c.point_fits.ensures ∙ c.if-not-point_fits.true))

pub returns-then-not-day_fits : goal.returns-then-not-day_fits
returns-then-not-day_fits c =
    let g = group_of_words c.args.words.now in let a = c.args in
    sym
    (looked_accepted g a.nodes.now a.point a.scale.day c.requires.call.accepted
    ∙ looked_9 g a.nodes.now a.point a.scale.day
    (sym c.point_fits.ensures ∙ c.if-not-point_fits.false)
    (day_told {t = a.scale.day} (search rules) c.day_fits.ensures ∙ c.if-not-day_fits.true))

pub first_holder-held-requires : goal.first_holder-held-requires
first_holder-held-requires c =
    let m = few_rows (group_of_words c.args.words.now) c.args.tables.now c.requires.call.accepted c.requires.call.tabled in
    (omega (arith, m), omega (arith, m), omega (arith, m))

pub fix_held-requires : goal.fix_held-requires
fix_held-requires c =
    let q = (goal.at.fix_held-requires c).Else-not-day_fits in
    let a = c.args in let g = group_of_words a.words.now in let e = c.requires.call.accepted in (
      rw c.parameter_count-np.ensures
          (subst (λ (h : Option Holder). HeldChosen a.tables.now.frames h g.parameters (length a.nodes.now) c.lon_from_least-x.result c.lat_from_least-y.result)
          (sym c.first_holder-held.ensures) (laid q c.lon_from_least-x.ensures c.lat_from_least-y.ensures).ready),
      subst (λ (z : ℤ). nat_abs z ≤ factor_most) (sym (factor q))
          (factor_bound g.function a.scale.day g.functions (accepted_head g e).functions (accepted g e).function),
    )

pub returns : goal.returns
returns c =
    let q = (goal.at.returns c).Else-not-day_fits in
    let a = c.args in let g = group_of_words a.words.now in let l = a.tables.now in let t = c.requires.call.tabled in
    c.fix_held.ensures
    ∙ (λ i. fix_held l.frames (c.first_holder-held.ensures i) (c.parameter_count-np.ensures i) a.nodes.now (to_z w64 (of_z w64 a.scale.factor)) c.lon_from_least-x.result c.lat_from_least-y.result)
    ∙ ranked_fix g a.nodes.now a.point a.scale.day (ready q) t.sides t.ranks l.frames t.flat c.lat_from_least-y.ensures t.room
    l.rows l.owners l.shifts l.count t.rows c.lon_from_least-x.ensures (factor q)
    ∙ sym (looked_accepted g a.nodes.now a.point a.scale.day c.requires.call.accepted ∙ looked_on g a.nodes.now a.point a.scale.day (ready q))
