-- Order 5 holds of areas.
use mathlib.Core.Path.{◌≡◌, sym, ◌∙◌, subst}
use Rattle.std.specs.Prelude.{Some}
use mathlib.Core.Bool.{true}
use Rattle.numbers.proofs.Bools.{both}
use Rattle.group.specs.declared.Group.{Group}
use Rattle.group.specs.Numbers.{lon_most, lat_most}
use Rattle.inforce.specs.declared.Area.{Area}
use Rattle.inforce.specs.Area.{area_fits}
use Rattle.inforce.specs.Order5.{AreaLimits, AdmittedExactly, Own}
use Rattle.group.proofs.RefusalLaws.{ok_same}
use Rattle.inforce.specs.Demand3.{GridsInForce}
use Rattle.inforce.proofs.AreaLaws.{sides_told, told_sides, lon_fits_lem, lat_fits_lem}
use Rattle.inforce.proofs.Demand3.{demand_3}
use Rattle.inforce.proofs.Order2.{order_2}

module _ (a : Area) where
  limits : area_fits a ≡ true → AreaLimits a
  limits f =
      let x = sides_told lon_most a.lon.west.0 a.lon.east.0 (lon_fits_lem a f) in
      let y = sides_told lat_most a.lat.south.0 a.lat.north.0 (lat_fits_lem a f) in
      record { west = x.0; east = x.1; eastward = x.2; south = y.0; north = y.1; northward = y.2 }

  fits : AreaLimits a → area_fits a ≡ true
  unfolding area_fits
  fits l = both (told_sides lon_most _ _ l.west l.east l.eastward) (told_sides lat_most _ _ l.south l.north l.northward)

  pub admitted_exactly : AdmittedExactly a
  admitted_exactly = (limits, fits)

pub own_longitudes : (g : Group) (a : Area) → Own g a
own_longitudes g a e f =
    let d = demand_3 g a e f in let o = order_2 g a e f in
    record {
      entry = λ l q i h. ((subst (GridsInForce g a) (ok_same d.0 l (sym d.1 ∙ q)) d.2).placed i h).first.inside;
      hole = λ p q. (o.2.placed p (ok_same o.0 (Some p) (sym o.1 ∙ q))).inside;
    }
