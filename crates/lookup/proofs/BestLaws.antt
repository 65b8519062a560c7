-- The choice in an accepted group at an admitted point is its best grid, of which there is one.
use Prim.Native.Nat.{ℕ, suc}
use mathlib.Core.Path.{◌≡◌, sym}
use native.Mathlib.Omega.{arith}
use native.Mathlib.Decide.{dec_lt}
use mathlib.Core.Bool.{true}
use Rattle.numbers.proofs.Bools.{and_left, and_right}
use Rattle.group.specs.Numbers.{lon_admitted, lat_admitted}
use Rattle.group.specs.declared.Group.{Group}
use Rattle.group.specs.declared.Point.{Point}
use Rattle.group.specs.Record.{grid_at}
use Rattle.extent.specs.Extent.{holds}
use Rattle.judge.specs.Judge.{judged}
use Rattle.judge.proofs.Order5.{no_shared_point}
use Rattle.ingroup.specs.InGroup.{chosen_in}
use Rattle.choice.proofs.ChoiceLaws.{chosen_best}
use Rattle.lookup.specs.Lookup.{point_fits}
use Rattle.lookup.specs.Demand2.{BestGrid}
use Rattle.std.specs.Prelude.{Ok}

module _ (g : Group) (p : Point) where
  pub chosen_is_best : judged g ≡ Ok tt → point_fits p ≡ true → (k : ℕ) → chosen_in g p.lon.0 p.lat.0 ≡ suc k → BestGrid g p k
  unfolding chosen_in
  chosen_is_best a f k c =
      let b = chosen_best (λ i. holds (grid_at g i) p.lon.0 p.lat.0) (λ i. (grid_at g i).rank) g.grids k c in
      record {
        among = b.among;
        held = b.inside;
        best = λ j l h d.
            elim (dec_lt (grid_at g k).rank (grid_at g j).rank) [
              | yes lt ↦ lt
              | no ge ↦
                  let s : (grid_at g k).rank ≡ (grid_at g j).rank = omega (arith, b.lowest j l h) in
                  elim (dec_lt j k) [
                    | yes lt ↦ absurd (omega (arith, b.earliest j lt h))
                    | no ge₂ ↦
                        elim (dec_lt k j) [
                          | yes lt ↦
                              absurd (no_shared_point g a k j lt l
                              (s, record { x = p.lon.0; y = p.lat.0; lon = and_left (lon_admitted p.lon.0) (lat_admitted p.lat.0) f; lat = and_right (lon_admitted p.lon.0) (lat_admitted p.lat.0) f; first = b.inside; second = h }))
                          | no ge₃ ↦ absurd (d (omega arith))
                        ]
                  ]
            ];
      }

  pub one_best : (j k : ℕ) → BestGrid g p j → BestGrid g p k → j ≡ k
  one_best j k a b =
      elim (dec_lt j k) [
        | yes lt ↦ absurd (apart (λ e. omega arith))
        | no ge ↦ elim (dec_lt k j) [ yes lt ↦ absurd (apart (λ e. omega arith)) | no ge₂ ↦ omega arith ]
      ]
    where
      apart : (j ≡ k → ⊥) → ⊥
      apart d = omega (arith, a.best k b.among b.held (λ e. d (sym e)), b.best j a.among a.held d)
