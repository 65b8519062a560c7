-- What a parameter's result comes from, as numbers of the machine.
use Prim.Native.Nat.{ℕ, ◌≤◌, ◌<◌}
use mathlib.Core.Path.{◌≡◌, refl, sym, ap, ◌∙◌, subst}
use mathlib.Core.Bool.{false}
use mathlib.Core.List.{List, [], ◌∷◌}
use native.Mathlib.Omega.{arith}
use borrow.Author.Tests.{lt-ltb, le-ltb}
use lib.IntN.{ℤ, pos, nat_abs}
use mir.Syntax.{w32, w64}
use mir.Val.{SFits, to_z, of_z}
use mir.ValLaws.{to_z_pos, to_z-of_z}
use Rattle.group.specs.Numbers.{value_most, factor_most}
use Rattle.cell.specs.declared.Weights.{Weights}
use Rattle.cell.specs.declared.Corners.{Corners}
use Rattle.cell.specs.declared.TwoParts.{TwoParts}
use Rattle.cell.specs.Cell.{is_beyond, weighted_sum, value_of}
use Rattle.cell.specs.Sizes.{Weighed}
use Rattle.cell.specs.TwoParts.{high_part, low_part, parts_of}
use Rattle.cell.proofs.WideLaws.{wide_same}
use Rattle.cell.proofs.SumLaws.{low_below}
use Rattle.day.specs.Day.{result_of}
use Rattle.fix.specs.declared.Offset.{Offset}
use Rattle.fix.specs.Fix.{cell_of, corners_of, corner_some, value_in}
use Rattle.fix.specs.Inside.{InsideGrid}
use Rattle.fix.proofs.OffsetLaws.{cell_weighed, value_most_lem}
use Rattle.explain.specs.Explain.{worked_in, worked_numbers}

pub weighed : {l : Offset} {w : Weights} → InsideGrid l → w ≡ (cell_of l).weights → Weighed w
weighed h e = subst Weighed (sym e) (cell_weighed h)

module _ (l : Offset) (nodes : List ℤ) (factor : ℤ) (p : ℕ) where
  pub worked_none : l.np ≤ p
      → pos 0 ∷ pos 0 ∷ pos 0 ∷ pos 0 ∷ pos 0 ∷ pos 0 ∷ pos 0 ∷ pos 0 ∷ [] ≡ worked_numbers (worked_in l nodes factor p)
  unfolding worked_numbers worked_in high_part low_part
  worked_none h = rw (le-ltb p l.np h) refl

  -- by the weights w and the corners v that code has
  module _ {w : Weights} {v : Corners} (h : InsideGrid l) (ew : w ≡ (cell_of l).weights) (ev : v ≡ corners_of l nodes p) where
    value_is : {z : ℤ} → z ≡ value_of w v → z ≡ value_in l nodes p
    unfolding value_in
    value_is e = e ∙ (λ i. value_of (ew i) (ev i))

    module _ (n : p < l.np) {z : ℤ} (ez : z ≡ value_of w v) (fz : SFits w64 z) where
      pub result_sizes : corner_some is_beyond l nodes ≡ false → nat_abs factor ≤ factor_most → SFits w64 factor
          → (nat_abs (to_z w64 (of_z w64 z)) ≤ value_most) × (nat_abs (to_z w64 (of_z w64 factor)) ≤ factor_most)
      result_sizes s m f = (
        subst (λ (y : ℤ). nat_abs y ≤ value_most) (sym (to_z-of_z w64 z fz ∙ value_is ez)) (value_most_lem h nodes s p n),
        subst (λ (y : ℤ). nat_abs y ≤ factor_most) (sym (to_z-of_z w64 factor f)) m,
      )

      pub worked_told : {s : TwoParts} {r : ℤ} → SFits w32 v.v00 → SFits w32 v.v10 → SFits w32 v.v01 → SFits w32 v.v11
          → s ≡ parts_of (weighted_sum w v) → SFits w64 s.high → r ≡ result_of (to_z w64 (of_z w64 z)) (to_z w64 (of_z w64 factor)) → SFits w64 r → SFits w64 factor
          → to_z w64 (of_z w64 (to_z w32 (of_z w32 v.v00))) ∷ to_z w64 (of_z w64 (to_z w32 (of_z w32 v.v10)))
          ∷ to_z w64 (of_z w64 (to_z w32 (of_z w32 v.v01))) ∷ to_z w64 (of_z w64 (to_z w32 (of_z w32 v.v11)))
          ∷ to_z w64 (of_z w64 s.high) ∷ to_z w64 s.low ∷ to_z w64 (of_z w64 z) ∷ to_z w64 (of_z w64 r) ∷ []
          ≡ worked_numbers (worked_in l nodes factor p)
      unfolding worked_numbers worked_in
      worked_told {s} {r} a b c d es fs er fr ff =
          rw (lt-ltb p l.np n)
          (λ i.
          (wide_same v.v00 a ∙ ap (λ (u : Corners). u.v00) ev) i ∷ (wide_same v.v10 b ∙ ap (λ (u : Corners). u.v10) ev) i
          ∷ (wide_same v.v01 c ∙ ap (λ (u : Corners). u.v01) ev) i ∷ (wide_same v.v11 d ∙ ap (λ (u : Corners). u.v11) ev) i
          ∷ (to_z-of_z w64 s.high fs ∙ ap (λ (u : TwoParts). u.high) es ∙ ap high_part sum) i
          ∷ (low ∙ ap (λ (u : TwoParts). pos u.low) es ∙ ap (λ (u : ℤ). pos (low_part u)) sum) i
          ∷ (to_z-of_z w64 z fz ∙ value_is ez) i ∷ (to_z-of_z w64 r fr ∙ er ∙ (λ k. result_of ((to_z-of_z w64 z fz ∙ value_is ez) k) (to_z-of_z w64 factor ff k))) i ∷ [])
        where
          sum : weighted_sum w v ≡ weighted_sum (cell_of l).weights (corners_of l nodes p)
          sum = λ i. weighted_sum (ew i) (ev i)

          low : to_z w64 s.low ≡ pos s.low
          low = to_z_pos w64 s.low (let e = ap (λ (u : TwoParts). u.low) es in let b = low_below (weighted_sum w v) in omega arith)
