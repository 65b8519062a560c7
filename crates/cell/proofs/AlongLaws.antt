-- The cell of a point along an axis: its index is never above count − 2, and the rest is at most a spacing, also at the far edge.
use Prim.Native.Nat.{ℕ, ◌+◌, ◌-◌, ◌*◌, ◌/◌, ◌≤◌, ◌<◌, min}
use mathlib.Core.Path.{◌≡◌, refl, ap, ◌∙◌}
use mathlib.Core.Logic.{◌⊎◌, inl, inr}
use native.Mathlib.Nat.{mul-le-mul_right, suc-mul, div-add-mod', mod-lt, mul-div_cancel}
use native.Mathlib.Decide.{dec_le}
use native.Mathlib.Omega.{arith}
use Rattle.cell.specs.Cell.{cell_index, cell_along}

module _ (d s n : ℕ) where
  pub index_most : cell_index d s n ≤ n - 2
  unfolding cell_index
  index_most = omega arith

-- a point on the axis, edges included
pub record InCell (d s n i f : ℕ) : Type 0 where
  pub index_most : i + 2 ≤ n
  pub rest_most : f ≤ s
  pub point : i * s + f ≡ d

pub along_within : (d s n : ℕ) → 0 < s → 2 ≤ n → d ≤ (n - 1) * s
    → InCell d s n (cell_along d s n).index (cell_along d s n).rest
unfolding cell_along cell_index
along_within d s n h k l = go (dec_le (d / s) (n - 2))
  where
    near : d / s ≤ n - 2 → min (d / s) (n - 2) ≡ d / s
    near a = omega arith

    far : n - 2 ≤ d / s → min (d / s) (n - 2) ≡ n - 2
    far a = omega arith

    go : Dec (d / s ≤ n - 2) → InCell d s n (min (d / s) (n - 2)) (d - min (d / s) (n - 2) * s)
    go (yes a) =
        rw (near a)
        (let e = div-add-mod' d s in let m = mod-lt d h in
        record { index_most = omega arith; rest_most = omega arith; point = omega arith })
    go (no a) =
        rw (far (omega arith))
        (let e = div-add-mod' d s in
        let m : (n - 2) * s ≤ d / s * s = mul-le-mul_right s (omega arith) in
        let t : (n - 1) * s ≡ (n - 2) * s + s = ap (λ (x : ℕ). x * s) (omega arith) ∙ suc-mul (n - 2) s in
        record { index_most = omega arith; rest_most = omega arith; point = omega arith })

-- the point of node i: the first node of cell i, or the last node of the cell before it
pub along_node : (i s n : ℕ) → 0 < s → 2 ≤ n → i < n
    → (((cell_along (i * s) s n).index ≡ i) × ((cell_along (i * s) s n).rest ≡ 0))
    ⊎ (((cell_along (i * s) s n).index + 1 ≡ i) × ((cell_along (i * s) s n).rest ≡ s))
unfolding cell_along cell_index
along_node i s n h k l = rw (mul-div_cancel i h) (go (dec_le i (n - 2)))
  where
    near : i ≤ n - 2 → min i (n - 2) ≡ i
    near a = omega arith

    far : n - 2 < i → min i (n - 2) ≡ n - 2
    far a = omega arith

    go : Dec (i ≤ n - 2)
        → ((min i (n - 2) ≡ i) × (i * s - min i (n - 2) * s ≡ 0)) ⊎ ((min i (n - 2) + 1 ≡ i) × (i * s - min i (n - 2) * s ≡ s))
    go (yes a) = rw (near a) (inl (refl, omega arith))
    go (no a) =
        rw (far (omega arith))
        (let t : i * s ≡ (n - 2) * s + s = ap (λ (x : ℕ). x * s) (omega arith) ∙ suc-mul (n - 2) s in
        inr (omega arith, omega arith))
