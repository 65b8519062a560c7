-- What is said of a cell's used corners, those whose weight is not 0.
use Rattle.std.specs.Prelude.{ℕ, ◌<◌, ◌≡◌, ◌⊎◌, ℤ}
use Rattle.cell.specs.declared.Weights.{Weights}
use Rattle.cell.specs.declared.Corners.{Corners}

-- of a corner of weight 0 nothing is asked
abbrev pub Unless : ℕ → Type 0 → Type 0
Unless w P = (w ≡ 0) ⊎ P

-- each used corner has a property
pub record EachUsed (P : ℤ → Type 0) (w : Weights) (v : Corners) : Type 0 where
  pub at00 : Unless w.w00 (P v.v00)
  pub at10 : Unless w.w10 (P v.v10)
  pub at01 : Unless w.w01 (P v.v01)
  pub at11 : Unless w.w11 (P v.v11)

-- some used corner has a property
abbrev pub SomeUsed : (ℤ → Type 0) → Weights → Corners → Type 0
SomeUsed P w v =
    ((0 < w.w00) × P v.v00) ⊎ ((0 < w.w10) × P v.v10) ⊎ ((0 < w.w01) × P v.v01) ⊎ ((0 < w.w11) × P v.v11)

-- two cells hold the same in each used corner
pub record SameUsed (w : Weights) (u v : Corners) : Type 0 where
  pub at00 : Unless w.w00 (u.v00 ≡ v.v00)
  pub at10 : Unless w.w10 (u.v10 ≡ v.v10)
  pub at01 : Unless w.w01 (u.v01 ≡ v.v01)
  pub at11 : Unless w.w11 (u.v11 ≡ v.v11)
