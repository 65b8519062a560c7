-- Rectangles stored in a flat list: what is stored is read back, and the rectangles before it stay.
use Prim.Native.Nat.{ℕ, ◌+◌, ◌*◌, ◌<◌}
use mathlib.Core.Path.{◌≡◌, ◌∙◌}
use mathlib.Core.List.{List}
use native.Mathlib.Omega.{arith}
use lib.ListN.{length, set, length-set}
use lib.Seq.{get_or-set_same, get_or-set_other}
use Rattle.numbers.specs.Lists.{at}
use Rattle.extent.specs.declared.Sides.{Sides}
use Rattle.flat.specs.Rects.{rect_at, put_rect}

module _ (rects : List ℕ) (r : ℕ) (s : Sides) (room : r * 4 + 3 < length rects) where
  -- the list after the first three stores
  abbrev x1 : List ℕ
  x1 = set rects (r * 4) s.west

  abbrev x2 : List ℕ
  x2 = set x1 (r * 4 + 1) s.east

  abbrev x3 : List ℕ
  x3 = set x2 (r * 4 + 2) s.south

  put_before : (j : ℕ) → j < r * 4 → at (put_rect rects r s) j ≡ at rects j
  put_before j l =
      get_or-set_other x3 (r * 4 + 3) j s.north 0 (λ e. omega arith) ∙ get_or-set_other x2 (r * 4 + 2) j s.south 0 (λ e. omega arith)
      ∙ get_or-set_other x1 (r * 4 + 1) j s.east 0 (λ e. omega arith) ∙ get_or-set_other rects (r * 4) j s.west 0 (λ e. omega arith)

  put_west : at (put_rect rects r s) (r * 4) ≡ s.west
  put_west =
      get_or-set_other x3 (r * 4 + 3) (r * 4) s.north 0 (λ e. omega arith) ∙ get_or-set_other x2 (r * 4 + 2) (r * 4) s.south 0 (λ e. omega arith)
      ∙ get_or-set_other x1 (r * 4 + 1) (r * 4) s.east 0 (λ e. omega arith) ∙ get_or-set_same rects (r * 4) s.west 0 (omega arith)

  put_east : at (put_rect rects r s) (r * 4 + 1) ≡ s.east
  put_east =
      get_or-set_other x3 (r * 4 + 3) (r * 4 + 1) s.north 0 (λ e. omega arith)
      ∙ get_or-set_other x2 (r * 4 + 2) (r * 4 + 1) s.south 0 (λ e. omega arith)
      ∙ get_or-set_same x1 (r * 4 + 1) s.east 0 (simp length-set (omega arith))

  put_south : at (put_rect rects r s) (r * 4 + 2) ≡ s.south
  put_south =
      get_or-set_other x3 (r * 4 + 3) (r * 4 + 2) s.north 0 (λ e. omega arith)
      ∙ get_or-set_same x2 (r * 4 + 2) s.south 0 (simp length-set (omega arith))

  put_north : at (put_rect rects r s) (r * 4 + 3) ≡ s.north
  put_north = get_or-set_same x3 (r * 4 + 3) s.north 0 (simp length-set (omega arith))

  pub rect_here : rect_at (put_rect rects r s) r ≡ s
  unfolding rect_at
  rect_here i = record { west = put_west i; east = put_east i; south = put_south i; north = put_north i }

  pub rect_before : (q : ℕ) → q < r → rect_at (put_rect rects r s) q ≡ rect_at rects q
  unfolding rect_at
  rect_before q l i =
      record {
        west = put_before (q * 4) (omega arith) i;
        east = put_before (q * 4 + 1) (omega arith) i;
        south = put_before (q * 4 + 2) (omega arith) i;
        north = put_before (q * 4 + 3) (omega arith) i;
      }
