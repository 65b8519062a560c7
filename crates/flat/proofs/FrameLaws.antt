-- Frames stored in a flat list: what is stored for a grid is read back, and the frames of the grids before it stay.
use Prim.Native.Nat.{ℕ, ◌+◌, ◌*◌, ◌<◌}
use mathlib.Core.Path.{◌≡◌, ◌∙◌}
use mathlib.Core.List.{List}
use native.Mathlib.Omega.{arith}
use lib.ListN.{length, set, length-set}
use lib.Seq.{get_or-set_same, get_or-set_other}
use Rattle.numbers.specs.Lists.{at}
use Rattle.flat.specs.declared.Frame.{Frame}
use Rattle.flat.specs.Frames.{frame_at, put_frame}

module _ (frames : List ℕ) (k : ℕ) (f : Frame) (room : k * 7 + 6 < length frames) where
  -- the list after each of the first six stores
  abbrev x1 : List ℕ
  x1 = set frames (k * 7) f.lon

  abbrev x2 : List ℕ
  x2 = set x1 (k * 7 + 1) f.lat

  abbrev x3 : List ℕ
  x3 = set x2 (k * 7 + 2) f.dlon

  abbrev x4 : List ℕ
  x4 = set x3 (k * 7 + 3) f.dlat

  abbrev x5 : List ℕ
  x5 = set x4 (k * 7 + 4) f.ni

  abbrev x6 : List ℕ
  x6 = set x5 (k * 7 + 5) f.nj

  -- what stands elsewhere stays
  put_other : (j : ℕ) → ((i : ℕ) → i < 7 → k * 7 + i ≡ j → ⊥) → at (put_frame frames k f) j ≡ at frames j
  put_other j h =
      get_or-set_other x6 (k * 7 + 6) j f.start 0 (λ e. h 6 (omega arith) (omega arith))
      ∙ get_or-set_other x5 (k * 7 + 5) j f.nj 0 (λ e. h 5 (omega arith) (omega arith))
      ∙ get_or-set_other x4 (k * 7 + 4) j f.ni 0 (λ e. h 4 (omega arith) (omega arith))
      ∙ get_or-set_other x3 (k * 7 + 3) j f.dlat 0 (λ e. h 3 (omega arith) (omega arith))
      ∙ get_or-set_other x2 (k * 7 + 2) j f.dlon 0 (λ e. h 2 (omega arith) (omega arith))
      ∙ get_or-set_other x1 (k * 7 + 1) j f.lat 0 (λ e. h 1 (omega arith) (omega arith))
      ∙ get_or-set_other frames (k * 7) j f.lon 0 (λ e. h 0 (omega arith) (omega arith))

  put_lon : at (put_frame frames k f) (k * 7) ≡ f.lon
  put_lon =
      get_or-set_other x6 (k * 7 + 6) (k * 7) f.start 0 (λ e. omega arith)
      ∙ get_or-set_other x5 (k * 7 + 5) (k * 7) f.nj 0 (λ e. omega arith)
      ∙ get_or-set_other x4 (k * 7 + 4) (k * 7) f.ni 0 (λ e. omega arith)
      ∙ get_or-set_other x3 (k * 7 + 3) (k * 7) f.dlat 0 (λ e. omega arith)
      ∙ get_or-set_other x2 (k * 7 + 2) (k * 7) f.dlon 0 (λ e. omega arith)
      ∙ get_or-set_other x1 (k * 7 + 1) (k * 7) f.lat 0 (λ e. omega arith)
      ∙ get_or-set_same frames (k * 7) f.lon 0 (omega arith)

  put_lat : at (put_frame frames k f) (k * 7 + 1) ≡ f.lat
  put_lat =
      get_or-set_other x6 (k * 7 + 6) (k * 7 + 1) f.start 0 (λ e. omega arith)
      ∙ get_or-set_other x5 (k * 7 + 5) (k * 7 + 1) f.nj 0 (λ e. omega arith)
      ∙ get_or-set_other x4 (k * 7 + 4) (k * 7 + 1) f.ni 0 (λ e. omega arith)
      ∙ get_or-set_other x3 (k * 7 + 3) (k * 7 + 1) f.dlat 0 (λ e. omega arith)
      ∙ get_or-set_other x2 (k * 7 + 2) (k * 7 + 1) f.dlon 0 (λ e. omega arith)
      ∙ get_or-set_same x1 (k * 7 + 1) f.lat 0 (simp length-set (omega arith))

  put_dlon : at (put_frame frames k f) (k * 7 + 2) ≡ f.dlon
  put_dlon =
      get_or-set_other x6 (k * 7 + 6) (k * 7 + 2) f.start 0 (λ e. omega arith)
      ∙ get_or-set_other x5 (k * 7 + 5) (k * 7 + 2) f.nj 0 (λ e. omega arith)
      ∙ get_or-set_other x4 (k * 7 + 4) (k * 7 + 2) f.ni 0 (λ e. omega arith)
      ∙ get_or-set_other x3 (k * 7 + 3) (k * 7 + 2) f.dlat 0 (λ e. omega arith)
      ∙ get_or-set_same x2 (k * 7 + 2) f.dlon 0 (simp length-set (omega arith))

  put_dlat : at (put_frame frames k f) (k * 7 + 3) ≡ f.dlat
  put_dlat =
      get_or-set_other x6 (k * 7 + 6) (k * 7 + 3) f.start 0 (λ e. omega arith)
      ∙ get_or-set_other x5 (k * 7 + 5) (k * 7 + 3) f.nj 0 (λ e. omega arith)
      ∙ get_or-set_other x4 (k * 7 + 4) (k * 7 + 3) f.ni 0 (λ e. omega arith)
      ∙ get_or-set_same x3 (k * 7 + 3) f.dlat 0 (simp length-set (omega arith))

  put_ni : at (put_frame frames k f) (k * 7 + 4) ≡ f.ni
  put_ni =
      get_or-set_other x6 (k * 7 + 6) (k * 7 + 4) f.start 0 (λ e. omega arith)
      ∙ get_or-set_other x5 (k * 7 + 5) (k * 7 + 4) f.nj 0 (λ e. omega arith)
      ∙ get_or-set_same x4 (k * 7 + 4) f.ni 0 (simp length-set (omega arith))

  put_nj : at (put_frame frames k f) (k * 7 + 5) ≡ f.nj
  put_nj =
      get_or-set_other x6 (k * 7 + 6) (k * 7 + 5) f.start 0 (λ e. omega arith)
      ∙ get_or-set_same x5 (k * 7 + 5) f.nj 0 (simp length-set (omega arith))

  put_start : at (put_frame frames k f) (k * 7 + 6) ≡ f.start
  put_start =
      get_or-set_same x6 (k * 7 + 6) f.start 0 (simp length-set (omega arith))

  pub put_here : frame_at (put_frame frames k f) k ≡ f
  unfolding frame_at
  put_here i =
      record { lon = put_lon i; lat = put_lat i; dlon = put_dlon i; dlat = put_dlat i; ni = put_ni i; nj = put_nj i; start = put_start i }

  pub put_before : (j : ℕ) → j < k → frame_at (put_frame frames k f) j ≡ frame_at frames j
  unfolding frame_at
  put_before j l i =
      record {
        lon = put_other (j * 7) (λ n h e. omega arith) i;
        lat = put_other (j * 7 + 1) (λ n h e. omega arith) i;
        dlon = put_other (j * 7 + 2) (λ n h e. omega arith) i;
        dlat = put_other (j * 7 + 3) (λ n h e. omega arith) i;
        ni = put_other (j * 7 + 4) (λ n h e. omega arith) i;
        nj = put_other (j * 7 + 5) (λ n h e. omega arith) i;
        start = put_other (j * 7 + 6) (λ n h e. omega arith) i;
      }
