-- The flat lists of a group, filled grid by grid.
use Prim.Native.Nat.{ℕ, ◌+◌}
use mathlib.Core.Path.{◌≡◌, ◌∙◌}
use mathlib.Core.List.{List}
use native.Mathlib.Omega.{arith}
use borrow.Author.Count.{below_more, below_none}
use lib.ListN.{set}
use lib.Seq.{get_or-set_same, get_or-set_other}
use Rattle.numbers.specs.Lists.{at}
use Rattle.group.specs.declared.Grid.{Grid}
use Rattle.group.specs.declared.Group.{Group}
use Rattle.group.specs.Record.{grid_at}
use Rattle.extent.specs.Sides.{sides_of}
use Rattle.flat.specs.Rects.{rect_at, put_rect}
use Rattle.flat.specs.Frames.{frame_of, frame_at, put_frame}
use Rattle.flat.specs.Lists.{Sided, Framed, Flat, Flattened, FlatRoom}
use Rattle.flat.proofs.RectLaws.{rect_here, rect_before}
use Rattle.flat.proofs.FrameLaws.{put_here, put_before}

-- of no grid
pub flat_none : {g : Group} {sides ranks frames : List ℕ} → Flat g 0 sides ranks frames
flat_none {g} {sides} {ranks} {frames} = record { sided = record { side = below_none _; rank = below_none _ }; framed = below_none _ }

-- of one grid more
module _ (g : Group) (k : ℕ) (sides ranks frames : List ℕ) (room : FlatRoom sides ranks frames (k + 1)) where
  sided_more : Sided g k sides ranks → Sided g (k + 1) (put_rect sides k (sides_of (grid_at g k))) (set ranks k (grid_at g k).rank)
  sided_more h =
      let a = room.room.sides_room in let b = room.room.ranks_room in
      record {
        side =
            below_more (λ i. rect_at (put_rect sides k (sides_of (grid_at g k))) i ≡ sides_of (grid_at g i)) k
            (λ i l. rect_before sides k (sides_of (grid_at g k)) (omega arith) i l ∙ h.side i l)
            (rect_here sides k (sides_of (grid_at g k)) (omega arith));
        rank =
            below_more (λ i. at (set ranks k (grid_at g k).rank) i ≡ (grid_at g i).rank) k
            (λ i l. get_or-set_other ranks k i (grid_at g k).rank 0 (omega arith) ∙ h.rank i l)
            (get_or-set_same ranks k (grid_at g k).rank 0 (omega arith));
      }

  framed_more : Framed g k frames → Framed g (k + 1) (put_frame frames k (frame_of (grid_at g k)))
  framed_more h =
      let a = room.frames_room in
      below_more (λ i. frame_at (put_frame frames k (frame_of (grid_at g k))) i ≡ frame_of (grid_at g i)) k
      (λ i l. put_before frames k (frame_of (grid_at g k)) (omega arith) i l ∙ h i l)
      (put_here frames k (frame_of (grid_at g k)) (omega arith))

  pub flat_more : {d : Grid} {sides' ranks' frames' : List ℕ} → d ≡ grid_at g k → Flat g k sides ranks frames
      → Flattened d k sides ranks frames sides' ranks' frames' → Flat g (k + 1) sides' ranks' frames'
  flat_more {d} {sides'} {ranks'} {frames'} e h w =
      rw (w.sides_put, w.rank_put, w.frame_put, e) (record { sided = sided_more h.sided; framed = framed_more h.framed })
