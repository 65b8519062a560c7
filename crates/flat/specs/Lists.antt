-- The flat lists of a group's first n grids: what stands in each, what storing one grid leaves, and the room for them.
use Rattle.std.specs.Prelude.{ℕ, ◌*◌, ◌≤◌, ◌<◌, ◌≡◌, List, length, set}
use Rattle.numbers.specs.Lists.{at}
use Rattle.group.specs.declared.Grid.{Grid}
use Rattle.group.specs.declared.Group.{Group}
use Rattle.group.specs.Numbers.{grids_most}
use Rattle.group.specs.Record.{grid_at}
use Rattle.extent.specs.Sides.{sides_of}
use Rattle.flat.specs.Rects.{rect_at, put_rect}
use Rattle.flat.specs.Frames.{frame_of, frame_at, put_frame}

-- the sides and the ranks
pub record Sided (g : Group) (n : ℕ) (sides ranks : List ℕ) : Type 0 where
  pub side : (k : ℕ) → k < n → rect_at sides k ≡ sides_of (grid_at g k)
  pub rank : (k : ℕ) → k < n → at ranks k ≡ (grid_at g k).rank

-- the frames
abbrev pub Framed : Group → ℕ → List ℕ → Type 0
Framed g n frames = (k : ℕ) → k < n → frame_at frames k ≡ frame_of (grid_at g k)

-- all of them
pub record Flat (g : Group) (n : ℕ) (sides ranks frames : List ℕ) : Type 0 where
  pub sided : Sided g n sides ranks
  pub framed : Framed g n frames

-- the lists behind the storing of a grid as grid k
pub record Flattened (g : Grid) (k : ℕ) (sides ranks frames sidesAfter ranksAfter framesAfter : List ℕ) : Type 0 where
  pub sides_put : sidesAfter ≡ put_rect sides k (sides_of g)
  pub rank_put : ranksAfter ≡ set ranks k g.rank
  pub frame_put : framesAfter ≡ put_frame frames k (frame_of g)

-- room for the sides and the ranks of n grids, within their limit
pub record Room (sides ranks : List ℕ) (n : ℕ) : Type 0 where
  pub few : n ≤ grids_most
  pub sides_room : n * 4 ≤ length sides
  pub ranks_room : n ≤ length ranks

-- room for all three lists of n grids
pub record FlatRoom (sides ranks frames : List ℕ) (n : ℕ) : Type 0 where
  pub room : Room sides ranks n
  pub frames_room : n * 7 ≤ length frames
