-- The lookup of one point over a group's flat lists, and what it may rely on.
use Rattle.std.specs.Prelude.{ℕ, zero, suc, ◌+◌, ◌-◌, ◌*◌, ◌^◌, ◌≤◌, ◌<◌, ◌≡◌, true, List, ℤ, length, take, drop, Option, Some, None, Result, Err}
use Rattle.group.specs.declared.Group.{Group}
use Rattle.group.specs.Numbers.{lon_turn, nodes_most, start_most, grids_most}
use Rattle.group.specs.Limits.{function_fits}
use Rattle.abi.specs.Words.{head_words, grids_from}
use Rattle.flat.specs.declared.Frame.{Frame}
use Rattle.flat.specs.Frames.{frame_at}
use Rattle.flat.specs.Functions.{function_in}
use Rattle.flat.specs.Lists.{Flat, FlatRoom}
use Rattle.numbers.specs.Lists.{at}
use Rattle.choice.specs.Rect.{rect_holds, turn_used}
use Rattle.choice.specs.Holder.{held_by}
use Rattle.choice.specs.declared.Holder.{Holder}
use Rattle.fix.specs.declared.Offset.{Offset}
use Rattle.group.specs.Refusals.{refusal}
use Rattle.fix.specs.Inside.{InsideGrid, RangeListed}
use Rattle.lookup.specs.Lookup.{fix_at}
use Rattle.group.specs.declared.Refusal.{Refusal}
use Rattle.fix.specs.declared.Fix.{Fix}

-- the distance of two numbers
abbrev pub distance : ℕ → ℕ → ℕ
distance a b = (a - b) + (b - a)

-- a point (x, y), as distances from the least longitude and latitude, seen from a grid
abbrev pub offset_in : Frame → (np x y : ℕ) → Offset
offset_in f np x y =
    record {
      dx = distance x f.lon;
      dy = distance y f.lat;
      sx = f.dlon;
      sy = f.dlat;
      ni = f.ni;
      nj = f.nj;
      start = f.start;
      np = np;
    }

-- the grid numbered c, from 1, holds the point, its frame stands in the list and its node range ends within so many nodes; c is 0 for none
pub record Chosen (frames : List ℕ) (c np count x y : ℕ) : Type 0 where
  pub number : c ≤ grids_most
  pub room : c * 7 ≤ length frames
  pub inside : 0 < c → InsideGrid (offset_in (frame_at frames (c - 1)) np x y)
  pub listed : 0 < c → RangeListed (offset_in (frame_at frames (c - 1)) np x y) count

-- a group's flat lists, in lists of such lengths that they have room for every grid that a group can have
pub record Laid (g : Group) (sides ranks frames : List ℕ) : Type 0 where
  pub flat : Flat g g.grids sides ranks frames
  pub room : FlatRoom sides ranks frames grids_most

-- counts of nodes and a START in the first n frames that keep the ends of node ranges within 64 bits
abbrev pub FramesSized : List ℕ → ℕ → Type 0
FramesSized frames n = (k : ℕ) → k < n → ((frame_at frames k).ni ≤ nodes_most) × ((frame_at frames k).nj ≤ nodes_most) × ((frame_at frames k).start ≤ start_most)

-- the numbers of all functions among those of a group
abbrev pub function_rows : List ℤ → List ℤ
function_rows numbers = take (grids_from - head_words) (drop head_words numbers)

-- the first n of them are within their limits
abbrev pub FunctionsFit : List ℤ → ℕ → Type 0
FunctionsFit numbers n = (k : ℕ) → k < n → function_fits (function_in (function_rows numbers) k) ≡ true

-- the longitude that the grid numbered c, from 1, uses of a point (x, y), by the list of sides; x itself where c is 0, for none
abbrev pub used_at : List ℕ → ℕ → (x y : ℕ) → ℕ
used_at sides zero x y = x
used_at sides (suc k) x y = turn_used lon_turn sides k x y

-- 7 where nothing holds the point, else 8 or 11, or the fix in the owner of the row that does, for its turn
abbrev pub fix_held : (frames : List ℕ) → Option Holder → (np : ℕ) → List ℤ → ℤ → (x y : ℕ) → Result Fix Refusal
fix_held frames None np nodes factor x y = Err (refusal 7 0)
fix_held frames (Some h) np nodes factor x y = fix_at (suc h.owner) (λ k. offset_in (frame_at frames k) np (x + h.shift - lon_turn) y) nodes factor

-- what that may rely on: the row's owner holds the point for the row's turn
pub record TurnChosen (frames : List ℕ) (owner shift np nodes x y : ℕ) : Type 0 where
  pub least : lon_turn ≤ x + shift
  pub most : x + shift < 2 ^ 64
  pub chosen : Chosen frames (suc owner) np nodes (x + shift - lon_turn) y

abbrev pub HeldChosen : (frames : List ℕ) → Option Holder → (np nodes x y : ℕ) → Type 0
HeldChosen frames None np nodes x y = Unit {0}
HeldChosen frames (Some h) np nodes x y = TurnChosen frames h.owner h.shift np nodes x y

-- from rectangles in the order of their owners' ranks: by the first that holds the point
abbrev pub held_in : (rows owners shifts : List ℕ) (count x y : ℕ) → Option Holder
held_in rows owners shifts count x y = held_by (λ r. rect_holds rows r x y) (at owners) (at shifts) count

abbrev pub fix_ranked : (rows owners shifts frames : List ℕ) (count np : ℕ) → List ℤ → ℤ → (x y : ℕ) → Result Fix Refusal
fix_ranked rows owners shifts frames count np nodes factor x y = fix_held frames (held_in rows owners shifts count x y) np nodes factor x y

-- what that lookup may rely on
pub record LaidRows (rows owners shifts frames : List ℕ) (count np nodes x y : ℕ) : Type 0 where
  pub rows_room : count * 4 ≤ length rows
  pub owners_room : count ≤ length owners
  pub shifts_room : count ≤ length shifts
  pub ready : HeldChosen frames (held_in rows owners shifts count x y) np nodes x y
