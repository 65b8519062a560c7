-- Order 5 of document 02 in its own words, of what a grid holds, which longitude it uses, and when two grids meet.
use Rattle.std.specs.Prelude.{ℕ, ◌≤◌, ◌<◌, ◌≡◌, true, false, ◌⊎◌, ◌↔◌, ℤ, pos, ◌+ℤ◌, ◌-ℤ◌}
use Rattle.group.specs.Numbers.{lon_turn, lon_admitted, lat_admitted, lon_edge_fits, lat_edge_fits, list_most}
use Rattle.group.specs.declared.Grid.{Grid}
use Rattle.extent.specs.Extent.{lon_axis, lat_axis, far_edge, lon_span, lat_span, lon_lies, lat_lies, holds, lon_used, node_end, width, inside, meet}

-- longitude x and latitude y lie in the extent as it is written
abbrev pub Lies : Grid → ℤ → ℤ → Type 0
Lies g x y = (lon_lies (lon_span g) x ≡ true) × (lat_lies (lat_span g) y ≡ true)

-- 'a grid holds a point if the point, or it plus or minus 1,296,000,000, lies in the extent', and only then
abbrev pub HoldsTurned : Grid → ℤ → ℤ → Type 0
HoldsTurned g x y = (holds g x y ≡ true) ↔ (Lies g x y ⊎ (Lies g (x +ℤ pos lon_turn) y ⊎ Lies g (x -ℤ pos lon_turn) y))

-- 'the first that does, in that order, is used for the cell'
pub record FirstUsed (g : Grid) (x y : ℤ) : Type 0 where
  pub itself : Lies g x y → lon_used (lon_span g) x ≡ x
  pub plus : (Lies g x y → ⊥) → Lies g (x +ℤ pos lon_turn) y → lon_used (lon_span g) x ≡ x +ℤ pos lon_turn
  pub minus : (Lies g x y → ⊥) → (Lies g (x +ℤ pos lon_turn) y → ⊥) → Lies g (x -ℤ pos lon_turn) y → lon_used (lon_span g) x ≡ x -ℤ pos lon_turn
  -- it lies in the extent
  pub lies : holds g x y ≡ true → Lies g (lon_used (lon_span g) x) y

-- 'a grid wider than 1,296,000,000 is refused by 4'; one that is just so wide is not, by that
pub record TooWide (np : ℕ) (g : Grid) : Type 0 where
  pub wider : lon_turn < width g → inside np g ≡ false
  pub a_turn : width g ≡ lon_turn → lon_edge_fits (far_edge (lon_axis g)) ≡ true → lat_edge_fits (far_edge (lat_axis g)) ≡ true
      → node_end np g ≤ list_most → inside np g ≡ true

-- an admitted point that both grids hold
pub record Common (f g : Grid) : Type 0 where
  pub x : ℤ
  pub y : ℤ
  pub lon : lon_admitted x ≡ true
  pub lat : lat_admitted y ≡ true
  pub first : holds f x y ≡ true
  pub second : holds g x y ≡ true

-- 'refusal 5's shared coordinate is now an admitted point that both hold': two grids meet exactly where there is one
abbrev pub MeetsExactly : Grid → Grid → Type 0
MeetsExactly f g = (meet f g ≡ true) ↔ Common f g
