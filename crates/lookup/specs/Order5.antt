-- Order 5 of document 02 in its own words, of what `looked` answers: which points it admits, which longitude it uses for the cell, and that
-- turning is invisible in its values.
use Rattle.std.specs.Prelude.{ℕ, suc, ◌≤◌, ◌<◌, ◌≡◌, true, List, ◌↔◌, ℤ, ◌-ℤ◌, nat_abs, Ok}
use Rattle.group.specs.declared.Group.{Group}
use Rattle.group.specs.declared.Point.{Point}
use Rattle.group.specs.Numbers.{lon_most, lat_most, lon_turn}
use Rattle.group.specs.Record.{grid_at}
use Rattle.extent.specs.Extent.{lon_span, lon_used, width}
use Rattle.extent.specs.Order5.{Lies, FirstUsed}
use Rattle.judge.specs.Judge.{judged}
use Rattle.ingroup.specs.Order5.{WrittenTurned}
use Rattle.day.specs.Day.{factor_of}
use Rattle.fix.specs.Answers.{lookup_grid}
use Rattle.fix.specs.Fix.{fix_in}
use Rattle.lookup.specs.Lookup.{point_fits, looked}
use Rattle.lookup.specs.Demand2.{seen_from}
use Rattle.group.specs.Refusals.{refusal_of}

-- 'longitudes of points .. are now limited to ±648,000,000': the points that 6 lets pass, and only those
abbrev pub PointLimits : Point → Type 0
PointLimits p = (point_fits p ≡ true) ↔ ((nat_abs p.lon.0 ≤ lon_most) × (nat_abs p.lat.0 ≤ lat_most))

-- the longitude of the point that grid k uses
abbrev pub used_in : Group → Point → ℕ → ℤ
used_in g p k = lon_used (lon_span (grid_at g k)) p.lon.0

-- 'the first that does, in that order, is used for the cell', of an accepted lookup in grid k, from 0
pub record UsedInCell (g : Group) (nodes : List ℤ) (p : Point) (t : ℤ) (k : ℕ) : Type 0 where
  -- the answer is the fix at the point as it is seen from the grid
  pub answer : looked g nodes p t ≡ fix_in (seen_from g p k) nodes (factor_of g.function g.functions t) (suc k)
  -- it is seen at the longitude used: so far from the first node
  pub cell : (seen_from g p k).dx ≡ nat_abs (used_in g p k -ℤ (grid_at g k).lon.0)
  -- which lies in the extent
  pub lies : Lies (grid_at g k) (used_in g p k) p.lat.0
  -- and is the first of the three that does: the point's own where that lies there too, as at the two edges of a grid a whole turn wide
  pub first : FirstUsed (grid_at g k) p.lon.0 p.lat.0

-- for every accepted lookup
abbrev pub UsesFirst : Group → List ℤ → Point → ℤ → Type 0
UsesFirst g nodes p t = (refusal_of (looked g nodes p t)).number ≡ 0 → (k : ℕ) → lookup_grid (looked g nodes p t) ≡ suc k → UsedInCell g nodes p t k

-- turning is invisible in values: with a grid narrower than a turn written a whole turn farther east or west, where the limits allow it, every
-- lookup in an accepted group answers the same, refusals included
abbrev pub SameValues : Group → Type 0
SameValues g = judged g ≡ Ok tt → (h : Group) (k t : ℕ) → WrittenTurned g h k t → width (grid_at g k) < lon_turn
    → (nodes : List ℤ) (p : Point) (d : ℤ) → looked h nodes p d ≡ looked g nodes p d
