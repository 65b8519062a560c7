-- Document 01's lookup of a point on a day: refusals 2 to 5, then 6, 9, 13, 7, 8, 11, else the fix in the chosen grid.
use Rattle.std.specs.Prelude.{ℕ, zero, suc, ◌≡◌, Bool, true, false, not, ◌&&◌, List, ltb, ℤ, ◌-ℤ◌, nat_abs, length, Result, Ok, Err, ⊤}
use Rattle.numbers.specs.First.{some}
use Rattle.group.specs.declared.Grid.{Grid}
use Rattle.group.specs.declared.Group.{Group}
use Rattle.group.specs.declared.Point.{Point}
use Rattle.group.specs.Numbers.{lon_admitted, lat_admitted, day_fits}
use Rattle.group.specs.Record.{grid_at}
use Rattle.group.specs.Refusals.{refusal, refuse_if, refuse_first, unless_refused}
use Rattle.extent.specs.Extent.{lon_span, lon_used, node_end}
use Rattle.judge.specs.Judge.{judged}
use Rattle.ingroup.specs.InGroup.{chosen_in}
use Rattle.day.specs.Day.{factor_of}
use Rattle.fix.specs.declared.Offset.{Offset}
use Rattle.fix.specs.Fix.{fix_in}
use Rattle.group.specs.declared.Refusal.{Refusal}
use Rattle.fix.specs.declared.Fix.{Fix}

-- 6: the point is within the limits
abbrev pub point_fits : Point → Bool
point_fits p = lon_admitted p.lon.0 && lat_admitted p.lat.0

-- 13: a list of so many nodes ends before grid k's range does
abbrev pub ends_early : Group → (count k : ℕ) → Bool
ends_early g count k = ltb count (node_end g.parameters (grid_at g k))

-- 13 alone: the lowest grid whose range ends behind so many nodes
unfoldable pub nodes_judged : Group → ℕ → Result ⊤ Refusal
nodes_judged g count = refuse_first Err (ends_early g count) g.grids 13 1 (Ok tt)

-- the point seen from a grid, by the longitude used
unfoldable pub offset_of : Grid → ℕ → Point → Offset
offset_of g np p =
    record {
      dx = nat_abs (lon_used (lon_span g) p.lon.0 -ℤ g.lon.0);
      dy = nat_abs (p.lat.0 -ℤ g.lat.0);
      sx = nat_abs g.dlon;
      sy = nat_abs g.dlat;
      ni = g.ni;
      nj = g.nj;
      start = g.start;
      np = np;
    }

-- 7 where no grid is chosen (its number is 0), else 8 or 11, or the fix, in the chosen one
unfoldable pub fix_at : ℕ → (ℕ → Offset) → List ℤ → ℤ → Result Fix Refusal
fix_at zero offset nodes factor = Err (refusal 7 0)
fix_at (suc k) offset nodes factor = fix_in (offset k) nodes factor (suc k)

-- 7, 8 or 11, or the fix
abbrev pub fix_of : Group → List ℤ → Point → ℤ → Result Fix Refusal
fix_of g nodes p t = fix_at (chosen_in g p.lon.0 p.lat.0) (λ k. offset_of (grid_at g k) g.parameters p) nodes (factor_of g.function g.functions t)

-- in an accepted group: 6, 9, 13, then 7, 8, 11
unfoldable pub looked_in : Group → List ℤ → Point → ℤ → Result Fix Refusal
looked_in g nodes p t =
    refuse_if Err (not (point_fits p)) 6 0
    (refuse_if Err (not (day_fits t)) 9 0
    (refuse_first Err (ends_early g (length nodes)) g.grids 13 1
    (fix_of g nodes p t)))

-- 2 to 5 first
unfoldable pub looked : Group → List ℤ → Point → ℤ → Result Fix Refusal
looked g nodes p t = unless_refused Err (judged g) (looked_in g nodes p t)

-- what 7, 8 and 11 may rely on: an accepted group, a point and a day within the limits, and each node range within the list
pub record LookupReady (g : Group) (count : ℕ) (p : Point) (t : ℤ) : Type 0 where
  pub accepted : judged g ≡ Ok tt
  pub point : point_fits p ≡ true
  pub day : day_fits t ≡ true
  pub ends : some (ends_early g count) g.grids ≡ false
