-- Demand 2 in its own words, and the table's rows for a lookup, of what `looked` answers: exactly when it refuses, by which number and with
-- which place, and what it promises where it doesn't: where the number of its refusal is 0.
use Rattle.std.specs.Prelude.{ℕ, suc, ◌*◌, ◌≤◌, ◌<◌, ◌≡◌, true, List, ◌⊎◌, ◌↔◌, ℤ, pos, ◌+ℤ◌, ◌-ℤ◌, ◌*ℤ◌, nat_abs, length, ◌≤ℤ◌, Result, Ok, Err}
use Rattle.group.specs.declared.Group.{Group}
use Rattle.group.specs.declared.Point.{Point}
use Rattle.group.specs.declared.Refusal.{Refusal}
use Rattle.group.specs.Numbers.{lon_most, lat_most, day_most, value_most, result_most, mark}
use Rattle.group.specs.Record.{grid_at}
use Rattle.group.specs.Refusals.{refusal, no_refusal, refusal_of}
use Rattle.extent.specs.Extent.{lon_span, holds, lon_used, node_end}
use Rattle.judge.specs.Judge.{judged}
use Rattle.cell.specs.Cell.{weighted_sum}
use Rattle.cell.specs.Used.{EachUsed, SomeUsed}
use Rattle.day.specs.Day.{factor_of, result_of}
use Rattle.fix.specs.declared.Offset.{Offset}
use Rattle.fix.specs.declared.Fix.{Fix}
use Rattle.fix.specs.Answers.{lookup_grid, results_of}
use Rattle.fix.specs.Fix.{cell_of, node_at, corners_of, value_in, SameNodes}
use Rattle.lookup.specs.Lookup.{offset_of, looked}

-- the point seen from grid k, from 0
abbrev pub seen_from : Group → Point → ℕ → Offset
seen_from g p k = offset_of (grid_at g k) g.parameters p

-- grid k holds the point, and every other grid that holds it has a greater rank number
pub record BestGrid (g : Group) (p : Point) (k : ℕ) : Type 0 where
  pub among : k < g.grids
  pub held : holds (grid_at g k) p.lon.0 p.lat.0 ≡ true
  pub best : (j : ℕ) → j < g.grids → holds (grid_at g j) p.lon.0 p.lat.0 ≡ true → (j ≡ k → ⊥)
      → (grid_at g k).rank < (grid_at g j).rank

-- ---- the rows of the table

-- 6: the point is outside the limits
abbrev pub PointOutside : Point → Type 0
PointOutside p = (lon_most < nat_abs p.lon.0) ⊎ (lat_most < nat_abs p.lat.0)

-- 7: no grid holds the point
abbrev pub NoneHolds : Group → Point → Type 0
NoneHolds g p = (k : ℕ) → k < g.grids → holds (grid_at g k) p.lon.0 p.lat.0 ≡ true → ⊥

-- 8 and 11: a used corner of the best grid, any parameter, has a property
pub record UsedCorner (P : ℤ → Type 0) (g : Group) (nodes : List ℤ) (p : Point) : Type 0 where
  pub k : ℕ
  pub grid : BestGrid g p k
  pub q : ℕ
  pub parameter : q < g.parameters
  pub corner : SomeUsed P (cell_of (seen_from g p k)).weights (corners_of (seen_from g p k) nodes q)

-- 9: the day is outside the limit
abbrev pub DayOutside : ℤ → Type 0
DayOutside t = day_most < nat_abs t

-- 13: the node list ends before the range of grid k does, and of no lower grid
pub record EndsBefore (g : Group) (nodes : List ℤ) (k : ℕ) : Type 0 where
  pub among : k < g.grids
  pub early : length nodes < node_end g.parameters (grid_at g k)
  pub lowest : (j : ℕ) → j < k → node_end g.parameters (grid_at g j) ≤ length nodes

-- ---- their order

-- the judge's refusal, 2 to 5
abbrev pub Judged : Group → Refusal → Type 0
Judged g r = judged g ≡ Err r

-- a row whose place is 0
abbrev pub TableRow : ℕ → Type 0 → Refusal → Type 0
TableRow number When r = (r ≡ refusal number 0) × When

-- 13, with the grid as its place
abbrev pub ShortList : Group → List ℤ → Refusal → Type 0
ShortList g nodes r = (k : ℕ) × (r ≡ refusal 13 (suc k)) × EndsBefore g nodes k

-- nothing is refused
abbrev pub NothingRefused : Refusal → Type 0
NothingRefused r = r ≡ no_refusal

-- the first, or where it doesn't apply the next
infixr 1 ◌then◌
abbrev pub ◌then◌ : (Refusal → Type 0) → (Refusal → Type 0) → Refusal → Type 0
◌then◌ First Next r = First r ⊎ (((s : Refusal) → First s → ⊥) × Next r)

-- 'Lookup: 2 to 5, then 6, 9, 13, 7, 8, 11'
unfoldable pub Refuses : Group → List ℤ → Point → ℤ → Refusal → Type 0
Refuses g nodes p t =
    Judged g
    then TableRow 6 (PointOutside p)
    then TableRow 9 (DayOutside t)
    then ShortList g nodes
    then TableRow 7 (NoneHolds g p)
    then TableRow 8 (UsedCorner (λ v. v ≡ mark) g nodes p)
    then TableRow 11 (UsedCorner (λ v. value_most < nat_abs v) g nodes p)
    then NothingRefused

-- ---- an accepted lookup

-- of parameter q: the value of the cell in steps, and the result
pub record Answered (g : Group) (nodes : List ℤ) (p : Point) (t : ℤ) (l : Offset) (q : ℕ) (r : ℤ) : Type 0 where
  pub result : r ≡ result_of (value_in l nodes q) (factor_of g.function g.functions t)
  -- at most half a step from the exact fraction
  pub near :
      2 * nat_abs ((pos (cell_of l).weights.total *ℤ value_in l nodes q) -ℤ weighted_sum (cell_of l).weights (corners_of l nodes q))
      ≤ (cell_of l).weights.total
  -- never outside the range of the used corners
  pub least : (z : ℤ) → EachUsed (λ v. z ≤ℤ v) (cell_of l).weights (corners_of l nodes q) → z ≤ℤ value_in l nodes q
  pub most : (z : ℤ) → EachUsed (λ v. v ≤ℤ z) (cell_of l).weights (corners_of l nodes q) → value_in l nodes q ≤ℤ z
  -- with no functions the result is the value
  pub plain : g.functions ≡ 0 → r ≡ value_in l nodes q
  -- 64 bits suffice
  pub small : nat_abs r ≤ result_most

-- r answers the lookup: the best grid that holds the point, NP results in it, the rest 0
pub record LookedUp (g : Group) (nodes : List ℤ) (p : Point) (t : ℤ) (r : Result Fix Refusal) : Type 0 where
  pub k : ℕ
  pub number : lookup_grid r ≡ suc k
  pub grid : BestGrid g p k
  pub results : (q : ℕ) → q < g.parameters → Answered g nodes p t (seen_from g p k) q (results_of r q)
  pub rest : (q : ℕ) → g.parameters ≤ q → results_of r q ≡ pos 0
  -- at node (i, j) of the grid, as the longitude used gives it, the value is the node's, whatever the cell's other corners hold
  pub at_node : (i j q : ℕ) → i < (grid_at g k).ni → j < (grid_at g k).nj → q < g.parameters
      → lon_used (lon_span (grid_at g k)) p.lon.0 ≡ (grid_at g k).lon.0 +ℤ pos i *ℤ (grid_at g k).dlon
      → p.lat.0 ≡ (grid_at g k).lat.0 +ℤ pos j *ℤ (grid_at g k).dlat
      → results_of r q ≡ result_of (node_at (seen_from g p k) nodes i j q) (factor_of g.function g.functions t)

-- two accepted lookups that differ in nothing but nodes outside the used corners of the chosen grid, and other grids' records: the choice
-- stays, and its grid, NP, the day's factor and what the used corners hold are the same
pub record SameChoice (g other : Group) (nodes others : List ℤ) (p : Point) (t : ℤ) : Type 0 where
  pub k : ℕ
  pub accepted : (refusal_of (looked g nodes p t)).number ≡ 0
  pub accepted_too : (refusal_of (looked other others p t)).number ≡ 0
  pub choice : lookup_grid (looked g nodes p t) ≡ suc k
  pub stays : lookup_grid (looked other others p t) ≡ suc k
  pub grid : grid_at g k ≡ grid_at other k
  pub parameters : g.parameters ≡ other.parameters
  pub factor : factor_of g.function g.functions t ≡ factor_of other.function other.functions t
  pub corners : SameNodes (seen_from g p k) nodes others

-- ---- the whole

pub record Demand2 (g : Group) (nodes : List ℤ) (p : Point) (t : ℤ) : Type 0 where
  -- each refusal exactly when its row applies and none before it does
  pub refused : (r : Refusal) → (refusal_of (looked g nodes p t) ≡ r) ↔ Refuses g nodes p t r
  -- where no row applies, and only there, there is a fix
  pub fixed : Refuses g nodes p t no_refusal ↔ ((f : Fix) × (looked g nodes p t ≡ Ok f))
  -- the number is 0 exactly for a fix, which then keeps these promises
  pub zero : ((refusal_of (looked g nodes p t)).number ≡ 0) ↔ ((f : Fix) × (looked g nodes p t ≡ Ok f))
  pub accepted : (refusal_of (looked g nodes p t)).number ≡ 0 → LookedUp g nodes p t (looked g nodes p t)
  -- what is neither in a used corner of the chosen grid nor in its record changes nothing
  pub same : (other : Group) (others : List ℤ) → SameChoice g other nodes others p t → looked g nodes p t ≡ looked other others p t
