-- What an explanation promises: it is refused exactly as the lookup is, and else its pieces, worked again from the header and the nodes, give
-- the lookup's answer.
use Rattle.std.specs.Prelude.{ℕ, ◌+◌, ◌-◌, ◌*◌, ◌^◌, ◌≤◌, ◌<◌, ◌≡◌, true, List, ◌↔◌, ℤ, pos, ◌+ℤ◌, ◌-ℤ◌, ◌*ℤ◌, nat_abs, get_or, Ok, Err}
use Rattle.numbers.specs.Round.{round_z}
use Rattle.group.specs.declared.Grid.{Grid}
use Rattle.group.specs.declared.Group.{Group}
use Rattle.group.specs.declared.Point.{Point}
use Rattle.group.specs.declared.Refusal.{Refusal}
use Rattle.group.specs.Record.{grid_at}
use Rattle.extent.specs.Extent.{lon_span, holds, lon_used}
use Rattle.cell.specs.Cell.{weights_of, weighted_sum}
use Rattle.cell.specs.TwoParts.{high_part, low_part}
use Rattle.day.specs.Day.{factor_of, result_of}
use Rattle.fix.specs.declared.Fix.{Fix}
use Rattle.lookup.specs.Lookup.{looked}
use Rattle.lookup.specs.Demand2.{BestGrid}
use Rattle.explain.specs.Explain.{Pieces, none_worked, pieces_of, pieces_numbers, explained}

-- one parameter, from the node list to the result
pub record Again (nodes : List ℤ) (e : Pieces) (q : ℕ) : Type 0 where
  -- each corner holds what stands at its position
  pub v00 : (e.worked q).corners.v00 ≡ get_or nodes (e.at00 + q) (pos 0)
  pub v10 : (e.worked q).corners.v10 ≡ get_or nodes (e.at10 + q) (pos 0)
  pub v01 : (e.worked q).corners.v01 ≡ get_or nodes (e.at01 + q) (pos 0)
  pub v11 : (e.worked q).corners.v11 ≡ get_or nodes (e.at11 + q) (pos 0)
  -- corners times weights add to the sum, the sum over the total is the value, and value times factor over a million the result, each rounded
  pub sum : (e.worked q).sum ≡ weighted_sum e.weights (e.worked q).corners
  pub value : (e.worked q).value ≡ round_z (e.worked q).sum e.weights.total
  pub result : (e.worked q).result ≡ result_of (e.worked q).value e.factor

-- where the first parameter of node (i, j) of a grid stands, of np
abbrev pub place_of : Grid → (np i j : ℕ) → ℕ
place_of d np i j = d.start + (j * d.ni + i) * np

pub record Reworks (g : Group) (nodes : List ℤ) (p : Point) (t : ℤ) (e : Pieces) : Type 0 where
  -- the grid is the best that holds the point
  pub numbered : 0 < e.grid
  pub best : BestGrid g p (e.grid - 1)
  -- every other grid that holds the point is named, with its rank, and no other is
  pub named : (k : ℕ) → k < g.grids → (k + 1 ≡ e.grid → ⊥) → holds (grid_at g k) p.lon.0 p.lat.0 ≡ true → e.other k ≡ (grid_at g k).rank
  pub others : (k : ℕ) → 0 < e.other k → (k < g.grids) × (k + 1 ≡ e.grid → ⊥) × (holds (grid_at g k) p.lon.0 p.lat.0 ≡ true)
  -- the longitude is the one that this grid uses
  pub lon : e.lon ≡ lon_used (lon_span (grid_at g (e.grid - 1))) p.lon.0
  -- from node (0, 0) it is so many spacings and a distance to the point, along the parallel and along the meridian
  pub sx : e.sx ≡ nat_abs (grid_at g (e.grid - 1)).dlon
  pub sy : e.sy ≡ nat_abs (grid_at g (e.grid - 1)).dlat
  pub along : nat_abs (e.lon -ℤ (grid_at g (e.grid - 1)).lon.0) ≡ e.i * e.sx + e.fx
  pub across : nat_abs (p.lat.0 -ℤ (grid_at g (e.grid - 1)).lat.0) ≡ e.j * e.sy + e.fy
  -- the distances are at most a spacing, and the cell's four nodes are the grid's
  pub fx : e.fx ≤ e.sx
  pub fy : e.fy ≤ e.sy
  pub i : e.i + 1 < (grid_at g (e.grid - 1)).ni
  pub j : e.j + 1 < (grid_at g (e.grid - 1)).nj
  -- the weights are those of the distances, and add to their total
  pub weights : e.weights ≡ weights_of e.sx e.sy e.fx e.fy
  pub total : e.weights.w00 + e.weights.w10 + e.weights.w01 + e.weights.w11 ≡ e.weights.total
  -- the positions are those of the four nodes
  pub at00 : e.at00 ≡ place_of (grid_at g (e.grid - 1)) g.parameters e.i e.j
  pub at10 : e.at10 ≡ place_of (grid_at g (e.grid - 1)) g.parameters (e.i + 1) e.j
  pub at01 : e.at01 ≡ place_of (grid_at g (e.grid - 1)) g.parameters e.i (e.j + 1)
  pub at11 : e.at11 ≡ place_of (grid_at g (e.grid - 1)) g.parameters (e.i + 1) (e.j + 1)
  -- the factor is the day's
  pub factor : e.factor ≡ factor_of g.function g.functions t
  -- every parameter of the group is worked out so, and nothing else
  pub each : (q : ℕ) → q < g.parameters → Again nodes e q
  pub missing : (q : ℕ) → g.parameters ≤ q → e.worked q ≡ none_worked
  -- grid and results are the lookup's answer
  pub answer :
      Ok (record { grid = e.grid; first = (e.worked 0).result; second = (e.worked 1).result; third = (e.worked 2).result }) ≡ looked g nodes p t

-- the sum of a parameter, of whatever size, by its two numbers
pub record TwoNumbers (z : ℤ) : Type 0 where
  pub whole : (pos (2 ^ 32) *ℤ high_part z) +ℤ pos (low_part z) ≡ z
  pub below : low_part z < 2 ^ 32

pub record Explains (g : Group) (nodes : List ℤ) (p : Point) (t : ℤ) : Type 0 where
  -- refused exactly where the lookup is, by the same number with the same place
  pub refused : (r : Refusal) → (explained g nodes p t ≡ Err r) ↔ (looked g nodes p t ≡ Err r)
  -- accepted exactly where the lookup is; the numbers are then those of the pieces, which give its answer
  pub accepted : ((numbers : List ℤ) × (explained g nodes p t ≡ Ok numbers)) ↔ ((f : Fix) × (looked g nodes p t ≡ Ok f))
  pub pieces : (f : Fix) → looked g nodes p t ≡ Ok f
      → (explained g nodes p t ≡ Ok (pieces_numbers (pieces_of g nodes p t f.grid))) × Reworks g nodes p t (pieces_of g nodes p t f.grid)
  -- no sum is cut
  pub sums : (z : ℤ) → TwoNumbers z
