-- Order 5 of document 02, of a whole group: turning is invisible. A grid may be written a whole turn farther east or west, where the limits
-- allow it: the group is accepted too, and the same grids are chosen at every admitted point.
use Rattle.std.specs.Prelude.{ℕ, ◌<◌, ◌≡◌, true, ℤ, Ok}
use Rattle.group.specs.declared.Group.{Group}
use Rattle.group.specs.Numbers.{lon_admitted, lat_admitted, lon_edge_fits}
use Rattle.group.specs.Record.{grid_at}
use Rattle.extent.specs.Extent.{lon_axis, far_edge, moved_grid}
use Rattle.judge.specs.Judge.{judged}
use Rattle.ingroup.specs.InGroup.{chosen_in}

-- the group h is g, but for grid k, which it writes by turn t elsewhere: t is 1 for a whole turn farther east and 2 for one farther west
pub record WrittenTurned (g h : Group) (k t : ℕ) : Type 0 where
  pub among : k < g.grids
  pub grid : grid_at h k ≡ moved_grid t (grid_at g k)
  pub others : (j : ℕ) → (j ≡ k → ⊥) → grid_at h j ≡ grid_at g j
  pub name : h.name ≡ g.name
  pub quantum : h.quantum ≡ g.quantum
  pub parameters : h.parameters ≡ g.parameters
  pub functions : h.functions ≡ g.functions
  pub function : h.function ≡ g.function
  pub grids : h.grids ≡ g.grids
  -- 'where the limits allow it'
  pub near : lon_edge_fits (grid_at h k).lon.0 ≡ true
  pub far : lon_edge_fits (far_edge (lon_axis (grid_at h k))) ≡ true

pub record TurnInvisible (g h : Group) : Type 0 where
  pub accepted : judged h ≡ Ok tt
  pub choice : (x y : ℤ) → lon_admitted x ≡ true → lat_admitted y ≡ true → chosen_in h x y ≡ chosen_in g x y

-- for every accepted group
abbrev pub Turning : Group → Type 0
Turning g = judged g ≡ Ok tt → (h : Group) (k t : ℕ) → WrittenTurned g h k t → TurnInvisible g h
