-- The pieces of a lookup over a group's flat lists, and what inner functions may rely on.
use Rattle.std.specs.Prelude.{ℕ, ◌+◌, ◌-◌, ◌<◌, ◌≡◌, false, not, cond, ◌&&◌, List, ◌++◌, ltb, eqb, ℤ, length}
use Rattle.numbers.specs.Lists.{at}
use Rattle.group.specs.declared.Group.{Group}
use Rattle.group.specs.declared.Point.{Point}
use Rattle.group.specs.Numbers.{lon_turn}
use Rattle.group.specs.Record.{grid_at}
use Rattle.choice.specs.Rect.{turn_holds}
use Rattle.ingroup.specs.InGroup.{chosen_in}
use Rattle.cell.specs.Cell.{is_beyond}
use Rattle.fix.specs.declared.Offset.{Offset}
use Rattle.fix.specs.Fix.{corner_some}
use Rattle.lookup.specs.Lookup.{offset_of, LookupReady}
use Rattle.explain.specs.Explain.{worked_in, worked_numbers}

-- the numbers of all three parameters
unfoldable pub parameters_numbers : Offset → List ℤ → ℤ → List ℤ
parameters_numbers l nodes factor =
    worked_numbers (worked_in l nodes factor 0) ++ (worked_numbers (worked_in l nodes factor 1) ++ worked_numbers (worked_in l nodes factor 2))

-- the rank of grid k of so many, where it is not the one numbered c and holds the point (x, y), else 0
unfoldable pub rank_beside : (sides ranks : List ℕ) → (grids c x y k : ℕ) → ℕ
rank_beside sides ranks grids c x y k = cond (ltb k grids && (not (eqb (k + 1) c) && turn_holds lon_turn sides k x y)) (at ranks k) 0

-- an accepted lookup: the grid numbered c is chosen, and no used corner is beyond the limit of node values
pub record Explainable (g : Group) (nodes : List ℤ) (p : Point) (t : ℤ) (c : ℕ) : Type 0 where
  pub ready : LookupReady g (length nodes) p t
  pub chosen : c ≡ chosen_in g p.lon.0 p.lat.0
  pub some : 0 < c
  pub small : corner_some is_beyond (offset_of (grid_at g (c - 1)) g.parameters p) nodes ≡ false
