-- Order 2 of document 02 in its own words, of what `hole_of` answers.
use Rattle.std.specs.Prelude.{ℕ, suc, ◌<◌, ◌≡◌, true, ◌⊎◌, ℤ, Option, Some, None, Ok}
use Rattle.group.specs.declared.Group.{Group}
use Rattle.group.specs.declared.Point.{Point}
use Rattle.group.specs.Refusals.{verdict_of}
use Rattle.judge.specs.Judge.{judged}
use Rattle.ingroup.specs.InGroup.{chosen_in, Held}
use Rattle.inforce.specs.declared.Area.{Area}
use Rattle.inforce.specs.declared.InForce.{InForce}
use Rattle.inforce.specs.Area.{area_fits, InArea, JudgesArea}
use Rattle.inforce.specs.InForce.{in_force_of}
use Rattle.inforce.specs.Hole.{hole_of}
use Rattle.inforce.specs.Demand3.{entry_at, NotEarlier, IsFirstChosen}

-- ---- the answer

pub record HoleInArea (g : Group) (a : Area) (h : Option Point) : Type 0 where
  -- a hole is named where no grid is chosen at one or more coordinates of the area
  pub named : (x y : ℤ) → InArea a x y → chosen_in g x y ≡ 0 → (p : Point) × (h ≡ Some p)
  -- and only there: the one named is such a coordinate, and every other such lies farther north, or equally far north and farther east
  pub placed : (p : Point) → h ≡ Some p → IsFirstChosen g a 0 p.lon.0 p.lat.0
  -- no grid holds it
  pub bare : (p : Point) → h ≡ Some p → Held g p.lon.0 p.lat.0 → ⊥
  -- none is named where every coordinate of the area is held by a grid
  pub none : ((x y : ℤ) → InArea a x y → Held g x y) → h ≡ None
  -- and only there
  pub held : h ≡ None → (x y : ℤ) → InArea a x y → Held g x y

-- for every accepted group and admitted area; the answer is no refusal, also where it is none
abbrev pub Order2 : Group → Area → Type 0
Order2 g a = judged g ≡ Ok tt → area_fits a ≡ true → (h : Option Point) × (hole_of g a ≡ Ok h) × HoleInArea g a h

-- ---- the refusals

-- it refuses as grids in force does
pub record RefusesAlike (g : Group) (a : Area) : Type 0 where
  pub judges : JudgesArea g a (verdict_of (hole_of g a))
  pub alike : verdict_of (hole_of g a) ≡ verdict_of (in_force_of g a)

-- ---- together with demand 3

-- the grid numbered k stands exactly once among the counted entries
pub record NamedOnce (l : InForce) (k : ℕ) : Type 0 where
  pub entry : ℕ
  pub counted : entry < l.count
  pub named : (entry_at l entry).grid ≡ k
  pub once : (i : ℕ) → i < l.count → (entry_at l i).grid ≡ k → i ≡ entry

-- no grid is chosen at the coordinate, and a hole is named: this coordinate or one before it
pub record HoleNamed (g : Group) (h : Option Point) (x y : ℤ) : Type 0 where
  pub none : chosen_in g x y ≡ 0
  pub point : Point
  pub found : h ≡ Some point
  pub before : NotEarlier point.lon.0 point.lat.0 x y

-- every coordinate of the area has a chosen grid, which stands in the list, or has none, and then a hole is named
abbrev pub Accounted : Group → Area → InForce → Option Point → Type 0
Accounted g a l h = (x y : ℤ) → InArea a x y → ((k : ℕ) × (chosen_in g x y ≡ suc k) × NamedOnce l (suc k)) ⊎ HoleNamed g h x y

abbrev pub Together : Group → Area → Type 0
Together g a =
    judged g ≡ Ok tt → area_fits a ≡ true
    → (l : InForce) × (h : Option Point) × (in_force_of g a ≡ Ok l) × (hole_of g a ≡ Ok h) × Accounted g a l h
