-- Order 2 through the C function: what an accepted call leaves says whether the area has a hole, and where.
use Rattle.std.specs.Prelude.{◌≡◌, List, ℤ, pos, replicate}
use Rattle.group.specs.declared.Group.{Group}
use Rattle.ingroup.specs.InGroup.{chosen_in, Held}
use Rattle.inforce.specs.declared.Area.{Area}
use Rattle.inforce.specs.Area.{InArea}
use Rattle.inforce.specs.Demand3.{IsFirstChosen}
use Rattle.abi.specs.Abi.{number_at, group_of_words}
use Rattle.capi.specs.Answers.{hole_answer}

-- three numbers: whether there is a hole, its longitude and its latitude
pub record HoleWords (g : Group) (a : Area) (lent : List ℤ) : Type 0 where
  -- the first is 1 exactly where no grid is chosen at one or more coordinates of the area; the others are then the first such coordinate
  pub named : (x y : ℤ) → InArea a x y → chosen_in g x y ≡ 0 → number_at lent 0 ≡ pos 1
  pub placed : number_at lent 0 ≡ pos 1 → IsFirstChosen g a 0 (number_at lent 1) (number_at lent 2)
  -- all three are 0 exactly where every coordinate of the area is held by a grid
  pub none : ((x y : ℤ) → InArea a x y → Held g x y) → lent ≡ replicate 3 (pos 0)
  pub held : lent ≡ replicate 3 (pos 0) → (x y : ℤ) → InArea a x y → Held g x y

abbrev pub NamesHole : List ℤ → Area → Type 0
NamesHole group area = (hole_answer group area).refusal.number ≡ 0 → HoleWords (group_of_words group) area (hole_answer group area).lent
