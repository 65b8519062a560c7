-- Order 6 of points looked up together: none is refused by 11.
use mathlib.Core.List.{List}
use lib.IntN.{ℤ}
use Rattle.group.specs.declared.Group.{Group}
use Rattle.group.specs.declared.Position.{Position}
use Rattle.lookup.proofs.Order6.{no_lookup_by_11}
use Rattle.exercise.specs.Exercise.{point_at, answer_at}
use Rattle.exercise.specs.Order6.{NoPointBy11}

pub no_point_by_11 : (g : Group) (nodes : List ℤ) (p : Position) → NoPointBy11 g nodes p
unfolding answer_at
no_point_by_11 g nodes p = no_lookup_by_11 g nodes (point_at p) p.day
