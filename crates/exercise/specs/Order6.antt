-- Order 6 of document 02 in its own words, of points looked up together.
use Rattle.std.specs.Prelude.{◌≡◌, List, ℤ}
use Rattle.group.specs.declared.Group.{Group}
use Rattle.group.specs.declared.Position.{Position}
use Rattle.lookup.specs.Order6.{WordNodes}
use Rattle.exercise.specs.Exercise.{answer_at}

-- 'so no lookup refuses by 11': nor does any point's own answer
abbrev pub NoPointBy11 : Group → List ℤ → Position → Type 0
NoPointBy11 g nodes p = WordNodes nodes → (answer_at g nodes p).number ≡ 11 → ⊥
