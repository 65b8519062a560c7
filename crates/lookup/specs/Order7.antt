-- Order 7 of document 02, of what `looked` answers: a `ramp2` with REF at or before START gives what the old `ramp` START 0 END MULT gives.
use Rattle.std.specs.Prelude.{ℕ, ◌≡◌, List, ℤ, Ok}
use Rattle.group.specs.declared.Ramp2.{Ramp2}
use Rattle.group.specs.declared.Group.{Group}
use Rattle.group.specs.declared.Point.{Point}
use Rattle.judge.specs.Judge.{judged}
use Rattle.judge.specs.Order7.{WrittenAsRamp}
use Rattle.lookup.specs.Lookup.{looked}

-- with the old ramp in its place the group is accepted too, and every lookup has the same answer
pub record RampInvisible (g h : Group) : Type 0 where
  pub accepted : judged h ≡ Ok tt
  pub answer : (nodes : List ℤ) (p : Point) (t : ℤ) → looked h nodes p t ≡ looked g nodes p t

-- for every accepted group
abbrev pub OldRampLooked : Group → Type 0
OldRampLooked g = judged g ≡ Ok tt → (h : Group) (k : ℕ) (r : Ramp2) → WrittenAsRamp g h k r → RampInvisible g h
