-- What a function of any kind is made of.
use Rattle.std.specs.Prelude.{ℕ, List, [], ◌∷◌, ℤ, pos, get_or}
use Rattle.group.specs.declared.Shape.{Shape}
use Rattle.group.specs.declared.Shape.TheVariants as S

-- its numbers, in the order in which its line has them
abbrev pub shape_ints : Shape → List ℤ
shape_ints (S.Ramp r) = r.a ∷ r.s0 ∷ r.b ∷ r.s1 ∷ []
shape_ints (S.Step s) = s.event ∷ s.reference ∷ s.mult ∷ []
shape_ints (S.Ramp2 r) = r.start ∷ r.end ∷ r.reference ∷ r.mult ∷ []

-- number k of a list
abbrev pub int_at : List ℤ → ℕ → ℤ
int_at zs k = get_or zs k (pos 0)

-- each kind made of its numbers
abbrev pub ramp_of : List ℤ → Shape
ramp_of zs = S.Ramp (record { a = int_at zs 0; s0 = int_at zs 1; b = int_at zs 2; s1 = int_at zs 3 })

abbrev pub step_of : List ℤ → Shape
step_of zs = S.Step (record { event = int_at zs 0; reference = int_at zs 1; mult = int_at zs 2 })

abbrev pub ramp2_of : List ℤ → Shape
ramp2_of zs = S.Ramp2 (record { start = int_at zs 0; end = int_at zs 1; reference = int_at zs 2; mult = int_at zs 3 })
