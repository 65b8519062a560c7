-- Document 01's day factor with order 7: the factor of a function of any kind on a day, their sum, and the result of a value.
use Rattle.std.specs.Prelude.{ℕ, zero, suc, cond, List, eqb, ℤ, pos, ◌+ℤ◌, ◌-ℤ◌, ◌*ℤ◌, nat_abs, get_or}
use Rattle.std.specs.Int.Signed.{le_z}
use Rattle.numbers.specs.Round.{round_z}
use Rattle.group.specs.declared.Shape.{Shape}
use Rattle.group.specs.declared.Shape.TheVariants as S
use Rattle.group.specs.declared.Function.{Function}
use Rattle.group.specs.Numbers.{factor_one}
use Rattle.group.specs.Blank.{blank_function}

-- a `ramp`: S1 at and after B, so that A = B gives S1 on the day itself; S0 at and before A; between them (S0(B−t) + S1(t−A)) / (B−A), rounded
unfoldable pub ramp_factor : (a s0 b s1 : ℤ) → ℤ → ℤ
ramp_factor a s0 b s1 t = cond (le_z b t) s1 (cond (le_z t a) s0 (round_z (s0 *ℤ (b -ℤ t) +ℤ s1 *ℤ (t -ℤ a)) (nat_abs (b -ℤ a))))

-- the plain function of a `step`, in parts of 1: 0 before EVENT and 1 from it on
abbrev pub step_parts : (event : ℤ) → ℤ → ℤ
step_parts event t = cond (le_z event t) (pos 1) (pos 0)

-- that of a `ramp2`, in parts of END − START: 0 up to START and 1 from END on, linear between
abbrev pub ramp2_parts : (start end : ℤ) → ℤ → ℤ
ramp2_parts start end t = cond (le_z end t) (end -ℤ start) (cond (le_z t start) (pos 0) (t -ℤ start))

-- MULT times the plain function at the day less that at REF, rounded once
unfoldable pub relative : (parts : ℤ → ℤ) (whole : ℕ) (reference mult : ℤ) → ℤ → ℤ
relative parts whole reference mult t = round_z (mult *ℤ (parts t -ℤ parts reference)) whole

abbrev pub step_factor : (event reference mult : ℤ) → ℤ → ℤ
step_factor event reference mult t = relative (step_parts event) 1 reference mult t

abbrev pub ramp2_factor : (start end reference mult : ℤ) → ℤ → ℤ
ramp2_factor start end reference mult t = relative (ramp2_parts start end) (nat_abs (end -ℤ start)) reference mult t

unfoldable pub shape_factor : Shape → ℤ → ℤ
shape_factor (S.Ramp r) t = ramp_factor r.a r.s0 r.b r.s1 t
shape_factor (S.Step s) t = step_factor s.event s.reference s.mult t
shape_factor (S.Ramp2 r) t = ramp2_factor r.start r.end r.reference r.mult t

abbrev pub function_factor : Function → ℤ → ℤ
function_factor f t = shape_factor f.shape t

-- factors are added
unfoldable pub sum_of : (ℕ → ℤ) → ℕ → ℤ
sum_of factor zero = pos 0
sum_of factor (suc n) = sum_of factor n +ℤ factor n

-- the factor of the first n functions; with none it is 1
unfoldable pub factor_of : List Function → ℕ → ℤ → ℤ
factor_of functions n t = cond (eqb n 0) (pos factor_one) (sum_of (λ i. function_factor (get_or functions i blank_function) t) n)

-- value · factor, rounded
unfoldable pub result_of : (value factor : ℤ) → ℤ
result_of value factor = round_z (value *ℤ factor) factor_one
