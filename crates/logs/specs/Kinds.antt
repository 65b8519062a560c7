-- What a line of a log can fail, and its number in document 02.
use Rattle.std.specs.Prelude.{ℕ, Option, Some, None}
use Rattle.logs.specs.declared.Kind.{Kind}
use Rattle.logs.specs.declared.Kind.TheVariants as K

-- the first test that a line fails, or none
abbrev pub Failed : Type 0
Failed = Option Kind

abbrev pub passes : Failed
passes = None

abbrev pub form_fault : Failed
form_fault = Some K.Form

abbrev pub lookup_fault : Failed
lookup_fault = Some K.Lookup

abbrev pub grid_fault : Failed
grid_fault = Some K.Grid

abbrev pub shift_fault : Failed
shift_fault = Some K.Shift

abbrev pub kind_number : Kind → ℕ
kind_number K.Form = 1
kind_number K.Lookup = 2
kind_number K.Grid = 3
kind_number K.Shift = 4

-- 0 of a line that passes
abbrev pub failed_number : Failed → ℕ
failed_number None = 0
failed_number (Some k) = kind_number k
