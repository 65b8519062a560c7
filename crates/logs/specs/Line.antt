-- A line of a log, `fix` LON LAT DAY GRID V1 .. VNP: its form, what it says, and its verdict by the lookup.
use Rattle.std.specs.Prelude.{ℕ, ◌+◌, ◌-◌, Bool, cond, ◌&&◌, List, [], ◌∷◌, map, eqb, ℤ, length, get_or, take, drop, Result, Ok, Err}
use Rattle.std.proofs.Math.Option.{Option, none, some}
use Rattle.std.specs.Int.Signed.{le_z}
use Rattle.numbers.specs.First.{every}
use Rattle.text.specs.Parts.{split, join}
use Rattle.text.specs.Decimal.{int_text}
use Rattle.text.specs.Fields.{same, read_ints}
use Rattle.group.specs.declared.Group.{Group}
use Rattle.group.specs.declared.Position.{Position}
use Rattle.group.specs.Record.{grid_at}
use Rattle.group.specs.Shapes.{int_at}
use Rattle.line.specs.Names.{is_name, name_text}
use Rattle.fix.specs.Answers.{result_in}
use Rattle.lookup.specs.Lookup.{looked}
use Rattle.exercise.specs.Exercise.{point_at}
use Rattle.group.specs.declared.Refusal.{Refusal}
use Rattle.fix.specs.declared.Fix.{Fix}
use Rattle.logs.specs.Kinds.{Failed, passes, form_fault, lookup_fault, grid_fault, shift_fault}

-- what a line says: a position, a grid's name and the shifts in steps
pub record Entry : Type 0 where
  pub position : Position
  pub name : List ℕ
  pub shifts : List ℤ

-- ---- its form

abbrev pub fix_keyword : List ℕ
fix_keyword = 102 ∷ 105 ∷ 120 ∷ []

abbrev pub position_of : List ℤ → Position
position_of zs = record { lon = record { 0 = int_at zs 0 }; lat = record { 0 = int_at zs 1 }; day = int_at zs 2 }

-- a name between three numbers and the shifts, where all of these are numbers
abbrev pub entry_with : List ℕ → Option (List ℤ) → Option (List ℤ) → Option Entry
entry_with name none vs = none
entry_with name (some zs) none = none
entry_with name (some zs) (some vs) = some (record { position = position_of zs; name = name; shifts = vs })

-- the word, five fields with NP shifts behind them, a name in the fifth, and numbers of any size in the others
abbrev pub entry_in : ℕ → List (List ℕ) → Option Entry
entry_in np fs =
    cond ((same (get_or fs 0 []) fix_keyword && eqb (length fs) (5 + np)) && is_name (get_or fs 4 []))
    (entry_with (get_or fs 4 []) (read_ints (take 3 (drop 1 fs))) (read_ints (drop 5 fs)))
    none

-- what a line says, if it is of the form
unfoldable pub read_entry : ℕ → List ℕ → Option Entry
read_entry np line = entry_in np (split 9 line)

-- the line that says it, without its line feed
abbrev pub entry_text : Entry → List ℕ
entry_text e =
    join 9 (fix_keyword ∷ int_text e.position.lon.0 ∷ int_text e.position.lat.0 ∷ int_text e.position.day ∷ e.name ∷ map int_text e.shifts)

-- ---- its verdict: the kind of the first test that it fails, or none

-- the name of the grid numbered n, from 1
abbrev pub grid_name : Group → ℕ → List ℕ
grid_name g n = name_text (grid_at g (n - 1)).name

abbrev pub equal : ℤ → ℤ → Bool
equal x y = le_z x y && le_z y x

-- each of the first np shifts is the result
abbrev pub same_shifts : ℕ → List ℤ → (ℕ → ℤ) → Bool
same_shifts np shifts result = every (λ q. equal (int_at shifts q) (result q)) np

-- of a line of the form, which names a grid and shifts, by what the lookup answers: refused, another grid, another shift
unfoldable pub found_kind : Group → List ℕ → List ℤ → Result Fix Refusal → Failed
found_kind g name shifts (Err r) = lookup_fault
found_kind g name shifts (Ok f) =
    cond (same name (grid_name g f.grid))
    (cond (same_shifts g.parameters shifts (result_in f)) passes shift_fault)
    grid_fault

abbrev pub entry_kind : Group → List ℤ → Option Entry → Failed
entry_kind g nodes none = form_fault
entry_kind g nodes (some e) = found_kind g e.name e.shifts (looked g nodes (point_at e.position) e.position.day)

unfoldable pub line_kind : Group → List ℤ → List ℕ → Failed
line_kind g nodes line = entry_kind g nodes (read_entry g.parameters line)
