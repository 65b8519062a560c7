-- Names and units as text.
use Rattle.std.specs.Prelude.{ℕ, ◌-◌, Bool, true, cond, ◌&&◌, List, [], ◌∷◌, ◌++◌, leb, length, take, replicate, Option, Some, None}
use Rattle.text.specs.Fields.{same}
use Rattle.group.specs.Numbers.{name_most}
use Rattle.group.specs.Limits.{name_byte}
use Rattle.group.specs.declared.Name.{Name}
use Rattle.group.specs.declared.Unit as U
use Rattle.group.specs.declared.Unit.TheVariants.{ArcSecond, Metre}

abbrev pub all_name_bytes : List ℕ → Bool
all_name_bytes [] = true
all_name_bytes (x ∷ xs) = name_byte x && all_name_bytes xs

-- 1 to name_most bytes that may stand in a name
unfoldable pub is_name : List ℕ → Bool
is_name f = leb 1 (length f) && leb (length f) name_most && all_name_bytes f

-- the name with zeros behind it
abbrev pub name_of : List ℕ → Name
name_of f = record { bytes = f ++ replicate (name_most - length f) 0; len = length f }

abbrev pub name_text : Name → List ℕ
name_text n = take n.len n.bytes

-- a field as a name
abbrev pub read_name : List ℕ → Option Name
read_name f = cond (is_name f) (Some (name_of f)) None

-- `arc-second` and `metre`
abbrev pub unit_text : U.Unit → List ℕ
unit_text ArcSecond = 97 ∷ 114 ∷ 99 ∷ 45 ∷ 115 ∷ 101 ∷ 99 ∷ 111 ∷ 110 ∷ 100 ∷ []
unit_text Metre = 109 ∷ 101 ∷ 116 ∷ 114 ∷ 101 ∷ []

-- a field as a unit
abbrev pub read_unit : List ℕ → Option U.Unit
read_unit f = cond (same f (unit_text ArcSecond)) (Some ArcSecond) (cond (same f (unit_text Metre)) (Some Metre) None)
