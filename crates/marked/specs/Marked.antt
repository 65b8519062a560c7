-- Document 01's marked cases M1 to M12: one statement over one table, in document 01's numbers.
use Rattle.std.specs.Prelude.{ℕ, ◌-◌, ◌≡◌, List, [], ◌∷◌, ◌++◌, ℤ, pos, neg_ℤ, replicate, length, Result, Ok, Err}
use Rattle.group.specs.declared.Name.{Name}
use Rattle.group.specs.declared.Unit.TheVariants.{Metre}
use Rattle.group.specs.declared.Shape.TheVariants as S
use Rattle.group.specs.declared.Function.{Function}
use Rattle.group.specs.declared.Grid.{Grid}
use Rattle.group.specs.declared.Group.{Group}
use Rattle.group.specs.declared.Point.{Point}
use Rattle.group.specs.declared.Refusal.{Refusal}
use Rattle.group.specs.Refusals.{refusal, no_refusal, refusal_of}
use Rattle.group.specs.Blank.{blank_function, blank_grid}
use Rattle.group.specs.Numbers.{mark}
use Rattle.day.specs.Day.{factor_of}
use Rattle.fix.specs.Answers.{lookup_grid, results_of}
use Rattle.lookup.specs.Lookup.{looked}
use Rattle.inforce.specs.declared.Area.{Area}
use Rattle.inforce.specs.declared.GridInForce.{GridInForce}
use Rattle.inforce.specs.declared.InForce.{InForce}
use Rattle.inforce.specs.InForce.{blank_entry, in_force_of}
use Rattle.fix.specs.declared.Fix.{Fix}

-- ---- the groups

-- a name by its bytes
abbrev pub name : List ℕ → Name
name bytes = record { bytes = bytes ++ replicate (24 - length bytes) 0; len = length bytes }

-- a grid over the latitudes 0 to 10, from a longitude on, with nodes 10 mas apart
abbrev pub grid : Name → (lon ni rank : ℕ) → Grid
grid n x ni r =
    record {
      name = n;
      lon = record { 0 = pos x };
      lat = record { 0 = pos 0 };
      dlon = pos 10;
      dlat = pos 10;
      ni = ni;
      nj = 2;
      rank = r;
      start = 0;
    }

-- the group `dock` in metres, Q 13 and NP 1, with these functions and grids
abbrev pub dock : List Function → List Grid → Group
dock functions grids =
    record {
      name = name (100 ∷ 111 ∷ 99 ∷ 107 ∷ []);
      unit = Metre;
      quantum = 13;
      parameters = 1;
      functions = length functions;
      grids = length grids;
      function = functions ++ replicate (8 - length functions) blank_function;
      grid = grids ++ replicate (64 - length grids) blank_grid;
    }

-- its grid `basin` over the longitudes 0 to 20, alone, with these functions
abbrev pub basin : List Function → Group
basin functions = dock functions (grid (name (98 ∷ 97 ∷ 115 ∷ 105 ∷ 110 ∷ [])) 0 3 1 ∷ [])

-- its ramp: document 01's header is `basin (ramp ∷ [])`
abbrev pub ramp : Function
ramp = record { shape = S.Ramp (record { a = pos 100; s0 = pos 0; b = pos 200; s1 = pos 1000000 }) }

-- M11 and M12: G1 of rank 3 over 0..20, G2 of rank 1 over 0..10, and G3 of rank 2 from a longitude to 10 beyond
abbrev pub three : (lon : ℕ) → Group
three x = dock [] (grid (name (71 ∷ 49 ∷ [])) 0 3 3 ∷ grid (name (71 ∷ 50 ∷ [])) 0 2 1 ∷ grid (name (71 ∷ 51 ∷ [])) x 2 2 ∷ [])

-- ---- what is answered, in document 01's numbers

-- of a lookup: the refusal's number and place, the grid and the results
pub record CaseAnswer : Type 0 where
  pub refused : Refusal
  pub grid : ℕ
  pub results : List ℤ

abbrev pub case_answer_of : Result Fix Refusal → CaseAnswer
case_answer_of l = record { refused = refusal_of l; grid = lookup_grid l; results = results_of l 0 ∷ results_of l 1 ∷ results_of l 2 ∷ [] }

-- a result in grid 1; a refusal with no place
abbrev pub result : ℤ → CaseAnswer
result z = record { refused = no_refusal; grid = 1; results = z ∷ pos 0 ∷ pos 0 ∷ [] }

abbrev pub refused_with : ℕ → CaseAnswer
refused_with number = record { refused = refusal number 0; grid = 0; results = pos 0 ∷ pos 0 ∷ pos 0 ∷ [] }

-- of the grids in force: the refusal's number and place, the count and 64 entries
pub record CaseList : Type 0 where
  pub refused : Refusal
  pub count : ℕ
  pub entries : List GridInForce

abbrev pub case_list_of : Result InForce Refusal → CaseList
case_list_of (Ok l) = record { refused = no_refusal; count = l.count; entries = l.entries }
case_list_of (Err r) = record { refused = r; count = 0; entries = replicate 64 blank_entry }

abbrev pub entry : (grid lon lat : ℕ) → GridInForce
entry k x y = record { grid = k; lon = record { 0 = pos x }; lat = record { 0 = pos y } }

abbrev pub in_order : List GridInForce → CaseList
in_order es = record { refused = no_refusal; count = length es; entries = es ++ replicate (64 - length es) blank_entry }

-- ---- the statement

abbrev pub point : (lon lat : ℕ) → Point
point x y = record { lon = record { 0 = pos x }; lat = record { 0 = pos y } }

abbrev pub area : (west east south north : ℕ) → Area
area w e s n =
    record {
      lon = record { west = record { 0 = pos w }; east = record { 0 = pos e } };
      lat = record { south = record { 0 = pos s }; north = record { 0 = pos n } };
    }

-- a marked case: what is handed over, and what is answered
pub data Case : Type 0 where
  -- a lookup in `basin` with these nodes, and no functions
  lookup : List ℤ → Point → CaseAnswer → Case
  -- the day factor with its one ramp
  factor : (day : ℕ) → (factor : ℤ) → Case
  -- the grids in force
  in_force : Group → Area → CaseList → Case

unfoldable pub CaseHolds : Case → Type 0
CaseHolds (lookup nodes p answer) = case_answer_of (looked (basin []) nodes p (pos 0)) ≡ answer
CaseHolds (factor day f) = factor_of (basin (ramp ∷ [])).function (basin (ramp ∷ [])).functions (pos day) ≡ f
CaseHolds (in_force g a answer) = case_list_of (in_force_of g a) ≡ answer

unfoldable pub AllHold : List Case → Type 0
AllHold [] = Unit {0}
AllHold (c ∷ cs) = CaseHolds c × AllHold cs

-- ---- the table

-- the nodes of `basin`, row by row
abbrev pub nodes : (a b c d e f : ℤ) → List ℤ
nodes a b c d e f = a ∷ b ∷ c ∷ d ∷ e ∷ f ∷ []

abbrev pub plain_nodes : List ℤ
plain_nodes = nodes (pos 0) (pos 10) (pos 20) (pos 100) (pos 110) (pos 120)

-- the same with the mark at node (1, 0)
abbrev pub marked_nodes : List ℤ
marked_nodes = nodes (pos 0) mark (pos 20) (pos 100) (pos 110) (pos 120)

-- the four corners of the first cell
abbrev pub corners : (a b c d : ℤ) → List ℤ
corners a b c d = nodes a b (pos 0) c d (pos 0)

abbrev pub minus : ℕ → ℤ
minus n = neg_ℤ (pos n)

unfoldable pub table : List Case
table =
    -- M1, M2, M3
    lookup plain_nodes (point 5 5) (result (pos 55))
    ∷ lookup plain_nodes (point 20 10) (result (pos 120))
    ∷ lookup plain_nodes (point 21 10) (refused_with 7)
    -- M4, M5, M6, M7
    ∷ lookup (corners (pos 0) (pos 1) (pos 0) (pos 1)) (point 5 5) (result (pos 0))
    ∷ lookup (corners (pos 1) (pos 2) (pos 1) (pos 2)) (point 5 5) (result (pos 2))
    ∷ lookup (corners (pos 0) (minus 1) (pos 0) (minus 1)) (point 5 5) (result (pos 0))
    ∷ lookup (corners (minus 1) (minus 2) (minus 1) (minus 2)) (point 5 5) (result (minus 2))
    -- M8, M9
    ∷ lookup marked_nodes (point 0 5) (result (pos 50))
    ∷ lookup marked_nodes (point 1 5) (refused_with 8)
    -- M10
    ∷ factor 99 (pos 0)
    ∷ factor 133 (pos 330000)
    ∷ factor 200 (pos 1000000)
    -- M11, M12
    ∷ in_force (three 10) (area 0 20 0 10) (in_order (entry 2 0 0 ∷ entry 3 11 0 ∷ []))
    ∷ in_force (three 12) (area 0 20 0 10) (in_order (entry 2 0 0 ∷ entry 3 12 0 ∷ entry 1 11 0 ∷ []))
    ∷ []
