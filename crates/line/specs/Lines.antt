-- The lines of a header: a keyword, some texts, and numbers.
use Rattle.std.specs.Prelude.{ℕ, ◌+◌, Bool, cond, ◌&&◌, List, [], ◌∷◌, map, eqb, length, get_or, drop, ℤ, pos, nat_abs, Option, Some, None, Result, Ok, Err}
use Rattle.std.proofs.Math.Option as M
use Rattle.text.specs.Parts.{split, join}
use Rattle.text.specs.Decimal.{int_text}
use Rattle.text.specs.Fields.{same, read_ints}
use Rattle.group.specs.Limits.{head_numbers_fit, shape_fits, origin_fits, counts_fit}
use Rattle.group.specs.Shapes.{shape_ints, int_at, ramp_of, step_of, ramp2_of}
use Rattle.group.specs.declared.Refusal.{Refusal}
use Rattle.group.specs.declared.Name.{Name}
use Rattle.group.specs.declared.Unit as U
use Rattle.group.specs.declared.Shape.{Shape}
use Rattle.group.specs.declared.Shape.TheVariants as S
use Rattle.group.specs.declared.Function.{Function}
use Rattle.group.specs.declared.Grid.{Grid}
use Rattle.line.specs.declared.Head.{Head}
use Rattle.line.specs.Names.{read_name, name_text, read_unit, unit_text}
use Rattle.group.specs.Refusals.{refusal}

-- fields with a keyword in front of them: those of this kind, or else of the others
module _ {E A : Type 0} where
  abbrev pub keyed : List ℕ → (List (List ℕ) → Result A E) → (List (List ℕ) → Result A E) → List (List ℕ) → Result A E
  keyed word these others [] = others []
  keyed word these others (k ∷ fs) = cond (same k word) (these fs) (others (k ∷ fs))

-- the fields behind a keyword: how many texts and numbers they are, how the texts are read, the limits of the numbers, the record
-- that is made of them, and the faults: fields that aren't of this form, then a number outside its limit
module _ {B A E : Type 0} (texts numbers : ℕ) (read : List (List ℕ) → Option B) (fits : List ℤ → Bool) (make : B → List ℤ → A) (form limit : E) where
  abbrev pub with_limits : B → List ℤ → Result A E
  with_limits b zs = cond (fits zs) (Ok (make b zs)) (Err limit)

  abbrev pub formed : Option B → M.Option (List ℤ) → Result A E
  formed None zs = Err form
  formed (Some b) M.none = Err form
  formed (Some b) (M.some zs) = with_limits b zs

  abbrev pub fields : List (List ℕ) → Result A E
  fields fs = cond (eqb (length fs) (texts + numbers)) (formed (read fs) (read_ints (drop texts fs))) (Err form)

  -- a line of one kind
  abbrev pub line_of : List ℕ → List ℕ → Result A E
  line_of word line = keyed word fields (λ fs. Err form) (split 9 line)

-- ---- `group` NAME UNIT Q NP functions grids

abbrev pub group_keyword : List ℕ
group_keyword = 103 ∷ 114 ∷ 111 ∷ 117 ∷ 112 ∷ []

abbrev pub paired : Option Name → Option U.Unit → Option (Name × U.Unit)
paired None u = None
paired (Some n) None = None
paired (Some n) (Some u) = Some (n, u)

abbrev pub head_texts : List (List ℕ) → Option (Name × U.Unit)
head_texts fs = paired (read_name (get_or fs 0 [])) (read_unit (get_or fs 1 []))

abbrev pub head_fit : List ℤ → Bool
head_fit zs = head_numbers_fit (int_at zs 0) (int_at zs 1) (int_at zs 2) (int_at zs 3)

abbrev pub head_of : Name × U.Unit → List ℤ → Head
head_of t zs =
    record {
      name = t.0;
      unit = t.1;
      quantum = nat_abs (int_at zs 0);
      parameters = nat_abs (int_at zs 1);
      functions = nat_abs (int_at zs 2);
      grids = nat_abs (int_at zs 3);
    }

abbrev pub head_line : ℕ → List ℕ → Result Head Refusal
head_line n = line_of 2 4 head_texts head_fit head_of (refusal 1 n) (refusal 2 n) group_keyword

abbrev pub head_ints : Head → List ℤ
head_ints h = pos h.quantum ∷ pos h.parameters ∷ pos h.functions ∷ pos h.grids ∷ []

-- a group line, without the line feed
abbrev pub head_text : Head → List ℕ
head_text h = join 9 (group_keyword ∷ name_text h.name ∷ unit_text h.unit ∷ map int_text (head_ints h))

-- ---- `ramp` A S0 B S1, `step` EVENT REF MULT, `ramp2` START END REF MULT

abbrev pub ramp_keyword : List ℕ
ramp_keyword = 114 ∷ 97 ∷ 109 ∷ 112 ∷ []

abbrev pub step_keyword : List ℕ
step_keyword = 115 ∷ 116 ∷ 101 ∷ 112 ∷ []

abbrev pub ramp2_keyword : List ℕ
ramp2_keyword = 114 ∷ 97 ∷ 109 ∷ 112 ∷ 50 ∷ []

abbrev pub no_texts : List (List ℕ) → Option (Unit {0})
no_texts fs = Some tt

abbrev pub of_shape : (List ℤ → Shape) → Unit {0} → List ℤ → Function
of_shape shape t zs = record { shape = shape zs }

abbrev pub shape_fit : (List ℤ → Shape) → List ℤ → Bool
shape_fit shape zs = shape_fits (shape zs)

-- the fields behind the keyword of one kind: so many numbers, and the shape that they make
abbrev pub shape_fields : ℕ → (List ℤ → Shape) → ℕ → List (List ℕ) → Result Function Refusal
shape_fields numbers shape n = fields 0 numbers no_texts (shape_fit shape) (of_shape shape) (refusal 1 n) (refusal 2 n)

-- a line's first word decides its kind
abbrev pub function_fields : ℕ → List (List ℕ) → Result Function Refusal
function_fields n =
    keyed ramp_keyword (shape_fields 4 ramp_of n)
    (keyed step_keyword (shape_fields 3 step_of n)
    (keyed ramp2_keyword (shape_fields 4 ramp2_of n)
    (λ fs. Err (refusal 1 n))))

abbrev pub function_line : ℕ → List ℕ → Result Function Refusal
function_line n line = function_fields n (split 9 line)

abbrev pub shape_keyword : Shape → List ℕ
shape_keyword (S.Ramp r) = ramp_keyword
shape_keyword (S.Step s) = step_keyword
shape_keyword (S.Ramp2 r) = ramp2_keyword

-- a function line, without the line feed
abbrev pub function_text : Function → List ℕ
function_text f = join 9 (shape_keyword f.shape ∷ map int_text (shape_ints f.shape))

-- ---- `grid` NAME LON LAT DLON DLAT NI NJ RANK START

abbrev pub grid_keyword : List ℕ
grid_keyword = 103 ∷ 114 ∷ 105 ∷ 100 ∷ []

abbrev pub grid_texts : List (List ℕ) → Option Name
grid_texts fs = read_name (get_or fs 0 [])

abbrev pub grid_fit : List ℤ → Bool
grid_fit zs = origin_fits (int_at zs 0) (int_at zs 1) (int_at zs 2) (int_at zs 3) && counts_fit (int_at zs 4) (int_at zs 5) (int_at zs 6) (int_at zs 7)

abbrev pub grid_of : Name → List ℤ → Grid
grid_of n zs =
    record {
      name = n;
      lon = record { 0 = int_at zs 0 };
      lat = record { 0 = int_at zs 1 };
      dlon = int_at zs 2;
      dlat = int_at zs 3;
      ni = nat_abs (int_at zs 4);
      nj = nat_abs (int_at zs 5);
      rank = nat_abs (int_at zs 6);
      start = nat_abs (int_at zs 7);
    }

abbrev pub grid_line : ℕ → List ℕ → Result Grid Refusal
grid_line n = line_of 1 8 grid_texts grid_fit grid_of (refusal 1 n) (refusal 2 n) grid_keyword

abbrev pub grid_ints : Grid → List ℤ
grid_ints g = g.lon.0 ∷ g.lat.0 ∷ g.dlon ∷ g.dlat ∷ pos g.ni ∷ pos g.nj ∷ pos g.rank ∷ pos g.start ∷ []

-- a grid line, without the line feed
abbrev pub grid_text : Grid → List ℕ
grid_text g = join 9 (grid_keyword ∷ name_text g.name ∷ map int_text (grid_ints g))
