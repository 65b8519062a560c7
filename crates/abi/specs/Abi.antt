-- A group as the C interface passes it: a list of signed numbers. What is not there counts as 0.
use Rattle.std.specs.Prelude.{ℕ, zero, suc, ◌+◌, ◌*◌, ◌/◌, ◌%◌, ◌^◌, min, ◌≤◌, ◌<◌, ◌≡◌, Bool, cond, ◌&&◌, List, [], ◌∷◌, ◌++◌, ℤ, pos, negsuc, length, get_or}
use Rattle.numbers.specs.Order.{between, beyond, count_of}
use Rattle.group.specs.declared.Name.{Name}
use Rattle.group.specs.declared.Unit.{Unit}
use Rattle.group.specs.declared.Unit.TheVariants.{ArcSecond, Metre}
use Rattle.group.specs.declared.Shape.{Shape}
use Rattle.group.specs.declared.Shape.TheVariants as S
use Rattle.group.specs.declared.Function.{Function}
use Rattle.group.specs.declared.Grid.{Grid}
use Rattle.group.specs.declared.Group.{Group}
use Rattle.group.specs.Record.{function_at, grid_at}
use Rattle.group.specs.Shapes.{shape_ints, int_at, ramp_of, step_of, ramp2_of}
use Rattle.group.specs.Numbers.{name_most, functions_most, grids_most, is_zero}
use Rattle.abi.specs.Words.{length_index, unit_index, quantum_index, parameters_index, functions_index, grids_index, function_index, grid_index}

-- the greatest signed number
abbrev pub signed_most : ℕ
signed_most = 9223372036854775807

abbrev pub is_kind : ℕ → ℤ → Bool
is_kind n z = between (pos n) (pos n) z

-- ---- from the lists to the record

abbrev pub number_at : List ℤ → ℕ → ℤ
number_at ns k = get_or ns k (pos 0)

abbrev pub byte_at : List ℕ → ℕ → ℕ
byte_at bs k = get_or bs k 0

abbrev pub count_at : List ℤ → ℕ → ℕ
count_at ns k = count_of (number_at ns k)

-- the first n values of a function
unfoldable pub list_of : {A : Type 0} → (ℕ → A) → ℕ → List A
list_of f zero = []
list_of f (suc n) = f zero ∷ list_of (λ i. f (suc i)) n

-- byte j of eight that a number holds, the lowest first
abbrev pub byte_of : ℕ → ℕ → ℕ
byte_of w j = w / 2 ^ (8 * j) % 256

-- the name of a length whose bytes stand in three numbers from place k on; one below zero holds no byte of a name
unfoldable pub name_of_words : List ℤ → ℕ → ℕ → Name
name_of_words ns k len = record { bytes = list_of (λ j. byte_of (count_at ns (k + j / 8)) (j % 8)) name_most; len = len }

-- 0 is arc-second, 1 is metre
abbrev pub unit_of : ℤ → Unit
unit_of (pos zero) = ArcSecond
unit_of (pos (suc n)) = Metre
unit_of (negsuc n) = Metre

-- a unit other than these two is refused as Q would be: 2 at line 1
abbrev pub quantum_of : List ℤ → ℕ
quantum_of ns = cond (between (pos 0) (pos 1) (number_at ns unit_index)) (count_at ns quantum_index) beyond

-- what stands for numbers that are of no kind: a function that 2 refuses, used or not
abbrev pub no_function : Function
no_function = record { shape = S.Ramp (record { a = pos signed_most; s0 = pos 0; b = pos 0; s1 = pos 0 }) }

-- the function of a kind and four numbers: 0 is a ramp, 1 a step, 2 a ramp2; where the fourth, which a step hasn't got, is not 0, they are of no kind
unfoldable pub function_of : (kind a b c d : ℤ) → Function
function_of kind a b c d =
    let zs = a ∷ b ∷ c ∷ d ∷ [] in
    cond (is_kind 0 kind) (record { shape = ramp_of zs })
    (cond (is_kind 1 kind && is_zero d) (record { shape = step_of zs })
    (cond (is_kind 2 kind) (record { shape = ramp2_of zs })
    no_function))

-- function k
unfoldable pub function_of_words : List ℤ → ℕ → Function
function_of_words ns k =
    function_of (number_at ns (function_index k 0)) (number_at ns (function_index k 1)) (number_at ns (function_index k 2)) (number_at ns (function_index k 3))
    (number_at ns (function_index k 4))

-- grid k: name, name length, LON LAT DLON DLAT NI NJ RANK START
unfoldable pub grid_of_words : List ℤ → ℕ → Grid
grid_of_words ns k =
    record {
      name = name_of_words ns (grid_index k 0) (count_at ns (grid_index k length_index));
      lon = record { 0 = number_at ns (grid_index k 4) };
      lat = record { 0 = number_at ns (grid_index k 5) };
      dlon = number_at ns (grid_index k 6);
      dlat = number_at ns (grid_index k 7);
      ni = count_at ns (grid_index k 8);
      nj = count_at ns (grid_index k 9);
      rank = count_at ns (grid_index k 10);
      start = count_at ns (grid_index k 11);
    }

-- name, name length, unit, Q, NP, counts of functions and grids, all functions, all grids
unfoldable pub group_of_words : List ℤ → Group
group_of_words ns =
    record {
      name = name_of_words ns 0 (count_at ns length_index);
      unit = unit_of (number_at ns unit_index);
      quantum = quantum_of ns;
      parameters = count_at ns parameters_index;
      functions = count_at ns functions_index;
      grids = count_at ns grids_index;
      function = list_of (function_of_words ns) functions_most;
      grid = list_of (grid_of_words ns) grids_most;
    }

-- ---- from the record to the list

-- an unsigned number as it is stored: one above the greatest signed number, which no accepted group has, as that greatest
abbrev pub stored : ℕ → ℤ
stored n = pos (min n signed_most)

abbrev pub unit_number : Unit → ℤ
unit_number ArcSecond = pos 0
unit_number Metre = pos 1

-- the first n lists that a function gives, one behind the other
unfoldable pub joined : {A : Type 0} → (ℕ → List A) → ℕ → List A
joined f zero = []
joined f (suc n) = joined f n ++ f n

abbrev pub kind_of : Shape → ℕ
kind_of (S.Ramp r) = 0
kind_of (S.Step s) = 1
kind_of (S.Ramp2 r) = 2

-- number j of a function, 0 where its kind hasn't got it
abbrev pub shape_int : Shape → ℕ → ℤ
shape_int s j = int_at (shape_ints s) j

abbrev pub function_numbers : Function → List ℤ
function_numbers f = let s = f.shape in pos (kind_of s) ∷ shape_int s 0 ∷ shape_int s 1 ∷ shape_int s 2 ∷ shape_int s 3 ∷ []

-- four bytes as one number, the first lowest
abbrev pub four_of : ℕ → ℕ → ℕ → ℕ → ℕ
four_of a b c d = a + b * 256 + c * 65536 + d * 16777216

-- number w of the three that hold the bytes of a name
unfoldable pub word_of : List ℕ → ℕ → ℕ
word_of bs w =
    let i = w * 8 in
    four_of (byte_at bs i) (byte_at bs (i + 1)) (byte_at bs (i + 2)) (byte_at bs (i + 3))
    + four_of (byte_at bs (i + 4)) (byte_at bs (i + 5)) (byte_at bs (i + 6)) (byte_at bs (i + 7)) * 4294967296

abbrev pub name_number : Name → ℕ → ℤ
name_number n w = stored (word_of n.bytes w)

abbrev pub grid_numbers : Grid → List ℤ
grid_numbers g =
    name_number g.name 0 ∷ name_number g.name 1 ∷ name_number g.name 2 ∷ stored g.name.len
    ∷ g.lon.0 ∷ g.lat.0 ∷ g.dlon ∷ g.dlat ∷ stored g.ni ∷ stored g.nj ∷ stored g.rank ∷ stored g.start ∷ []

abbrev pub head_numbers : Group → List ℤ
head_numbers g =
    name_number g.name 0 ∷ name_number g.name 1 ∷ name_number g.name 2 ∷ stored g.name.len
    ∷ unit_number g.unit ∷ stored g.quantum ∷ stored g.parameters ∷ stored g.functions ∷ stored g.grids ∷ []

-- the numbers of a group
unfoldable pub numbers_of : Group → List ℤ
numbers_of g = head_numbers g ++ (joined (λ k. function_numbers (function_at g k)) functions_most ++ joined (λ k. grid_numbers (grid_at g k)) grids_most)

-- ---- what makes a group the same again: all functions and grids, whole names of bytes below 128, and no unsigned number above the greatest signed one

pub record KeptName (n : Name) : Type 0 where
  pub bytes : length n.bytes ≡ name_most
  pub plain : (j : ℕ) → j < name_most → byte_at n.bytes j < 128
  pub len : n.len ≤ signed_most

pub record KeptGrid (g : Grid) : Type 0 where
  pub name : KeptName g.name
  pub ni : g.ni ≤ signed_most
  pub nj : g.nj ≤ signed_most
  pub rank : g.rank ≤ signed_most
  pub start : g.start ≤ signed_most

-- the group line
pub record KeptHead (g : Group) : Type 0 where
  pub name : KeptName g.name
  pub quantum : g.quantum ≤ signed_most
  pub parameters : g.parameters ≤ signed_most
  pub functions : g.functions ≤ signed_most
  pub grids : g.grids ≤ signed_most

pub record KeptGroup (g : Group) : Type 0 where
  pub head : KeptHead g
  pub function : length g.function ≡ functions_most
  pub grid : length g.grid ≡ grids_most
  pub kept : (k : ℕ) → k < grids_most → KeptGrid (grid_at g k)

-- ---- what every record of the machine has: all functions and grids, and names of 24 bytes

pub record MachineName (n : Name) : Type 0 where
  pub bytes : length n.bytes ≡ name_most
  pub small : (j : ℕ) → j < name_most → byte_at n.bytes j < 256

pub record MachineGroup (g : Group) : Type 0 where
  pub name : MachineName g.name
  pub function : length g.function ≡ functions_most
  pub grid : length g.grid ≡ grids_most
  pub names : (k : ℕ) → k < grids_most → MachineName (grid_at g k).name
