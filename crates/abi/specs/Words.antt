-- Where the numbers of a group stand in the list that the C interface passes: the head, then all functions, then all grids.
use Rattle.std.specs.Prelude.{ℕ, ◌+◌, ◌*◌, ◌/◌}
use Rattle.group.specs.Numbers.{name_most, functions_most, grids_most}

-- the bytes of a name, eight a number
abbrev pub name_words : ℕ
name_words = name_most / 8

-- the head: name, name length, unit, Q, NP, counts of functions and grids
abbrev pub length_index : ℕ
length_index = name_words

abbrev pub unit_index : ℕ
unit_index = 4

abbrev pub quantum_index : ℕ
quantum_index = 5

abbrev pub parameters_index : ℕ
parameters_index = 6

abbrev pub functions_index : ℕ
functions_index = 7

abbrev pub grids_index : ℕ
grids_index = 8

abbrev pub head_words : ℕ
head_words = 9

-- a function: its kind and four numbers
abbrev pub function_words : ℕ
function_words = 5

-- a grid: name, name length, LON LAT DLON DLAT NI NJ RANK START
abbrev pub grid_words : ℕ
grid_words = 12

-- where the grids begin, and how many numbers there are
abbrev pub grids_from : ℕ
grids_from = head_words + functions_most * function_words

abbrev pub group_words : ℕ
group_words = grids_from + grids_most * grid_words

-- the index of number j of function k, of grid k
abbrev pub function_index : ℕ → ℕ → ℕ
function_index k j = k * function_words + (head_words + j)

abbrev pub grid_index : ℕ → ℕ → ℕ
grid_index k j = k * grid_words + (grids_from + j)
