-- Document 01's table 'Numbers', each limit once and by its meaning, and the tests that cite them.
-- Longitude and latitude have three meanings: how far a grid's edges may lie, where points and areas may lie, and from where distances
-- are counted. Equal digits of two meanings are two definitions.
use Rattle.std.specs.Prelude.{ℕ, suc, ◌*◌, ◌/◌, Bool, ℤ, pos, neg_ℤ}
use Rattle.numbers.specs.Order.{between, within}

-- ---- longitudes and latitudes, in mas

abbrev pub mas_in_degree : ℕ
mas_in_degree = 3600000

-- a grid's edges, the first node's and the last one's, lie no farther from 0
abbrev pub lon_edge_most : ℕ
lon_edge_most = 1296000000

abbrev pub lat_edge_most : ℕ
lat_edge_most = 324000000

-- a whole turn: the longest way from a grid's first node to its last along a parallel
abbrev pub lon_turn : ℕ
lon_turn = 1296000000

-- points and the sides of areas lie no farther from 0
abbrev pub lon_most : ℕ
lon_most = 648000000

abbrev pub lat_most : ℕ
lat_most = 324000000

-- distances are counted from so far west and so far south of 0; of longitudes, a turn beyond every edge
abbrev pub lon_zero : ℕ
lon_zero = 2592000000

abbrev pub lat_zero : ℕ
lat_zero = 324000000

abbrev pub lon_edge_fits : ℤ → Bool
lon_edge_fits x = within lon_edge_most x

abbrev pub lat_edge_fits : ℤ → Bool
lat_edge_fits y = within lat_edge_most y

abbrev pub lon_admitted : ℤ → Bool
lon_admitted x = within lon_most x

abbrev pub lat_admitted : ℤ → Bool
lat_admitted y = within lat_most y

-- ---- a group and its grids

-- bytes of a name
abbrev pub name_most : ℕ
name_most = 24

abbrev pub quantum_most : ℕ
quantum_most = 20

abbrev pub parameters_most : ℕ
parameters_most = 3

abbrev pub functions_most : ℕ
functions_most = 8

abbrev pub grids_most : ℕ
grids_most = 64

-- the size of a spacing
abbrev pub spacing_most : ℕ
spacing_most = 36000000

-- nodes along an axis
abbrev pub nodes_least : ℕ
nodes_least = 2

abbrev pub nodes_most : ℕ
nodes_most = 16384

abbrev pub rank_most : ℕ
rank_most = 1000

-- START, the first position of a grid in the node list
abbrev pub start_most : ℕ
start_most = 16777215

-- where every node range has ended
abbrev pub list_most : ℕ
list_most = suc start_most

-- ---- what a node holds, in steps

abbrev pub value_most : ℕ
value_most = 2147483647

-- the no-data mark
abbrev pub mark : ℤ
mark = neg_ℤ (pos 2147483648)

abbrev pub value_fits : ℤ → Bool
value_fits v = within value_most v

abbrev pub is_mark : ℤ → Bool
is_mark v = between mark mark v

-- ---- days and factors

abbrev pub day_most : ℕ
day_most = 1000000

abbrev pub day_fits : ℤ → Bool
day_fits t = within day_most t

-- the factor 1 in millionths
abbrev pub factor_one : ℕ
factor_one = 1000000

-- the size of a function's factor
abbrev pub function_factor_most : ℕ
function_factor_most = 10000000

abbrev pub function_factor_fits : ℤ → Bool
function_factor_fits s = within function_factor_most s

-- the size of a sum of factors, and of a result in steps
abbrev pub factor_most : ℕ
factor_most = functions_most * function_factor_most

abbrev pub result_most : ℕ
result_most = value_most * factor_most / factor_one

-- ---- numbers handed over

-- in an unused entry
abbrev pub is_zero : ℤ → Bool
is_zero z = within 0 z
