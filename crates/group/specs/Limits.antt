-- Refusal 2: the limits of each line's numbers, well-formed names, and zero in what is not used.
-- A line's numbers are judged as signed numbers, so that one definition serves a record and a text.
use Rattle.std.specs.Prelude.{ℕ, Bool, false, ◌&&◌, ◌||◌, leb, ltb, eqb, ℤ, pos, negsuc, neg_ℤ, get_or}
use Rattle.std.specs.Int.Signed.{le_z, lt_z}
use Rattle.numbers.specs.First.{every}
use Rattle.numbers.specs.Order.{between}
use Rattle.group.specs.Numbers.{lon_edge_fits, lat_edge_fits, day_fits, function_factor_fits, is_zero}
use Rattle.group.specs.Numbers.{name_most, quantum_most, parameters_most, functions_most, grids_most, spacing_most, nodes_least, nodes_most, rank_most, start_most}
use Rattle.group.specs.declared.Name.{Name}
use Rattle.group.specs.declared.Ramp.{Ramp}
use Rattle.group.specs.declared.Shape.{Shape}
use Rattle.group.specs.declared.Shape.TheVariants as S
use Rattle.group.specs.declared.Function.{Function}
use Rattle.group.specs.declared.Grid.{Grid}
use Rattle.group.specs.declared.Group.{Group}

-- A to Z, a to z, 0 to 9, _ or -
abbrev pub name_byte : ℕ → Bool
name_byte b = (leb 65 b && leb b 90) || (leb 97 b && leb b 122) || (leb 48 b && leb b 57) || eqb b 95 || eqb b 45

-- byte k of a name: of the alphabet within its length, and 0 behind it
unfoldable pub byte_fits : Name → ℕ → Bool
byte_fits n k = (ltb k n.len && name_byte (get_or n.bytes k 0)) || (leb n.len k && eqb (get_or n.bytes k 0) 0)

-- 1 to 24 bytes of the alphabet, and 0 behind them
unfoldable pub name_fits : Name → Bool
name_fits n = leb 1 n.len && leb n.len name_most && every (byte_fits n) name_most

-- no byte, and 0 in all 24 places
unfoldable pub name_blank : Name → Bool
name_blank n = eqb n.len 0 && every (byte_fits n) name_most

-- a size from 1 on
abbrev pub spacing_fits : ℤ → Bool
spacing_fits d = between (neg_ℤ (pos spacing_most)) (negsuc 0) d || between (pos 1) (pos spacing_most) d

-- Q NP and the counts of functions and grids
abbrev pub head_numbers_fit : ℤ → ℤ → ℤ → ℤ → Bool
head_numbers_fit quantum parameters functions grids =
    between (pos 0) (pos quantum_most) quantum && between (pos 1) (pos parameters_most) parameters && between (pos 0) (pos functions_most) functions
    && between (pos 1) (pos grids_most) grids

-- `ramp` A S0 B S1, and A not above B
abbrev pub ramp_numbers_fit : ℤ → ℤ → ℤ → ℤ → Bool
ramp_numbers_fit a s0 b s1 = day_fits a && function_factor_fits s0 && day_fits b && function_factor_fits s1 && le_z a b

-- `step` EVENT REF MULT
abbrev pub step_numbers_fit : ℤ → ℤ → ℤ → Bool
step_numbers_fit event reference mult = day_fits event && day_fits reference && function_factor_fits mult

-- `ramp2` START END REF MULT, and START below END
abbrev pub ramp2_numbers_fit : ℤ → ℤ → ℤ → ℤ → Bool
ramp2_numbers_fit start end reference mult = day_fits start && day_fits end && day_fits reference && function_factor_fits mult && lt_z start end

-- LON LAT DLON DLAT
abbrev pub origin_fits : ℤ → ℤ → ℤ → ℤ → Bool
origin_fits lon lat dlon dlat = lon_edge_fits lon && lat_edge_fits lat && spacing_fits dlon && spacing_fits dlat

-- NI NJ RANK START
abbrev pub counts_fit : ℤ → ℤ → ℤ → ℤ → Bool
counts_fit ni nj rank start =
    between (pos nodes_least) (pos nodes_most) ni && between (pos nodes_least) (pos nodes_most) nj && between (pos 1) (pos rank_most) rank
    && between (pos 0) (pos start_most) start

-- the group line
unfoldable pub head_fits : Group → Bool
head_fits g =
    name_fits g.name && head_numbers_fit (pos g.quantum) (pos g.parameters) (pos g.functions) (pos g.grids)

-- a function line, of any kind
abbrev pub shape_fits : Shape → Bool
shape_fits (S.Ramp r) = ramp_numbers_fit r.a r.s0 r.b r.s1
shape_fits (S.Step s) = step_numbers_fit s.event s.reference s.mult
shape_fits (S.Ramp2 r) = ramp2_numbers_fit r.start r.end r.reference r.mult

abbrev pub function_fits : Function → Bool
function_fits f = shape_fits f.shape

-- a grid line
unfoldable pub grid_fits : Grid → Bool
grid_fits g =
    name_fits g.name && origin_fits g.lon.0 g.lat.0 g.dlon g.dlat
    && counts_fit (pos g.ni) (pos g.nj) (pos g.rank) (pos g.start)

-- an unused function: a ramp of four zeros
abbrev pub ramp_blank : Ramp → Bool
ramp_blank r = is_zero r.a && is_zero r.s0 && is_zero r.b && is_zero r.s1

abbrev pub shape_blank : Shape → Bool
shape_blank (S.Ramp r) = ramp_blank r
shape_blank (S.Step s) = false
shape_blank (S.Ramp2 r) = false

abbrev pub function_blank : Function → Bool
function_blank f = shape_blank f.shape

-- an unused grid: no name and eight zeros
unfoldable pub grid_blank : Grid → Bool
grid_blank g =
    name_blank g.name && (is_zero g.lon.0 && is_zero g.lat.0 && is_zero g.dlon && is_zero g.dlat)
    && (eqb g.ni 0 && eqb g.nj 0 && eqb g.rank 0 && eqb g.start 0)
