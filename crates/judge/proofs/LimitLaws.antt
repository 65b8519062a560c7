-- What limits say of sizes: a group line of its counts, a grid line of its far edges, its node range and its name.
use Prim.Native.Nat.{ℕ, ◌<◌, ◌≤◌}
use mathlib.Core.Path.{◌≡◌}
use mathlib.Core.Bool.{Bool, true, ◌&&◌, ◌||◌}
use mathlib.Core.Logic.{⊎_elim}
use native.Mathlib.Omega.{arith}
use lib.Dec.{leb, ltb, eqb}
use lib.IntN.{pos, nat_abs}
use lib.ListN.{get_or}
use borrow.Author.Tests.{leb-true, eqb-true}
use Rattle.numbers.specs.First.{every}
use Rattle.numbers.specs.Order.{between}
use Rattle.numbers.proofs.Bools.{and_left, and_right, or_cases}
use Rattle.numbers.proofs.FirstLaws.{every_at}
use Rattle.numbers.proofs.OrderLaws.{within_size}
use Rattle.group.specs.declared.Name.{Name}
use Rattle.group.specs.declared.Grid.{Grid}
use Rattle.group.specs.declared.Group.{Group}
use Rattle.group.specs.Numbers.{lon_edge_most, lat_edge_most, lon_edge_fits, lat_edge_fits, name_most, quantum_most, parameters_most, functions_most, grids_most, nodes_least, nodes_most, rank_most, start_most as start_limit}
use Rattle.group.specs.Limits.{name_byte, byte_fits, name_fits, spacing_fits, origin_fits, counts_fit, grid_fits, head_numbers_fit, head_fits}
use Rattle.group.proofs.LimitLaws.{spacing_size}
use Rattle.extent.specs.Extent.{inside}
use Rattle.extent.specs.Sizes.{Sized}
use Rattle.extent.specs.Sides.{Edges}
use Rattle.extent.proofs.SideLaws.{edges_within}
use Rattle.judge.specs.Rules.{HeadLimits}

-- three and four tests in a row
module _ (a b c : Bool) (e : (a && b && c) ≡ true) where
  one_of_3 : a ≡ true
  one_of_3 = and_left a b (and_left (a && b) c e)

  two_of_3 : b ≡ true
  two_of_3 = and_right a b (and_left (a && b) c e)

  three_of_3 : c ≡ true
  three_of_3 = and_right (a && b) c e

module _ (a b c d : Bool) (e : (a && b && c && d) ≡ true) where
  first_three : (a && b && c) ≡ true
  first_three = and_left (a && b && c) d e

  four_of_4 : d ≡ true
  four_of_4 = and_right (a && b && c) d e

-- a count between two others
pub count_between : (a b n : ℕ) → between (pos a) (pos b) (pos n) ≡ true → (a ≤ n) × (n ≤ b)
count_between a b n e = (leb-true a n (and_left (leb a n) (leb n b) e), leb-true n b (and_right (leb a n) (leb n b) e))

-- a grid line within its limits
module _ (g : Grid) (e : grid_fits g ≡ true) where
  abbrev name_test : Bool
  name_test = name_fits g.name

  abbrev origin_test : Bool
  origin_test = origin_fits g.lon.0 g.lat.0 g.dlon g.dlat

  abbrev counts_test : Bool
  counts_test = counts_fit (pos g.ni) (pos g.nj) (pos g.rank) (pos g.start)

  pub name_good : name_fits g.name ≡ true
  unfolding grid_fits
  name_good = one_of_3 name_test origin_test counts_test e

  origin : origin_test ≡ true
  unfolding grid_fits
  origin = two_of_3 name_test origin_test counts_test e

  counts : counts_test ≡ true
  unfolding grid_fits
  counts = three_of_3 name_test origin_test counts_test e

  abbrev o1 : Bool
  o1 = lon_edge_fits g.lon.0

  abbrev o2 : Bool
  o2 = lat_edge_fits g.lat.0

  abbrev o3 : Bool
  o3 = spacing_fits g.dlon

  abbrev o4 : Bool
  o4 = spacing_fits g.dlat

  pub lon_size : nat_abs g.lon.0 ≤ lon_edge_most
  lon_size = within_size lon_edge_most g.lon.0 (one_of_3 o1 o2 o3 (first_three o1 o2 o3 o4 origin))

  pub lat_size : nat_abs g.lat.0 ≤ lat_edge_most
  lat_size = within_size lat_edge_most g.lat.0 (two_of_3 o1 o2 o3 (first_three o1 o2 o3 o4 origin))

  pub dlon_good : spacing_fits g.dlon ≡ true
  dlon_good = three_of_3 o1 o2 o3 (first_three o1 o2 o3 o4 origin)

  pub dlat_good : spacing_fits g.dlat ≡ true
  dlat_good = four_of_4 o1 o2 o3 o4 origin

  abbrev c1 : Bool
  c1 = between (pos nodes_least) (pos nodes_most) (pos g.ni)

  abbrev c2 : Bool
  c2 = between (pos nodes_least) (pos nodes_most) (pos g.nj)

  abbrev c3 : Bool
  c3 = between (pos 1) (pos rank_most) (pos g.rank)

  abbrev c4 : Bool
  c4 = between (pos 0) (pos start_limit) (pos g.start)

  pub ni_between : (nodes_least ≤ g.ni) × (g.ni ≤ nodes_most)
  ni_between = count_between nodes_least nodes_most g.ni (one_of_3 c1 c2 c3 (first_three c1 c2 c3 c4 counts))

  pub nj_between : (nodes_least ≤ g.nj) × (g.nj ≤ nodes_most)
  nj_between = count_between nodes_least nodes_most g.nj (two_of_3 c1 c2 c3 (first_three c1 c2 c3 c4 counts))

  pub rank_between : (1 ≤ g.rank) × (g.rank ≤ rank_most)
  rank_between = count_between 1 rank_most g.rank (three_of_3 c1 c2 c3 (first_three c1 c2 c3 c4 counts))

  pub start_most : g.start ≤ start_limit
  start_most = (count_between 0 start_limit g.start (four_of_4 c1 c2 c3 c4 counts)).1

  pub grid_sized : Sized g
  grid_sized =
      record {
        lon = record { at_size = lon_size; step_size = spacing_size g.dlon dlon_good; least = ni_between.0; most = ni_between.1 };
        lat = record { at_size = omega (arith, lat_size); step_size = spacing_size g.dlat dlat_good; least = nj_between.0; most = nj_between.1 };
        first = start_most;
      }

  -- with the far edges and the width within the limits, so are all four sides
  pub grid_edges : (np : ℕ) → inside np g ≡ true → Edges g
  grid_edges np h = edges_within np g h grid_sized lat_size

-- a byte of a well-formed name is a byte
alphabet : (b : ℕ) → name_byte b ≡ true → b < 256
alphabet b e =
    ⊎_elim
    (λ p. ⊎_elim
    (λ q. ⊎_elim
    (λ r. ⊎_elim
    (λ s. omega (arith, leb-true b 90 (and_right (leb 65 b) (leb b 90) s)))
    (λ s. omega (arith, leb-true b 122 (and_right (leb 97 b) (leb b 122) s)))
    (or_cases (leb 65 b && leb b 90) (leb 97 b && leb b 122) r))
    (λ r. omega (arith, leb-true b 57 (and_right (leb 48 b) (leb b 57) r)))
    (or_cases ((leb 65 b && leb b 90) || (leb 97 b && leb b 122)) (leb 48 b && leb b 57) q))
    (λ q. omega (arith, eqb-true b 95 q))
    (or_cases ((leb 65 b && leb b 90) || (leb 97 b && leb b 122) || (leb 48 b && leb b 57)) (eqb b 95) p))
    (λ p. omega (arith, eqb-true b 45 p))
    (or_cases ((leb 65 b && leb b 90) || (leb 97 b && leb b 122) || (leb 48 b && leb b 57) || eqb b 95) (eqb b 45) e)

pub name_bytes : (n : Name) → name_fits n ≡ true → (k : ℕ) → k < name_most → get_or n.bytes k 0 < 256
unfolding name_fits byte_fits
name_bytes n e k l =
    let b = get_or n.bytes k 0 in
    ⊎_elim
    (λ p. alphabet b (and_right (ltb k n.len) (name_byte b) p))
    (λ p. omega (arith, eqb-true b 0 (and_right (leb n.len k) (eqb b 0) p)))
    (or_cases (ltb k n.len && name_byte b) (leb n.len k && eqb b 0)
    (every_at (byte_fits n) name_most k (three_of_3 (leb 1 n.len) (leb n.len name_most) (every (byte_fits n) name_most) e) l))

-- a group line within its limits
module _ (g : Group) (e : head_fits g ≡ true) where
  numbers_good : head_numbers_fit (pos g.quantum) (pos g.parameters) (pos g.functions) (pos g.grids) ≡ true
  unfolding head_fits
  numbers_good = and_right (name_fits g.name) _ e

  abbrev h1 : Bool
  h1 = between (pos 0) (pos quantum_most) (pos g.quantum)

  abbrev h2 : Bool
  h2 = between (pos 1) (pos parameters_most) (pos g.parameters)

  abbrev h3 : Bool
  h3 = between (pos 0) (pos functions_most) (pos g.functions)

  abbrev h4 : Bool
  h4 = between (pos 1) (pos grids_most) (pos g.grids)

  pub quantum_most_lem : g.quantum ≤ quantum_most
  quantum_most_lem = (count_between 0 quantum_most g.quantum (one_of_3 h1 h2 h3 (first_three h1 h2 h3 h4 numbers_good))).1

  pub parameters_between : (1 ≤ g.parameters) × (g.parameters ≤ parameters_most)
  parameters_between = count_between 1 parameters_most g.parameters (two_of_3 h1 h2 h3 (first_three h1 h2 h3 h4 numbers_good))

  pub functions_most_lem : g.functions ≤ functions_most
  functions_most_lem = (count_between 0 functions_most g.functions (three_of_3 h1 h2 h3 (first_three h1 h2 h3 h4 numbers_good))).1

  pub grids_between : (1 ≤ g.grids) × (g.grids ≤ grids_most)
  grids_between = count_between 1 grids_most g.grids (four_of_4 h1 h2 h3 h4 numbers_good)

  pub head_sized : HeadLimits g
  head_sized = record { functions = functions_most_lem; grids = grids_between.1; parameters = parameters_between.1 }
