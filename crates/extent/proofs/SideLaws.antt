-- Extents in unsigned numbers: from an accepted grid, the same order, and the same points held, round the earth.
use Prim.Native.Nat.{ℕ, zero, suc, ◌+◌, ◌-◌, ◌*◌, ◌≤◌}
use mathlib.Core.Path.{◌≡◌, refl, sym, ap, ◌∙◌}
use mathlib.Core.Bool.{and_assoc, Bool, true, false, cond, ◌&&◌}
use native.Mathlib.Omega.{arith}
use borrow.Author.Tests.{leb-true, ltb-true}
use lib.Dec.{leb}
use lib.IntN.{ℤ, pos, ◌+ℤ◌, ◌*ℤ◌, nat_abs}
use lib.Signed.{le_z}
use Rattle.group.specs.Numbers.{lon_edge_most, lat_edge_most, lon_edge_fits, lat_edge_fits, lon_turn, lon_zero, lat_zero, list_most}
use Rattle.numbers.specs.First.{first}
use Rattle.numbers.specs.Circle.{turns, turned_by}
use Rattle.numbers.specs.Order.{raised}
use Rattle.numbers.proofs.Bools.{and_left, and_right}
use Rattle.numbers.proofs.FirstLaws.{first_same, first_hit, some_same, some_and}
use Rattle.numbers.proofs.Diff.{diff_self, diff_+, nat_abs_diff}
use Rattle.numbers.proofs.Machine.{add_size, less_size, raised_add, raised_less, diff_raised}
use Rattle.numbers.proofs.OrderLaws.{within_size, size_mul, raised_order, raised_within, min_max}
use Rattle.group.specs.declared.Grid.{Grid}
use Rattle.extent.specs.declared.Sides.{Sides}
use Rattle.extent.specs.declared.LonSpan.{LonSpan}
use Rattle.extent.specs.Extent.{lon_axis, lat_axis, far_edge, span_of, lon_span, lat_span, width, inside, lon_lies, lat_lies, turned, lon_holds, holds, lon_used, node_end}
use Rattle.extent.specs.Sizes.{Sized}
use Rattle.extent.specs.Sides.{lon_from_least, lat_from_least, sides_of, Edges, sides_lie, sides_hold}

-- the lesser and the greater of two numbers are no larger than the larger in size
pick_size : (t : Bool) (a b : ℤ) (m : ℕ) → nat_abs a ≤ m → nat_abs b ≤ m → nat_abs (cond t a b) ≤ m
pick_size true a b m f g = f
pick_size false a b m f g = g

-- ---- a grid inside the limits of 4

module _ (np : ℕ) (g : Grid) (e : inside np g ≡ true) where
  abbrev lon_test : Bool
  lon_test = lon_edge_fits (far_edge (lon_axis g))

  abbrev lat_test : Bool
  lat_test = lat_edge_fits (far_edge (lat_axis g))

  abbrev width_test : Bool
  width_test = leb (width g) lon_turn

  edge_tests : (lon_test && lat_test && width_test) ≡ true
  unfolding inside
  edge_tests = and_left (lon_test && lat_test && width_test) (leb (node_end np g) list_most) e

  pub far_lon : nat_abs (far_edge (lon_axis g)) ≤ lon_edge_most
  far_lon = within_size lon_edge_most (far_edge (lon_axis g)) (and_left lon_test lat_test (and_left (lon_test && lat_test) width_test edge_tests))

  far_lat : nat_abs (far_edge (lat_axis g)) ≤ lat_edge_most
  far_lat = within_size lat_edge_most (far_edge (lat_axis g)) (and_right lon_test lat_test (and_left (lon_test && lat_test) width_test edge_tests))

  pub inside_range : node_end np g ≤ list_most
  unfolding inside
  inside_range = leb-true _ _ (and_right (lon_test && lat_test && width_test) (leb (node_end np g) list_most) e)

  pub edges_within : Sized g → nat_abs g.lat.0 ≤ lat_edge_most → Edges g
  unfolding lon_span lat_span span_of
  edges_within z south-limit =
      record {
        west = omega (arith, pick_size (le_z g.lon.0 (far_edge (lon_axis g))) g.lon.0 (far_edge (lon_axis g)) lon_edge_most z.lon.at_size far_lon);
        east = omega (arith, pick_size (le_z g.lon.0 (far_edge (lon_axis g))) (far_edge (lon_axis g)) g.lon.0 lon_edge_most far_lon z.lon.at_size);
        south = omega (arith, pick_size (le_z g.lat.0 (far_edge (lat_axis g))) g.lat.0 (far_edge (lat_axis g)) lat_edge_most south-limit far_lat);
        north = omega (arith, pick_size (le_z g.lat.0 (far_edge (lat_axis g))) (far_edge (lat_axis g)) g.lat.0 lat_edge_most far_lat south-limit);
        narrow = leb-true _ _ (and_right (lon_test && lat_test) width_test edge_tests);
      }

-- ---- the order of the sides

pub lon_order : (g : Grid) → le_z (lon_span g).west.0 (lon_span g).east.0 ≡ true
unfolding lon_span span_of
lon_order g = min_max g.lon.0 (far_edge (lon_axis g))

pub lat_order : (g : Grid) → le_z (lat_span g).south.0 (lat_span g).north.0 ≡ true
unfolding lat_span span_of
lat_order g = min_max g.lat.0 (far_edge (lat_axis g))

-- between two numbers, w apart, the way is no longer than w
apart_width : (m : ℕ) (a w : ℤ) (t : Bool) → nat_abs (cond t a (a +ℤ w)) ≤ m → nat_abs (cond t (a +ℤ w) a) ≤ m
    → raised m (cond t (a +ℤ w) a) ≤ raised m (cond t a (a +ℤ w)) + nat_abs w
apart_width m a w true h k =
    let d = (diff_+ (diff_self a) (diff_self w)).diff in let n = nat_abs_diff w in
    omega (arith, (diff_raised m a h).diff, (diff_raised m (a +ℤ w) k).diff)
apart_width m a w false h k =
    let d = (diff_+ (diff_self a) (diff_self w)).diff in let n = nat_abs_diff w in
    omega (arith, (diff_raised m a k).diff, (diff_raised m (a +ℤ w) h).diff)

-- a grid's sides lie from one turn to three from the zero, and its east side at most a turn from its west side
pub record SidesPlaced (s : Sides) : Type 0 where
  pub least : lon_turn ≤ s.west
  pub order : s.west ≤ s.east
  pub most : s.east ≤ 3 * lon_turn
  pub narrow : s.east ≤ s.west + lon_turn
  pub lats : s.south ≤ s.north

-- by the nodes and their spacing
pub wide : (g : Grid) → Edges g → lon_from_least (lon_span g).east.0 ≤ lon_from_least (lon_span g).west.0 + width g
unfolding lon_span span_of far_edge
wide g e =
    let w = pos (g.ni - 1) *ℤ g.dlon in
    let t = le_z g.lon.0 (g.lon.0 +ℤ w) in
    omega (arith, apart_width lon_zero g.lon.0 w t (omega (arith, e.west)) (omega (arith, e.east)), size_mul (pos (g.ni - 1)) g.dlon)

pub sides_placed : (g : Grid) → Edges g → SidesPlaced (sides_of g)
unfolding sides_of
sides_placed g e =
    let w = raised_within lon_zero lon_edge_most (lon_span g).west.0 e.west (omega arith) in
    let x = raised_within lon_zero lon_edge_most (lon_span g).east.0 e.east (omega arith) in
    record {
      least = omega (arith, w.0);
      order =
          leb-true _ _
          (sym (raised_order lon_zero (lon_span g).west.0 (lon_span g).east.0 (omega (arith, e.west)) (omega (arith, e.east))) ∙ lon_order g);
      most = omega (arith, x.1);
      narrow = omega (arith, wide g e, e.narrow);
      lats =
          leb-true _ _
          (sym (raised_order lat_zero (lat_span g).south.0 (lat_span g).north.0 (omega (arith, e.south)) (omega (arith, e.north))) ∙ lat_order g);
    }

-- ---- a point within the extent

pub lies_sides : (g : Grid) → Edges g → (x y : ℤ) → nat_abs x ≤ lon_zero → nat_abs y ≤ lat_zero
    → (lon_lies (lon_span g) x && lat_lies (lat_span g) y) ≡ sides_lie (sides_of g) (lon_from_least x) (lat_from_least y)
unfolding sides_of
lies_sides g e x y h k =
    rw (
      raised_order lon_zero (lon_span g).west.0 x (omega (arith, e.west)) h,
      raised_order lon_zero x (lon_span g).east.0 h (omega (arith, e.east)),
      raised_order lat_zero (lat_span g).south.0 y (omega (arith, e.south)) k,
      raised_order lat_zero y (lat_span g).north.0 k (omega (arith, e.north)),
    )
    (and_assoc (leb (sides_of g).west (lon_from_least x)) (leb (lon_from_least x) (sides_of g).east) _)

-- ---- a longitude turned

module _ (x : ℤ) (h : nat_abs x ≤ lon_edge_most) where
  pub turned_size : (k : ℕ) → nat_abs (turned k x) ≤ lon_zero
  turned_size zero = omega arith
  turned_size (suc zero) = add_size lon_zero lon_turn x (omega arith)
  turned_size (suc (suc k)) = less_size lon_zero lon_turn x (omega arith)

  pub turned_raised : (k : ℕ) → lon_from_least (turned k x) ≡ turned_by lon_turn k (lon_from_least x)
  turned_raised zero = omega arith
  turned_raised (suc zero) = omega (arith, raised_add lon_zero lon_turn x (omega arith))
  turned_raised (suc (suc k)) = omega (arith, raised_less lon_zero lon_turn x (omega arith))

-- ---- a point that a grid holds, and the longitude used

module _ (g : Grid) (e : Edges g) (x y : ℤ) (h : nat_abs x ≤ lon_edge_most) (v : nat_abs y ≤ lat_zero) where
  abbrev at : ℕ
  at = lon_from_least x

  lies_turned : (k : ℕ) → (lon_lies (lon_span g) (turned k x) && lat_lies (lat_span g) y) ≡ sides_lie (sides_of g) (turned_by lon_turn k at) (lat_from_least y)
  lies_turned k =
      lies_sides g e (turned k x) y (turned_size x h k) v
      ∙ ap (λ (u : ℕ). sides_lie (sides_of g) u (lat_from_least y)) (turned_raised x h k)

  pub holds_sides : holds g x y ≡ sides_hold (sides_of g) at (lat_from_least y)
  unfolding holds lon_holds sides_hold
  holds_sides =
      some_and (λ k. lon_lies (lon_span g) (turned k x)) turns (lat_lies (lat_span g) y)
      ∙ some_same (λ k. lon_lies (lon_span g) (turned k x) && lat_lies (lat_span g) y) (λ k. sides_lie (sides_of g) (turned_by lon_turn k at) (lat_from_least y)) turns
      (λ k l. lies_turned k)

  module _ (lat : lat_lies (lat_span g) y ≡ true) where
    abbrev turn_used_lem : ℕ
    turn_used_lem = first (λ k. sides_lie (sides_of g) (turned_by lon_turn k at) (lat_from_least y)) turns

    same_turn : first (λ k. lon_lies (lon_span g) (turned k x)) turns ≡ turn_used_lem
    same_turn =
        first_same (λ k. lon_lies (lon_span g) (turned k x)) (λ k. sides_lie (sides_of g) (turned_by lon_turn k at) (lat_from_least y)) turns
        (λ k l. sym (and_true (lon_lies (lon_span g) (turned k x))) ∙ ap (λ (b : Bool). lon_lies (lon_span g) (turned k x) && b) (sym lat) ∙ lies_turned k)
      where
        and_true : (b : Bool) → (b && true) ≡ b
        and_true true = refl
        and_true false = refl

    pub used_sides : lon_from_least (lon_used (lon_span g) x) ≡ turned_by lon_turn turn_used_lem at
    unfolding lon_used
    used_sides = turned_raised x h (first (λ k. lon_lies (lon_span g) (turned k x)) turns) ∙ ap (λ (k : ℕ). turned_by lon_turn k at) same_turn

pub used_size : (s : LonSpan) (x : ℤ) → nat_abs x ≤ lon_edge_most → nat_abs (lon_used s x) ≤ lon_zero
unfolding lon_used
used_size s x h = turned_size x h (first (λ k. lon_lies s (turned k x)) turns)

-- the longitude used lies in the extent
pub used_lies : (s : LonSpan) (x : ℤ) → lon_holds s x ≡ true → lon_lies s (lon_used s x) ≡ true
unfolding lon_holds lon_used
used_lies s x e = first_hit (λ k. lon_lies s (turned k x)) turns (ltb-true _ _ e)
