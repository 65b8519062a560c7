-- Order 5 of what a grid holds and which longitude it uses; and a grid written a whole turn farther holds the same admitted points.
use Prim.Native.Nat.{ℕ, zero, suc, ◌+◌, ◌-◌, ◌*◌, ◌≤◌, ◌<◌}
use mathlib.Core.Path.{◌≡◌, refl, sym, ap, ◌∙◌, subst}
use mathlib.Core.Bool.{Bool, true, false, cond, ◌&&◌}
use mathlib.Core.Logic.{◌⊎◌, inl, inr, ⊎_elim}
use native.Mathlib.Omega.{arith}
use borrow.Author.Tests.{leb-true, le-leb}
use lib.Dec.{leb}
use lib.IntN.{ℤ, pos, ◌+ℤ◌, ◌-ℤ◌, ◌*ℤ◌, nat_abs}
use lib.Signed.{le_z}
use Rattle.group.specs.Numbers.{lon_edge_most, lon_most, lon_turn, lon_zero, lon_admitted, lon_edge_fits, lat_edge_fits, list_most}
use Rattle.numbers.specs.First.{first, some}
use Rattle.numbers.specs.Order.{raised, min_z, max_z}
use Rattle.numbers.specs.Circle.{turns, shift_of, turned_by}
use Rattle.numbers.proofs.Bools.{and_left, and_right, both, untrue}
use Rattle.numbers.proofs.Diff.{diff_self, diff_pos, diff_+, diff__, diff_≡}
use Rattle.numbers.proofs.FirstLaws.{first_at, some_by, by_some}
use Rattle.numbers.proofs.OrderLaws.{raised_order, raised_within, leb_same, le_z_size, within_size}
use Rattle.numbers.proofs.Machine.{lowered_raised}
use Rattle.group.specs.declared.Grid.{Grid}
use Rattle.extent.specs.Extent.{lon_axis, lat_axis, far_edge, span_of, lon_span, lat_span, lon_lies, lat_lies, turned, lon_holds, holds, lon_used, node_end, width, inside, moved_grid}
use Rattle.extent.specs.Sides.{lon_from_least, sides_of, Edges, ahead}
use Rattle.extent.specs.Order5.{Lies, HoldsTurned, FirstUsed, TooWide}
use Rattle.extent.proofs.SideLaws.{wide, sides_placed, turned_size, turned_raised, used_lies}
use Rattle.extent.proofs.MeetLaws.{ahead_is, holds_ahead}

module _ (g : Grid) (x y : ℤ) where
  abbrev test : ℕ → Bool
  test k = lon_lies (lon_span g) (turned k x)

  abbrev lat : Bool
  lat = lat_lies (lat_span g) y

  -- 'a grid holds a point if ..', both ways
  pub holds_turned : HoldsTurned g x y
  unfolding holds lon_holds
  holds_turned = (one, ⊎_elim (λ l. at 0 (omega arith) l) (⊎_elim (λ l. at 1 (omega arith) l) (λ l. at 2 (omega arith) l)))
    where
      way : (k : ℕ) → test k ≡ true → lat ≡ true → Lies g x y ⊎ (Lies g (x +ℤ pos lon_turn) y ⊎ Lies g (x -ℤ pos lon_turn) y)
      way zero e f = inl (e, f)
      way (suc zero) e f = inr (inl (e, f))
      way (suc (suc k)) e f = inr (inr (e, f))

      one : (some test turns && lat) ≡ true → Lies g x y ⊎ (Lies g (x +ℤ pos lon_turn) y ⊎ Lies g (x -ℤ pos lon_turn) y)
      one e = let i = by_some test turns (and_left (some test turns) lat e) in way i.0 i.2 (and_right (some test turns) lat e)

      at : (k : ℕ) → k < turns → Lies g (turned k x) y → (some test turns && lat) ≡ true
      at k l h = both (some_by test turns k l h.0) h.1

  -- 'the first that does, in that order, is used for the cell'
  pub first_used : FirstUsed g x y
  unfolding holds lon_used
  first_used =
      record {
        itself = λ l. ap (λ (k : ℕ). turned k x) (first_at test turns 0 (omega arith) (λ k m. absurd (omega arith)) l.0);
        plus = λ n l. ap (λ (k : ℕ). turned k x) (first_at test turns 1 (omega arith) (λ k m. clear k 0 (omega arith) (no l n)) l.0);
        minus = λ n m l.
            ap (λ (k : ℕ). turned k x)
            (first_at test turns 2 (omega arith) (λ k o. either k (omega arith) (no l n) (no l m)) l.0);
        lies = λ e. (used_lies (lon_span g) x (and_left (lon_holds (lon_span g) x) lat e), and_right (lon_holds (lon_span g) x) lat e);
      }
    where
      no : {b : Bool} {P : Type 0} → P × (lat ≡ true) → ((b ≡ true) × (lat ≡ true) → ⊥) → b ≡ false
      no {b} l n = untrue b (λ e. n (e, l.1))

      clear : (k i : ℕ) → k ≡ i → test i ≡ false → test k ≡ false
      clear k i e h = subst (λ (j : ℕ). test j ≡ false) (sym e) h

      either : (k : ℕ) → k < 2 → test 0 ≡ false → test 1 ≡ false → test k ≡ false
      either zero l a b = a
      either (suc zero) l a b = b
      either (suc (suc k)) l a b = absurd (omega arith)

-- ---- the width's limit

pub too_wide : (np : ℕ) (g : Grid) → TooWide np g
unfolding inside
too_wide np g =
    record {
      wider = λ l. untrue (inside np g) (λ e. let s = leb-true (width g) lon_turn (and_right (lon && lat) wide (and_left (lon && lat && wide) end e)) in omega arith);
      a_turn = λ e a b n. both (both (both a b) (le-leb (width g) lon_turn (omega arith))) (le-leb (node_end np g) list_most n);
    }
  where
    lon : Bool
    lon = lon_edge_fits (far_edge (lon_axis g))

    lat : Bool
    lat = lat_edge_fits (far_edge (lat_axis g))

    wide : Bool
    wide = leb (width g) lon_turn

    end : Bool
    end = leb (node_end np g) list_most

-- ---- a grid written a whole turn farther

-- it keeps the limits of 4, where its far edge does
pub moved_inside : (k : ℕ) (g : Grid) (np : ℕ) → inside np g ≡ true → lon_edge_fits (far_edge (lon_axis (moved_grid k g))) ≡ true → inside np (moved_grid k g) ≡ true
unfolding inside
moved_inside k g np e l =
    let a = lon_edge_fits (far_edge (lon_axis g)) in let b = lat_edge_fits (far_edge (lat_axis g)) in let c = leb (width g) lon_turn in
    let d = leb (node_end np g) list_most in
    let f = and_left (a && b && c) d e in
    both (both (both l (and_right a b (and_left (a && b) c f))) (and_right (a && b) c f)) (and_right (a && b && c) d e)

-- a sum turned
sum_turned : (k : ℕ) (a w : ℤ) → turned k a +ℤ w ≡ turned k (a +ℤ w)
sum_turned zero a w = refl
sum_turned (suc zero) a w =
    let p = (diff_+ (diff_+ (diff_self a) (diff_pos lon_turn)) (diff_self w)).diff in
    let q = (diff_+ (diff_+ (diff_self a) (diff_self w)) (diff_pos lon_turn)).diff in
    diff_≡ (omega arith)
sum_turned (suc (suc k)) a w =
    let p = (diff_+ (diff__ (diff_self a) (diff_pos lon_turn)) (diff_self w)).diff in
    let q = (diff__ (diff_+ (diff_self a) (diff_self w)) (diff_pos lon_turn)).diff in
    diff_≡ (omega arith)

-- two longitudes turned alike lie as far apart
apart_turned : (k : ℕ) (a b : ℤ) → turned k a -ℤ turned k b ≡ a -ℤ b
apart_turned zero a b = refl
apart_turned (suc zero) a b =
    let p = (diff__ (diff_+ (diff_self a) (diff_pos lon_turn)) (diff_+ (diff_self b) (diff_pos lon_turn))).diff in
    let q = (diff__ (diff_self a) (diff_self b)).diff in
    diff_≡ (omega arith)
apart_turned (suc (suc k)) a b =
    let p = (diff__ (diff__ (diff_self a) (diff_pos lon_turn)) (diff__ (diff_self b) (diff_pos lon_turn))).diff in
    let q = (diff__ (diff_self a) (diff_self b)).diff in
    diff_≡ (omega arith)

-- two longitudes of edges turned alike keep their order
module _ (k : ℕ) (a b : ℤ) (h : nat_abs a ≤ lon_edge_most) (l : nat_abs b ≤ lon_edge_most) where
  order_turned : le_z (turned k a) (turned k b) ≡ le_z a b
  order_turned =
      let p = raised_within lon_zero lon_edge_most a h (omega arith) in let q = raised_within lon_zero lon_edge_most b l (omega arith) in
      raised_order lon_zero (turned k a) (turned k b) (turned_size a h k) (turned_size b l k)
      ∙ (λ i. leb (turned_raised a h k i) (turned_raised b l k i))
      ∙ go k (lon_from_least a) (lon_from_least b) (omega (arith, p.0)) (omega (arith, q.0))
      ∙ sym (raised_order lon_zero a b (omega arith) (omega arith))
    where
      go : (k m n : ℕ) → lon_turn ≤ m → lon_turn ≤ n → leb (turned_by lon_turn k m) (turned_by lon_turn k n) ≡ leb m n
      go zero m n u v = leb_same (m + lon_turn - lon_turn) (n + lon_turn - lon_turn) m n (λ r. omega arith) (λ r. omega arith)
      go (suc zero) m n u v = leb_same (m + (lon_turn + lon_turn) - lon_turn) (n + (lon_turn + lon_turn) - lon_turn) m n (λ r. omega arith) (λ r. omega arith)
      go (suc (suc k)) m n u v = leb_same (m + 0 - lon_turn) (n + 0 - lon_turn) m n (λ r. omega arith) (λ r. omega arith)

-- numbers of one raised number are one
same_raised : (m : ℕ) {y z : ℤ} → nat_abs y ≤ m → nat_abs z ≤ m → raised m y ≡ raised m z → y ≡ z
same_raised m {y} {z} h k e = sym (lowered_raised m y h) ∙ ap (λ (n : ℕ). pos n -ℤ pos m) e ∙ lowered_raised m z k

-- the longitude used lies between the sides, by its distance and by its size
module _ (g : Grid) (e : Edges g) (x : ℤ) where
  used_edge : lon_holds (lon_span g) x ≡ true → nat_abs (lon_used (lon_span g) x) ≤ lon_edge_most
  used_edge h =
      let l = used_lies (lon_span g) x h in let a = (lon_span g).west.0 in let b = (lon_span g).east.0 in let u = lon_used (lon_span g) x in
      le_z_size lon_edge_most a b u e.west e.east (and_left (le_z a u) (le_z u b) l) (and_right (le_z a u) (le_z u b) l)

  used_between : (s : nat_abs x ≤ lon_edge_most) → lon_holds (lon_span g) x ≡ true
      → let at = turned_by lon_turn (first (λ j. lon_lies (lon_span g) (turned j x)) turns) (lon_from_least x) in
      (lon_from_least (lon_span g).west.0 ≤ at) × (at ≤ lon_from_least (lon_span g).east.0)
  unfolding lon_used
  used_between s h =
      let l = used_lies (lon_span g) x h in let a = (lon_span g).west.0 in let b = (lon_span g).east.0 in
      let j = first (λ j. lon_lies (lon_span g) (turned j x)) turns in let u = turned j x in let r = turned_raised x s j in (
        subst (λ (n : ℕ). lon_from_least a ≤ n) r
            (leb-true _ _ (sym (raised_order lon_zero a u (omega (arith, e.west)) (turned_size x s j)) ∙ and_left (le_z a u) (le_z u b) l)),
        subst (λ (n : ℕ). n ≤ lon_from_least b) r
            (leb-true _ _ (sym (raised_order lon_zero u b (turned_size x s j) (omega (arith, e.east))) ∙ and_right (le_z a u) (le_z u b) l)),
      )

-- a shift is a number of whole turns
shift_turns : (i : ℕ) → (a : ℕ) × (shift_of lon_turn i ≡ a * lon_turn) × (a ≤ 2)
shift_turns zero = (1, omega arith, omega arith)
shift_turns (suc zero) = (2, omega arith, omega arith)
shift_turns (suc (suc i)) = (0, omega arith, omega arith)

-- between sides less than a turn apart lies only one of the longitudes a turn apart
one_turn : (x w e i j k : ℕ) → lon_turn ≤ w → lon_turn ≤ x → e < w + lon_turn → w ≤ turned_by lon_turn i x → turned_by lon_turn i x ≤ e
    → turned_by lon_turn k w ≤ turned_by lon_turn j x → turned_by lon_turn j x ≤ turned_by lon_turn k e → turned_by lon_turn j x ≡ turned_by lon_turn k (turned_by lon_turn i x)
one_turn x w e i j k a b c p q r s =
    let l = shift_turns i in let m = shift_turns j in let n = shift_turns k in
    go l.0 m.0 n.0 (shift_of lon_turn i) (shift_of lon_turn j) (shift_of lon_turn k) l.1 m.1 n.1 p q r s
  where
    go : (l m n u v t : ℕ) → u ≡ l * lon_turn → v ≡ m * lon_turn → t ≡ n * lon_turn → w ≤ x + u - lon_turn → x + u - lon_turn ≤ e
        → w + t - lon_turn ≤ x + v - lon_turn → x + v - lon_turn ≤ e + t - lon_turn → x + v - lon_turn ≡ x + u - lon_turn + t - lon_turn
    go l m n u v t d f g p q r s = omega arith

-- its sides are turned alike
module _ (k : ℕ) (g : Grid) (near : nat_abs g.lon.0 ≤ lon_edge_most) (far : nat_abs (far_edge (lon_axis g)) ≤ lon_edge_most) where
  abbrev w : ℤ
  w = pos (g.ni - 1) *ℤ g.dlon

  abbrev first_node : ℤ
  first_node = g.lon.0

  far_turned : far_edge (lon_axis (moved_grid k g)) ≡ turned k (far_edge (lon_axis g))
  unfolding far_edge
  far_turned = sum_turned k first_node w

  pick_turned : (t : Bool) (a b : ℤ) → cond t (turned k a) (turned k b) ≡ turned k (cond t a b)
  pick_turned true a b = refl
  pick_turned false a b = refl

  pub west_turned : (lon_span (moved_grid k g)).west.0 ≡ turned k (lon_span g).west.0
  unfolding lon_span span_of
  west_turned =
      let a = first_node in let b = far_edge (lon_axis g) in
      ap (λ (z : ℤ). min_z (turned k a) z) far_turned
      ∙ ap (λ (t : Bool). cond t (turned k a) (turned k b)) (order_turned k a b near far)
      ∙ pick_turned (le_z a b) a b

  pub east_turned : (lon_span (moved_grid k g)).east.0 ≡ turned k (lon_span g).east.0
  unfolding lon_span span_of
  east_turned =
      let a = first_node in let b = far_edge (lon_axis g) in
      ap (λ (z : ℤ). max_z (turned k a) z) far_turned
      ∙ ap (λ (t : Bool). cond t (turned k b) (turned k a)) (order_turned k a b near far)
      ∙ pick_turned (le_z a b) b a

  -- by distances
  module _ (e : Edges g) (f : Edges (moved_grid k g)) where
    west_at : lon_from_least (lon_span (moved_grid k g)).west.0 ≡ turned_by lon_turn k (lon_from_least (lon_span g).west.0)
    west_at = ap lon_from_least west_turned ∙ turned_raised (lon_span g).west.0 e.west k

    east_at : lon_from_least (lon_span (moved_grid k g)).east.0 ≡ turned_by lon_turn k (lon_from_least (lon_span g).east.0)
    east_at = ap lon_from_least east_turned ∙ turned_raised (lon_span g).east.0 e.east k

    placed : (lon_turn ≤ lon_from_least (lon_span g).west.0) × (lon_from_least (lon_span g).west.0 ≤ lon_from_least (lon_span g).east.0)
        × (lon_from_least (lon_span g).east.0 ≤ 3 * lon_turn) × (lon_from_least (lon_span (moved_grid k g)).west.0 ≤ 3 * lon_turn)
    unfolding sides_of
    placed = let p = sides_placed g e in let q = sides_placed (moved_grid k g) f in (p.least, p.order, p.most, omega (arith, q.order, q.most))

    -- it holds the same admitted longitudes
    holds_moved : (x : ℤ) → lon_admitted x ≡ true → lon_holds (lon_span (moved_grid k g)) x ≡ lon_holds (lon_span g) x
    holds_moved x admitted =
        let m = lon_from_least (lon_span g).west.0 in let n = lon_from_least (lon_span g).east.0 in let z = lon_from_least x in let p = placed in
        holds_ahead (moved_grid k g) f x admitted
        ∙ (λ i. leb (ahead (west_at i) z) (east_at i - west_at i))
        ∙ go k m n z p.0 p.1 p.2 (subst (λ (j : ℕ). j ≤ 3 * lon_turn) west_at p.3)
        ∙ sym (holds_ahead g e x admitted)
      where
        go : (k m n z : ℕ) → lon_turn ≤ m → m ≤ n → n ≤ 3 * lon_turn → turned_by lon_turn k m ≤ 3 * lon_turn
            → leb (ahead (turned_by lon_turn k m) z) (turned_by lon_turn k n - turned_by lon_turn k m) ≡ leb (ahead m z) (n - m)
        go zero m n z a b c d =
            let p = ahead_is (m + lon_turn - lon_turn) z d in let q = ahead_is m z (omega arith) in
            leb_same (ahead (m + lon_turn - lon_turn) z) ((n + lon_turn - lon_turn) - (m + lon_turn - lon_turn)) (ahead m z) (n - m) (λ r. omega arith) (λ r. omega arith)
        go (suc zero) m n z a b c d =
            let t = lon_turn + lon_turn in let p = ahead_is (m + t - lon_turn) z d in let q = ahead_is m z (omega arith) in
            leb_same (ahead (m + t - lon_turn) z) ((n + t - lon_turn) - (m + t - lon_turn)) (ahead m z) (n - m) (λ r. omega arith) (λ r. omega arith)
        go (suc (suc k)) m n z a b c d =
            let p = ahead_is (m + 0 - lon_turn) z d in let q = ahead_is m z (omega arith) in
            leb_same (ahead (m + 0 - lon_turn) z) ((n + 0 - lon_turn) - (m + 0 - lon_turn)) (ahead m z) (n - m) (λ r. omega arith) (λ r. omega arith)

    -- and the same admitted points
    pub point_moved : (x y : ℤ) → lon_admitted x ≡ true → holds (moved_grid k g) x y ≡ holds g x y
    unfolding holds lat_span
    point_moved x y admitted = ap (λ (b : Bool). b && lat_lies (lat_span g) y) (holds_moved x admitted)

    -- narrower than a turn, it uses the same longitude, turned alike
    pub used_moved : width g < lon_turn → (x : ℤ) → lon_admitted x ≡ true → lon_holds (lon_span g) x ≡ true
        → lon_used (lon_span (moved_grid k g)) x ≡ turned k (lon_used (lon_span g) x)
    unfolding lon_used
    used_moved narrow x admitted h =
        let i = first (λ j. lon_lies (lon_span g) (turned j x)) turns in
        let j = first (λ j. lon_lies (lon_span (moved_grid k g)) (turned j x)) turns in
        let size : nat_abs x ≤ lon_edge_most = omega (arith, within_size lon_most x admitted) in
        let u = used_between g e x size h in
        let v = used_between (moved_grid k g) f x size (holds_moved x admitted ∙ h) in
        let p = placed in let b = raised_within lon_zero lon_most x (within_size lon_most x admitted) (omega arith) in
        same_raised lon_zero (turned_size x size j) (turned_size (lon_used (lon_span g) x) (used_edge g e x h) k)
        (turned_raised x size j
        ∙ one_turn (lon_from_least x) (lon_from_least (lon_span g).west.0) (lon_from_least (lon_span g).east.0) i j k
        p.0 (omega (arith, b.0)) (omega (arith, wide g e)) u.0 u.1
        (subst (λ (n : ℕ). n ≤ turned_by lon_turn j (lon_from_least x)) west_at v.0) (subst (λ (n : ℕ). turned_by lon_turn j (lon_from_least x) ≤ n) east_at v.1)
        ∙ ap (turned_by lon_turn k) (sym (turned_raised x size i))
        ∙ sym (turned_raised (lon_used (lon_span g) x) (used_edge g e x h) k))

    -- which lies as far from the first node
    pub distance_moved : width g < lon_turn → (x y : ℤ) → lon_admitted x ≡ true → holds g x y ≡ true
        → nat_abs (lon_used (lon_span (moved_grid k g)) x -ℤ (moved_grid k g).lon.0) ≡ nat_abs (lon_used (lon_span g) x -ℤ g.lon.0)
    unfolding holds
    distance_moved narrow x y admitted h =
        ap (λ (u : ℤ). nat_abs (u -ℤ turned k first_node)) (used_moved narrow x admitted (and_left (lon_holds (lon_span g) x) (lat_lies (lat_span g) y) h))
        ∙ ap nat_abs (apart_turned k (lon_used (lon_span g) x) first_node)
