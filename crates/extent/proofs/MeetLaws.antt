-- Two grids meet exactly where they hold an admitted point in common; and the tests of it in unsigned numbers.
use Prim.Native.Nat.{ℕ, zero, suc, ◌+◌, ◌-◌, ◌*◌, ◌/◌, ◌%◌, ◌≤◌, ◌<◌}
use mathlib.Core.Path.{◌≡◌, refl, sym, ap, ◌∙◌, subst}
use mathlib.Core.Bool.{Bool, true, false, ◌&&◌, ◌||◌}
use mathlib.Core.Logic.{◌⊎◌, inl, inr, ⊎_elim}
use native.Mathlib.Omega.{arith}
use native.Mathlib.Decide.{dec_le, dec_lt}
use borrow.Author.Tests.{leb-true, leb-false, le-leb, lt-leb, ltb-true}
use lib.Dec.{leb}
use lib.IntN.{ℤ, pos, neg_ℤ, nat_abs}
use lib.Signed.{le_z}
use Rattle.group.specs.Numbers.{lon_edge_most, lon_most, lat_most, lon_turn, lon_zero, lat_zero, lon_admitted, lat_admitted}
use Rattle.numbers.specs.First.{first, some}
use Rattle.numbers.specs.Circle.{turns, turned_by}
use Rattle.numbers.proofs.Bools.{and_left, and_right, both, or_cases, or_left, or_right, same_test, true_false}
use Rattle.numbers.proofs.FirstLaws.{first_hit, some_by, by_some}
use Rattle.numbers.proofs.OrderLaws.{within_test, within_size, raised_order, raised_within, overlap_shared, le_z_size}
use Rattle.group.specs.declared.Grid.{Grid}
use Rattle.extent.specs.declared.Sides.{Sides}
use Rattle.extent.specs.declared.LonSpan.{LonSpan}
use Rattle.extent.specs.Extent.{lon_span, lat_span, lon_lies, lat_lies, turned, lon_holds, holds, lon_inward, lon_meet, lat_meet, meet}
use Rattle.extent.specs.Sides.{lon_from_least, lat_from_least, sides_of, Edges, lon_first, lon_last, sides_lie, sides_hold, ahead, sides_meet, turns_meet, reaches}
use Rattle.extent.specs.Order5.{Common, MeetsExactly}
use Rattle.extent.proofs.SideLaws.{lat_order, sides_placed, turned_size, turned_raised, holds_sides}

-- ---- round the earth

-- how far east, by the two ways of its definition
ahead_east : (w x : ℕ) → w ≤ x → ahead w x ≡ (x - w) % lon_turn
ahead_east w x h = rw (le-leb w x h) refl

ahead_west : (w x : ℕ) → x < w → ahead w x ≡ lon_turn - 1 - (w - x - 1) % lon_turn
ahead_west w x h = rw (lt-leb w x h) refl

-- the same as one remainder
pub ahead_is : (w x : ℕ) → w ≤ 3 * lon_turn → ahead w x ≡ (x + 3 * lon_turn - w) % lon_turn
ahead_is w x h =
    elim (dec_le w x) [
      | yes le ↦ ahead_east w x le ∙ omega arith
      | no gt ↦ ahead_west w x (omega arith) ∙ omega arith
    ]

-- an admitted longitude, turned, lies from w to e exactly where it is no farther east of w than e is
module _ (w e x : ℕ) (least : lon_turn ≤ w) (order : w ≤ e) (most : e ≤ 3 * lon_turn) (narrow : e ≤ w + lon_turn) (a : lon_first ≤ x) (b : x ≤ lon_last) where
  lies_ahead : (k : ℕ) → w ≤ turned_by lon_turn k x → turned_by lon_turn k x ≤ e → ahead w x ≤ e - w
  lies_ahead zero l m = let q = ahead_is w x (omega arith) in omega arith
  lies_ahead (suc zero) l m = let q = ahead_is w x (omega arith) in omega arith
  lies_ahead (suc (suc k)) l m = let q = ahead_is w x (omega arith) in omega arith

  ahead_lies : ahead w x ≤ e - w → (k : ℕ) × (k < turns) × (w ≤ turned_by lon_turn k x) × (turned_by lon_turn k x ≤ e)
  ahead_lies h =
      let q = ahead_is w x (omega arith) in
      elim (dec_le (w + lon_turn) x) [
        | yes far ↦ (2, omega arith, omega arith, omega arith)
        | no near ↦
            elim (dec_le w x) [
              | yes le ↦ (0, omega arith, omega arith, omega arith)
              | no gt ↦ (1, omega arith, omega arith, omega arith)
            ]
      ]

-- whole turns and the rest of the way
rest : (w x : ℕ) → w ≤ 3 * lon_turn → (n : ℕ) × (x + 3 * lon_turn ≡ w + n * lon_turn + ahead w x) × (ahead w x < lon_turn)
rest w x h = let q = ahead_is w x h in ((x + 3 * lon_turn - w) / lon_turn, omega arith, omega arith)

-- from c to a it is as far as from c to x less from a to x
one_rest : (l m n p q s : ℕ) → l * lon_turn + s + n * lon_turn + p ≡ m * lon_turn + q + 3 * lon_turn → s < lon_turn → q < lon_turn → p ≤ q → s + p ≡ q
one_rest l m n p q s e a b h = omega arith

ahead_less : (a c x : ℕ) → a ≤ 3 * lon_turn → c ≤ 3 * lon_turn → ahead a x ≤ ahead c x → ahead c a + ahead a x ≡ ahead c x
ahead_less a c x ha hc h =
    let u = rest a x ha in let v = rest c x hc in let s = rest c a hc in
    one_rest s.0 v.0 u.0 (ahead a x) (ahead c x) (ahead c a) (by s.0 v.0 u.0 s.1 v.1 u.1) s.2 v.2 h
  where
    by : (l m n : ℕ) → a + 3 * lon_turn ≡ c + l * lon_turn + ahead c a → x + 3 * lon_turn ≡ c + m * lon_turn + ahead c x
        → x + 3 * lon_turn ≡ a + n * lon_turn + ahead a x → l * lon_turn + ahead c a + n * lon_turn + ahead a x ≡ m * lon_turn + ahead c x + 3 * lon_turn
    by l m n e f g = omega arith

-- where x is no farther east of a and of c than each extent is wide, the west side of one lies in the other
pub ahead_either : (a b c d x : ℕ) → a ≤ 3 * lon_turn → c ≤ 3 * lon_turn → ahead a x ≤ b - a → ahead c x ≤ d - c
    → (ahead c a ≤ d - c) ⊎ (ahead a c ≤ b - a)
ahead_either a b c d x ha hc p q =
    elim (dec_le (ahead a x) (ahead c x)) [
      | yes le ↦ let e = ahead_less a c x ha hc le in inl (le_of p q e)
      | no gt ↦ let e = ahead_less c a x hc ha (omega arith) in inr (le_of q p e)
    ]
  where
    le_of : {r s t m n : ℕ} → r ≤ m → s ≤ n → t + r ≡ s → t ≤ n
    le_of u v e = omega arith

-- ---- a grid's longitudes

-- a longitude within the limits of edges, turned, by its distance
lies_by : (s : LonSpan) → nat_abs s.west.0 ≤ lon_zero → nat_abs s.east.0 ≤ lon_zero → (x : ℤ) → nat_abs x ≤ lon_edge_most → (k : ℕ)
    → lon_lies s (turned k x)
    ≡ (leb (lon_from_least s.west.0) (turned_by lon_turn k (lon_from_least x)) && leb (turned_by lon_turn k (lon_from_least x)) (lon_from_least s.east.0))
lies_by s w e x h k =
    (λ i. raised_order lon_zero s.west.0 (turned k x) w (turned_size x h k) i && raised_order lon_zero (turned k x) s.east.0 (turned_size x h k) e i)
    ∙ ap (λ (u : ℕ). leb (lon_from_least s.west.0) u && leb u (lon_from_least s.east.0)) (turned_raised x h k)

-- the admitted longitudes as a span
abbrev whole : LonSpan
whole = record { west = record { 0 = neg_ℤ (pos lon_most) }; east = record { 0 = pos lon_most } }

-- an admitted longitude by its distance
pub admitted_distance : (x : ℤ) → lon_admitted x ≡ true → (lon_first ≤ lon_from_least x) × (lon_from_least x ≤ lon_last)
admitted_distance x e =
    let b = raised_within lon_zero lon_most x (within_size lon_most x e) (omega arith) in (omega (arith, b.0), omega (arith, b.1))

-- a longitude within the limits of edges as an admitted one
module _ (x : ℤ) (h : nat_abs x ≤ lon_edge_most) where
  inward_test : (k : ℕ) → lon_admitted (turned k x)
      ≡ (leb lon_first (turned_by lon_turn k (lon_from_least x)) && leb (turned_by lon_turn k (lon_from_least x)) lon_last)
  inward_test k = lies_by whole (omega arith) (omega arith) x h k

  some_inward : some (λ k. lon_admitted (turned k x)) turns ≡ true
  some_inward =
      let b = raised_within lon_zero lon_edge_most x h (omega arith) in
      let at = lon_from_least x in
      let told : (k : ℕ) → lon_first ≤ turned_by lon_turn k at → turned_by lon_turn k at ≤ lon_last → lon_admitted (turned k x) ≡ true =
      λ k l m. inward_test k ∙ both (le-leb _ _ l) (le-leb _ _ m) in
      elim (dec_lt at lon_first) [
        | yes west ↦ some_by (λ k. lon_admitted (turned k x)) turns 1 (omega arith) (told 1 (omega (arith, b.0)) (omega arith))
        | no ge ↦
            elim (dec_le at lon_last) [
              | yes inside ↦ some_by (λ k. lon_admitted (turned k x)) turns 0 (omega arith) (told 0 (omega arith) (omega arith))
              | no east ↦ some_by (λ k. lon_admitted (turned k x)) turns 2 (omega arith) (told 2 (omega arith) (omega (arith, b.1)))
            ]
      ]

  pub inward_admitted : lon_admitted (lon_inward x) ≡ true
  unfolding lon_inward
  inward_admitted = first_hit (λ k. lon_admitted (turned k x)) turns (ltb-true _ _ some_inward)

  -- it lies as far east of any longitude as before
  pub inward_ahead : (c : ℕ) → c ≤ 3 * lon_turn → ahead c (lon_from_least (lon_inward x)) ≡ ahead c (lon_from_least x)
  unfolding lon_inward
  inward_ahead c m =
      let k = first (λ k. lon_admitted (turned k x)) turns in
      let b = raised_within lon_zero lon_edge_most x h (omega arith) in
      ap (ahead c) (turned_raised x h k) ∙ go k (omega (arith, b.0))
    where
      go : (k : ℕ) → lon_turn ≤ lon_from_least x → ahead c (turned_by lon_turn k (lon_from_least x)) ≡ ahead c (lon_from_least x)
      go zero l = ap (ahead c) (omega arith)
      go (suc zero) l =
          let p = ahead_is c (lon_from_least x + (lon_turn + lon_turn) - lon_turn) m in let q = ahead_is c (lon_from_least x) m in omega arith
      go (suc (suc k)) l = let p = ahead_is c (lon_from_least x + 0 - lon_turn) m in let q = ahead_is c (lon_from_least x) m in omega arith

-- a grid holds an admitted longitude exactly where it is no farther east of the west side than the east side is
module _ (g : Grid) (e : Edges g) (x : ℤ) (admitted : lon_admitted x ≡ true) where
  abbrev low : ℕ
  low = lon_from_least (lon_span g).west.0

  abbrev high : ℕ
  high = lon_from_least (lon_span g).east.0

  abbrev here : ℕ
  here = lon_from_least x

  lon_size : nat_abs x ≤ lon_edge_most
  lon_size = omega (arith, within_size lon_most x admitted)

  lies_at : (k : ℕ) → lon_lies (lon_span g) (turned k x) ≡ (leb low (turned_by lon_turn k here) && leb (turned_by lon_turn k here) high)
  lies_at k = lies_by (lon_span g) (omega (arith, e.west)) (omega (arith, e.east)) x lon_size k

  placed : (lon_turn ≤ low) × (low ≤ high) × (high ≤ 3 * lon_turn) × (high ≤ low + lon_turn)
  unfolding sides_of
  placed = let p = sides_placed g e in (p.least, p.order, p.most, p.narrow)

  pub holds_ahead : lon_holds (lon_span g) x ≡ leb (ahead low here) (high - low)
  unfolding lon_holds
  holds_ahead =
      let a = admitted_distance x admitted in let p = placed in
      same_test (some (λ k. lon_lies (lon_span g) (turned k x)) turns) (leb (ahead low here) (high - low))
      (λ s.
      let i = by_some (λ k. lon_lies (lon_span g) (turned k x)) turns s in
      let t = sym (lies_at i.0) ∙ i.2 in
      le-leb _ _
      (lies_ahead low high here p.0 p.1 p.2 p.3 a.0 a.1 i.0
      (leb-true _ _ (and_left (leb low (turned_by lon_turn i.0 here)) (leb (turned_by lon_turn i.0 here) high) t))
      (leb-true _ _ (and_right (leb low (turned_by lon_turn i.0 here)) (leb (turned_by lon_turn i.0 here) high) t))))
      (λ s.
      let i = ahead_lies low high here p.0 p.1 p.2 p.3 a.0 a.1 (leb-true _ _ s) in
      some_by (λ k. lon_lies (lon_span g) (turned k x)) turns i.0 i.1 (lies_at i.0 ∙ both (le-leb _ _ i.2) (le-leb _ _ i.3)))

-- ---- two grids

module _ (f g : Grid) (a : Edges f) (b : Edges g) where
  -- the test round the earth
  pub meet_turns : meet f g ≡ turns_meet (sides_of f) (sides_of g)
  unfolding meet lon_meet sides_of
  meet_turns =
      let u = (lon_span f).west.0 in let v = (lon_span g).west.0 in
      let p = sides_placed f a in let q = sides_placed g b in
      λ i.
      ((holds_ahead g b (lon_inward u) (inward_admitted u a.west)
      ∙ ap (λ (n : ℕ). leb n (lon_from_least (lon_span g).east.0 - lon_from_least v)) (inward_ahead u a.west (lon_from_least v) (omega (arith, q.order, q.most)))) i
      || (holds_ahead f a (lon_inward v) (inward_admitted v b.west)
      ∙ ap (λ (n : ℕ). leb n (lon_from_least (lon_span f).east.0 - lon_from_least u)) (inward_ahead v b.west (lon_from_least u) (omega (arith, p.order, p.most)))) i)
      && (raised_order lat_zero (lat_span f).south.0 (lat_span g).north.0 (omega (arith, a.south)) (omega (arith, b.north)) i
      && raised_order lat_zero (lat_span g).south.0 (lat_span f).north.0 (omega (arith, b.south)) (omega (arith, a.north)) i)

  -- where neither reaches the ends of the admitted longitudes, the test of the extents as they are written
  pub meet_written : reaches (sides_of f) ≡ false → reaches (sides_of g) ≡ false → meet f g ≡ sides_meet (sides_of f) (sides_of g)
  meet_written r s =
      let u = sides_of f in let v = sides_of g in
      meet_turns
      ∙ ap (λ (t : Bool). t && (leb u.south v.north && leb v.south u.north))
      (written u.west u.east v.west v.east (sides_placed f a).order (sides_placed g b).order (clear u r) (clear v s))
    where
      clear : (s : Sides) → reaches s ≡ false → (lon_first < s.west) × (s.east < lon_last)
      clear s e =
          let p = leb s.west lon_first in let q = leb lon_last s.east in
          (leb-false s.west lon_first (or_first p q e), leb-false lon_last s.east (or_second p q e))
        where
          or_first : (p q : Bool) → (p || q) ≡ false → p ≡ false
          or_first true q e = e
          or_first false q e = refl

          or_second : (p q : Bool) → (p || q) ≡ false → q ≡ false
          or_second true q e = absurd (true_false refl e)
          or_second false q e = e

      written : (w e v f : ℕ) → w ≤ e → v ≤ f → (lon_first < w) × (e < lon_last) → (lon_first < v) × (f < lon_last)
          → (leb (ahead v w) (f - v) || leb (ahead w v) (e - w)) ≡ (leb w f && leb v e)
      written w e v f h k c d =
          let p = ahead_is v w (omega (arith, d.1)) in let q = ahead_is w v (omega (arith, c.1)) in
          same_test _ _
          (λ t.
          ⊎_elim
          (λ l. let m = leb-true _ _ l in both (le-leb w f (first_way w e v f (ahead v w) h k c d p m).0) (le-leb v e (first_way w e v f (ahead v w) h k c d p m).1))
          (λ l. let m = leb-true _ _ l in both (le-leb w f (first_way v f w e (ahead w v) k h d c q m).1) (le-leb v e (first_way v f w e (ahead w v) k h d c q m).0))
          (or_cases (leb (ahead v w) (f - v)) (leb (ahead w v) (e - w)) t))
          (λ t.
          let l = leb-true w f (and_left (leb w f) (leb v e) t) in let m = leb-true v e (and_right (leb w f) (leb v e) t) in
          elim (dec_le v w) [
            | yes le ↦ or_left (leb (ahead w v) (e - w)) (le-leb (ahead v w) (f - v) (omega arith))
            | no gt ↦ or_right (leb (ahead v w) (f - v)) (le-leb (ahead w v) (e - w) (omega arith))
          ])
        where
          first_way : (w e v f n : ℕ) → w ≤ e → v ≤ f → (lon_first < w) × (e < lon_last) → (lon_first < v) × (f < lon_last)
              → n ≡ (w + 3 * lon_turn - v) % lon_turn → n ≤ f - v → (w ≤ f) × (v ≤ e)
          first_way w e v f n h k c d p m = let s = c.0 in let t = c.1 in let y = d.0 in let z = d.1 in (omega arith, omega arith)

  -- two grids whose sides hold one admitted point meet
  pub hold_meet : (x y : ℕ) → lon_first ≤ x → x ≤ lon_last → sides_hold (sides_of f) x y ≡ true → sides_hold (sides_of g) x y ≡ true → meet f g ≡ true
  unfolding sides_hold
  hold_meet x y l m h k =
      let u = sides_of f in let v = sides_of g in let p = sides_placed f a in let q = sides_placed g b in
      let i = by_some (λ k. sides_lie u (turned_by lon_turn k x) y) turns h in let j = by_some (λ k. sides_lie v (turned_by lon_turn k x) y) turns k in
      let s = told u (turned_by lon_turn i.0 x) y i.2 in let t = told v (turned_by lon_turn j.0 x) y j.2 in
      let n = lies_ahead u.west u.east x p.least p.order p.most p.narrow l m i.0 s.0 s.1 in
      let o = lies_ahead v.west v.east x q.least q.order q.most q.narrow l m j.0 t.0 t.1 in
      meet_turns
      ∙ both
      (⊎_elim (λ r. or_left (leb (ahead u.west v.west) (u.east - u.west)) (le-leb _ _ r)) (λ r. or_right (leb (ahead v.west u.west) (v.east - v.west)) (le-leb _ _ r))
      (ahead_either u.west u.east v.west v.east x (omega (arith, p.order, p.most)) (omega (arith, q.order, q.most)) n o))
      (both (le-leb u.south v.north (omega (arith, s.2, t.3))) (le-leb v.south u.north (omega (arith, t.2, s.3))))
    where
      told : (s : Sides) (x y : ℕ) → sides_lie s x y ≡ true → (s.west ≤ x) × (x ≤ s.east) × (s.south ≤ y) × (y ≤ s.north)
      told s x y e =
          let v = leb s.south y && leb y s.north in
          let u = and_right (leb s.west x) (leb x s.east && v) e in
          let w = and_right (leb x s.east) v u in (
            leb-true s.west x (and_left (leb s.west x) (leb x s.east && v) e),
            leb-true x s.east (and_left (leb x s.east) v u),
            leb-true s.south y (and_left (leb s.south y) (leb y s.north) w),
            leb-true y s.north (and_right (leb s.south y) (leb y s.north) w),
          )

-- the west side of a grid, as an admitted longitude, is one that it holds
west_held : (g : Grid) → Edges g → lon_holds (lon_span g) (lon_inward (lon_span g).west.0) ≡ true
west_held g e =
    let w = (lon_span g).west.0 in let n = lon_from_least w in let b = raised_within lon_zero lon_edge_most w e.west (omega arith) in
    holds_ahead g e (lon_inward w) (inward_admitted w e.west)
    ∙ le-leb _ _ (subst (λ (m : ℕ). m ≤ lon_from_least (lon_span g).east.0 - n) (sym (inward_ahead w e.west n (omega (arith, b.1)) ∙ ahead_east n n (omega arith))) (omega arith))

-- a latitude of an extent is an admitted one
lat_admitted_lem : (g : Grid) → Edges g → (y : ℤ) → lat_lies (lat_span g) y ≡ true → lat_admitted y ≡ true
lat_admitted_lem g e y h =
    within_test lat_most y
    ∙ le-leb _ _
    (le_z_size lat_most (lat_span g).south.0 (lat_span g).north.0 y (omega (arith, e.south)) (omega (arith, e.north))
    (and_left (le_z (lat_span g).south.0 y) (le_z y (lat_span g).north.0) h) (and_right (le_z (lat_span g).south.0 y) (le_z y (lat_span g).north.0) h))

-- two grids meet exactly where they hold an admitted point in common
module _ (f g : Grid) (a : Edges f) (b : Edges g) where
  lon_common : lon_meet (lon_span f) (lon_span g) ≡ true → (x : ℤ) × (lon_admitted x ≡ true) × (lon_holds (lon_span f) x ≡ true) × (lon_holds (lon_span g) x ≡ true)
  unfolding lon_meet
  lon_common e =
      let u = (lon_span f).west.0 in let v = (lon_span g).west.0 in
      ⊎_elim
      (λ h. (lon_inward u, inward_admitted u a.west, west_held f a, h))
      (λ h. (lon_inward v, inward_admitted v b.west, h, west_held g b))
      (or_cases (lon_holds (lon_span g) (lon_inward u)) (lon_holds (lon_span f) (lon_inward v)) e)

  pub meets_exactly : MeetsExactly f g
  unfolding meet holds
  meets_exactly = (meeting, common)
    where
      meeting : meet f g ≡ true → Common f g
      meeting e =
          let l = lon_meet (lon_span f) (lon_span g) in let m = lat_meet (lat_span f) (lat_span g) in
          let p = lat_span f in let q = lat_span g in
          let c = lon_common (and_left l m e) in
          let d = overlap_shared p.south.0 p.north.0 q.south.0 q.north.0 (lat_order f) (lat_order g) (and_right l m e) in
          record {
            x = c.0;
            y = d.0;
            lon = c.1;
            lat = lat_admitted_lem f a d.0 d.1.0;
            first = both c.2 d.1.0;
            second = both c.3 d.1.1;
          }

      common : Common f g → meet f g ≡ true
      common c =
          let m = admitted_distance c.x c.lon in
          let s : nat_abs c.x ≤ lon_edge_most = omega (arith, within_size lon_most c.x c.lon) in
          let t : nat_abs c.y ≤ lat_zero = omega (arith, within_size lat_most c.y c.lat) in
          hold_meet f g a b (lon_from_least c.x) (lat_from_least c.y) m.0 m.1
          (sym (holds_sides f a c.x c.y s t) ∙ c.first) (sym (holds_sides g b c.x c.y s t) ∙ c.second)
