-- The rows of the grids' parts: how they grow place by place, and that a row holds the points whose turn its owner holds.
use Prim.Native.Nat.{ℕ, zero, suc, ◌+◌, ◌-◌, ◌*◌, ◌/◌, ◌%◌, ◌≤◌, ◌<◌}
use mathlib.Core.Path.{◌≡◌, refl, sym, ap, subst, ◌∙◌}
use mathlib.Core.Bool.{true, cond, ◌&&◌}
use mathlib.Core.List.{List}
use native.Mathlib.Omega.{arith}
use native.Mathlib.Decide.{dec_lt}
use borrow.Author.Count.{below_more, below_none}
use borrow.Author.Tests.{eq-eqb, ne_eqb, leb-true, le-leb}
use lib.Dec.{leb, eqb}
use lib.ListN.{length, set, length-set}
use lib.Seq.{get_or-set_same, get_or-set_other}
use Rattle.numbers.specs.First.{first}
use Rattle.numbers.specs.Lists.{at}
use Rattle.numbers.specs.Circle.{turns, shift_of, turned_by}
use Rattle.numbers.proofs.Bools.{and_left, and_right, both, true_false, untrue}
use Rattle.numbers.proofs.FirstLaws.{first_at, first_hit, first_before}
use Rattle.numbers.proofs.Lists.{at_mem}
use Rattle.group.specs.Numbers.{lon_turn, rank_most}
use Rattle.extent.specs.declared.Sides.{Sides}
use Rattle.extent.specs.Sides.{lon_first, lon_last, sides_lie}
use Rattle.flat.specs.Rects.{rect_at, put_rect}
use Rattle.flat.specs.Order.{by_rank}
use Rattle.flat.specs.Turned.{part_of, grid_placed, shift_placed, part_placed, TurnedRows, Turnable, SidesTurnable, OfGrids, RowRoom, RowsLong, RowPut}
use Rattle.flat.proofs.RectLaws.{rect_here, rect_before}
use Rattle.flat.proofs.OrderLaws.{mem_by_rank}

-- the places of the rows, with j as that of row `count`
unfoldable placed : (ℕ → ℕ) → (count j : ℕ) → ℕ → ℕ
placed place count j r = cond (eqb r count) j (place r)

place_new : (place : ℕ → ℕ) (count j : ℕ) → placed place count j count ≡ j
unfolding placed
place_new place count j = rw (eq-eqb count count refl) refl

place_old : (place : ℕ → ℕ) (count j r : ℕ) → r < count → placed place count j r ≡ place r
unfolding placed
place_old place count j r l = rw (ne_eqb r count (λ e. omega arith)) refl

-- no row of no place
pub turned_none : {sides order rows owners shifts : List ℕ} → TurnedRows sides order rows owners shifts 0 0
turned_none {sides} {order} {rows} {owners} {shifts} =
    record {
      place = λ r. r;
      below = λ r l. omega arith;
      rising = λ q r k l. omega arith;
      rect = below_none _;
      owner = below_none _;
      shift = below_none _;
      all = λ j l h. absurd (omega arith);
      few = omega arith;
    }

module _ (sides order rows owners shifts : List ℕ) (j count : ℕ) (t : TurnedRows sides order rows owners shifts j count) where
  -- an empty part more
  pub turned_skip : {part : Sides} → part ≡ part_placed sides order j → part.east < part.west → TurnedRows sides order rows owners shifts (j + 1) count
  turned_skip {part} e l =
      let a = ap (λ (s : Sides). s.west) e in let b = ap (λ (s : Sides). s.east) e in
      record {
        place = t.place;
        below = λ r l. omega (arith, t.below r l);
        rising = t.rising;
        rect = t.rect;
        owner = t.owner;
        shift = t.shift;
        all =
            below_more
            (λ i. (part_placed sides order i).west ≤ (part_placed sides order i).east → (r : ℕ) × (r < count) × (t.place r ≡ i))
            j t.all (λ h. absurd (omega arith));
        few = omega (arith, t.few);
      }

  -- a row more
  abbrev now : ℕ → ℕ
  now = placed t.place count j

  module _ (room : RowRoom rows owners shifts (count + 1)) where
    rect_more : (r : ℕ) → r < count + 1 → rect_at (put_rect rows count (part_placed sides order j)) r ≡ part_placed sides order (now r)
    rect_more =
        below_more (λ r. rect_at (put_rect rows count (part_placed sides order j)) r ≡ part_placed sides order (now r)) count
        (λ r l. rect_before rows count (part_placed sides order j) (omega (arith, room.rows_room)) r l ∙ t.rect r l ∙ ap (part_placed sides order) (sym (place_old t.place count j r l)))
        (rect_here rows count (part_placed sides order j) (omega (arith, room.rows_room)) ∙ ap (part_placed sides order) (sym (place_new t.place count j)))

    owner_more : (r : ℕ) → r < count + 1 → at (set owners count (grid_placed order j)) r ≡ grid_placed order (now r)
    owner_more =
        below_more (λ r. at (set owners count (grid_placed order j)) r ≡ grid_placed order (now r)) count
        (λ r l. get_or-set_other owners count r (grid_placed order j) 0 (λ e. omega arith) ∙ t.owner r l ∙ ap (grid_placed order) (sym (place_old t.place count j r l)))
        (get_or-set_same owners count (grid_placed order j) 0 (omega (arith, room.owners_room)) ∙ ap (grid_placed order) (sym (place_new t.place count j)))

    shift_more : (r : ℕ) → r < count + 1 → at (set shifts count (shift_placed j)) r ≡ shift_placed (now r)
    shift_more =
        below_more (λ r. at (set shifts count (shift_placed j)) r ≡ shift_placed (now r)) count
        (λ r l. get_or-set_other shifts count r (shift_placed j) 0 (λ e. omega arith) ∙ t.shift r l ∙ ap shift_placed (sym (place_old t.place count j r l)))
        (get_or-set_same shifts count (shift_placed j) 0 (omega (arith, room.shifts_room)) ∙ ap shift_placed (sym (place_new t.place count j)))

    below_now : (r : ℕ) → r < count + 1 → now r < j + 1
    below_now =
        below_more (λ r. now r < j + 1) count
        (λ r l. omega (arith, place_old t.place count j r l, t.below r l))
        (omega (arith, place_new t.place count j))

    rising_now : (q r : ℕ) → q < r → r < count + 1 → now q < now r
    rising_now q r k =
        elim (dec_lt r count) [
          | yes lt ↦
              λ l.
              omega (
                arith,
                place_old t.place count j q (omega arith),
                place_old t.place count j r lt,
                t.rising q r k lt,
              )
          | no ge ↦
              λ l.
              let e : r ≡ count = omega arith in
              rw e
              (omega (
                arith,
                place_old t.place count j q (omega arith),
                place_new t.place count j,
                t.below q (omega arith),
              ))
        ]

    all_now : (i : ℕ) → i < j + 1 → (part_placed sides order i).west ≤ (part_placed sides order i).east → (r : ℕ) × (r < count + 1) × (now r ≡ i)
    all_now =
        below_more
        (λ i. (part_placed sides order i).west ≤ (part_placed sides order i).east → (r : ℕ) × (r < count + 1) × (now r ≡ i))
        j
        (λ i l h. let f = t.all i l h in (f.0, omega (arith, f.1), place_old t.place count j f.0 f.1 ∙ f.2))
        (λ h. (count, omega arith, place_new t.place count j))

    pub turned_more : {part : Sides} {owner shift : ℕ} {rows' owners' shifts' : List ℕ}
        → RowPut count part owner shift rows owners shifts rows' owners' shifts'
        → part ≡ part_placed sides order j → owner ≡ grid_placed order j → shift ≡ shift_placed j
        → TurnedRows sides order rows' owners' shifts' (j + 1) (count + 1)
    turned_more {part} {owner} {shift} {rows'} {owners'} {shifts'} w e f g =
        rw (w.rect_put, w.owner_put, w.shift_put, e, f, g)
        (record {
          place = now;
          below = below_now;
          rising = rising_now;
          rect = rect_more;
          owner = owner_more;
          shift = shift_more;
          all = all_now;
          few = omega (arith, t.few);
        })

-- what the call answers of a place's part
pub part_is : (sides order : List ℕ) (j : ℕ) {shift : ℕ} {s part : Sides} → part ≡ part_of shift s → shift ≡ shift_placed j
    → s ≡ rect_at sides (grid_placed order j) → part ≡ part_placed sides order j
part_is sides order j {shift} {s} {part} e f g = e ∙ ap (λ (k : ℕ). part_of k s) f ∙ ap (part_of (shift_placed j)) g

pub shift_least : (k : ℕ) → shift_of lon_turn k ≤ 2 * lon_turn
shift_least zero = omega arith
shift_least (suc zero) = omega arith
shift_least (suc (suc k)) = omega arith

-- the lists stay as long as they were
pub rows_same : {rows owners shifts : List ℕ} → RowsLong rows owners shifts rows owners shifts
rows_same = record { rows_long = refl; owners_long = refl; shifts_long = refl }

pub long_put : {rows₀ owners₀ shifts₀ rows owners shifts rows' owners' shifts' : List ℕ} {r owner shift : ℕ} {part : Sides}
    → RowsLong rows₀ owners₀ shifts₀ rows owners shifts → RowPut r part owner shift rows owners shifts rows' owners' shifts'
    → RowsLong rows₀ owners₀ shifts₀ rows' owners' shifts'
long_put {rows₀} {owners₀} {shifts₀} {rows} {owners} {shifts} {rows'} {owners'} {shifts'} {r} {owner} {shift} {part} l w =
    record {
      rows_long = ap length w.rect_put ∙ simp length-set l.rows_long;
      owners_long = ap length w.owner_put ∙ simp length-set l.owners_long;
      shifts_long = ap length w.shift_put ∙ simp length-set l.shifts_long;
    }

pub room_left : {rows₀ owners₀ shifts₀ rows owners shifts : List ℕ} {n m : ℕ} → RowRoom rows₀ owners₀ shifts₀ n
    → RowsLong rows₀ owners₀ shifts₀ rows owners shifts → m ≤ n → RowRoom rows owners shifts m
room_left {rows₀} {owners₀} {shifts₀} {rows} {owners} {shifts} {n} {m} h l k =
    let a = h.rows_room in let b = h.owners_room in let c = h.shifts_room in
    let d = l.rows_long in let e = l.owners_long in let f = l.shifts_long in
    record { rows_room = omega arith; owners_room = omega arith; shifts_room = omega arith }

-- the grids in the order of their ranks, where the sides of all are such
pub ranked_grids : (sides : List ℕ) (rank : ℕ → ℕ) (n : ℕ) → SidesTurnable sides n → OfGrids sides (by_rank rank n rank_most)
ranked_grids sides rank n h =
    let room = h.room in
    record {
      number = λ i l. let o = named i l in (o.0, omega (arith, o.1));
      turnable = λ i l. let o = named i l in h.each (at (by_rank rank n rank_most) i - 1) (omega (arith, o.0, o.1));
    }
  where
    named : (i : ℕ) → i < length (by_rank rank n rank_most) → (1 ≤ at (by_rank rank n rank_most) i) × (at (by_rank rank n rank_most) i ≤ n)
    named i l = let o = mem_by_rank rank n rank_most _ (at_mem 0 (by_rank rank n rank_most) i l) in (o.0, o.1)

-- ---- what a row holds

-- a point within sides, by the four orders
told : (s : Sides) (x y : ℕ) → sides_lie s x y ≡ true → (s.west ≤ x) × (x ≤ s.east) × (s.south ≤ y) × (y ≤ s.north)
told s x y e =
    let v = leb s.south y && leb y s.north in
    let u = and_right (leb s.west x) (leb x s.east && v) e in
    let w = and_right (leb x s.east) v u in (
      leb-true s.west x (and_left (leb s.west x) (leb x s.east && v) e),
      leb-true x s.east (and_left (leb x s.east) v u),
      leb-true s.south y (and_left (leb s.south y) (leb y s.north) w),
      leb-true y s.north (and_right (leb s.south y) (leb y s.north) w),
    )

lies : (s : Sides) (x y : ℕ) → s.west ≤ x → x ≤ s.east → s.south ≤ y → y ≤ s.north → sides_lie s x y ≡ true
lies s x y a b c d = both (le-leb _ _ a) (both (le-leb _ _ b) (both (le-leb _ _ c) (le-leb _ _ d)))

module _ (s : Sides) (h : Turnable s) (shift x y : ℕ) (few : shift ≤ 2 * lon_turn) (least : lon_turn ≤ x) where
  -- a part holds the admitted points that, turned, lie within the sides
  pub part_lies : sides_lie (part_of shift s) x y ≡ true → (lon_first ≤ x) × (x ≤ lon_last) × (sides_lie s (x + shift - lon_turn) y ≡ true)
  part_lies e =
      let a = h.west_least in let b = h.east_least in
      let p = told (part_of shift s) x y e in
      (omega (arith, p.0), omega (arith, p.1), lies s (x + shift - lon_turn) y (omega (arith, p.0)) (omega (arith, p.1)) p.2 p.3)

  pub lies_part : lon_first ≤ x → x ≤ lon_last → sides_lie s (x + shift - lon_turn) y ≡ true → sides_lie (part_of shift s) x y ≡ true
  lies_part f l e =
      let a = h.west_least in let b = h.east_least in
      let p = told s (x + shift - lon_turn) y e in
      lies (part_of shift s) x y (omega (arith, p.0)) (omega (arith, p.1)) p.2 p.3

module _ (sides order rows owners shifts : List ℕ) (count : ℕ) (t : TurnedRows sides order rows owners shifts (length order * turns) count) where
  -- the rows stand in the order of the list
  pub row_listed : (r : ℕ) → r < count → t.place r / turns < length order
  row_listed r l = omega (arith, t.below r l)

  pub rows_sorted : (q r : ℕ) → q < r → r < count → t.place q / turns ≤ t.place r / turns
  rows_sorted q r k l = omega (arith, t.rising q r k l)

  -- their places tell them apart
  earlier : (q r : ℕ) → q < count → r < count → t.place q < t.place r → q < r
  earlier q r k l p =
      elim (dec_lt q r) [
        | yes lt ↦ lt
        | no ge ↦
            elim (dec_lt r q) [
              | yes lt ↦ absurd (omega (arith, t.rising r q lt k))
              | no ge₂ ↦ let e : q ≡ r = omega arith in absurd (let f = ap t.place e in omega arith)
            ]
      ]

  -- a row holds no points but admitted ones
  pub row_admitted : (x y r : ℕ) → r < count → sides_lie (rect_at rows r) x y ≡ true → (lon_first ≤ x) × (x ≤ lon_last)
  row_admitted x y r l e =
      let p = told (part_placed sides order (t.place r)) x y (subst (λ (u : Sides). sides_lie u x y ≡ true) (t.rect r l) e) in
      (omega (arith, p.0), omega (arith, p.1))

  module _ (o : OfGrids sides order) (x y : ℕ) where
    -- a row's owner holds what the row holds, turned by the row's shift
    pub row_held : (r : ℕ) → r < count → lon_turn ≤ x → sides_lie (rect_at rows r) x y ≡ true
        → (t.place r % turns < turns) × (lon_first ≤ x) × (x ≤ lon_last) × (x + at shifts r - lon_turn ≡ turned_by lon_turn (t.place r % turns) x)
        × (sides_lie (rect_at sides (at owners r)) (turned_by lon_turn (t.place r % turns) x) y ≡ true)
    row_held r l least e =
        let s = rect_at sides (grid_placed order (t.place r)) in
        let p =
        part_lies s (o.turnable (t.place r / turns) (row_listed r l)) (shift_placed (t.place r)) x y (shift_least (t.place r % turns)) least
        (subst (λ (u : Sides). sides_lie u x y ≡ true) (t.rect r l) e) in (
          omega arith,
          p.0,
          p.1,
          ap (λ (k : ℕ). x + k - lon_turn) (t.shift r l),
          subst (λ (k : ℕ). sides_lie (rect_at sides k) (turned_by lon_turn (t.place r % turns) x) y ≡ true) (sym (t.owner r l)) p.2,
        )

    -- what a grid of the list holds, turned, a row of its holds
    pub row_found : (i k : ℕ) → i < length order → k < turns → lon_first ≤ x → x ≤ lon_last
        → sides_lie (rect_at sides (at order i - 1)) (turned_by lon_turn k x) y ≡ true
        → (r : ℕ) × (r < count) × (t.place r ≡ i * turns + k) × (at owners r ≡ at order i - 1) × (sides_lie (rect_at rows r) x y ≡ true)
    row_found i k l m f g e =
        let a : (i * turns + k) / turns ≡ i = omega arith in
        let b : (i * turns + k) % turns ≡ k = omega arith in
        let s = rect_at sides (at order i - 1) in
        let c : part_placed sides order (i * turns + k) ≡ part_of (shift_of lon_turn k) s =
        ap (λ (n : ℕ). part_of (shift_placed (i * turns + k)) (rect_at sides (at order n - 1))) a ∙ ap (λ (n : ℕ). part_of (shift_of lon_turn n) s) b in
        let p = lies_part s (o.turnable i l) (shift_of lon_turn k) x y (shift_least k) (omega arith) f g e in
        let d = subst (λ (u : Sides). sides_lie u x y ≡ true) (sym c) p in
        let w = told (part_placed sides order (i * turns + k)) x y d in
        let r = t.all (i * turns + k) (omega arith) (omega (arith, w.0, w.1)) in (
          r.0,
          r.1,
          r.2,
          t.owner r.0 r.1 ∙ ap (λ (j : ℕ). at order (j / turns) - 1) r.2 ∙ ap (λ (n : ℕ). at order n - 1) a,
          subst (λ (u : Sides). sides_lie u x y ≡ true) (sym (t.rect r.0 r.1 ∙ ap (part_placed sides order) r.2)) d,
        )

    -- the first row that holds a point has the shift of the first turn that its owner holds
    pub row_first : (r : ℕ) → r < count → lon_first ≤ x → x ≤ lon_last → r ≡ first (λ q. sides_lie (rect_at rows q) x y) count
        → x + at shifts r - lon_turn ≡ turned_by lon_turn (first (λ k. sides_lie (rect_at sides (at owners r)) (turned_by lon_turn k x) y) turns) x
    row_first r l f g e =
        let z = first_hit (λ q. sides_lie (rect_at rows q) x y) count (omega arith) in
        let h = row_held r l (omega arith) (subst (λ (q : ℕ). sides_lie (rect_at rows q) x y ≡ true) (sym e) z) in
        h.3
        ∙ ap (λ (k : ℕ). turned_by lon_turn k x)
        (sym
        (first_at (λ k. sides_lie (rect_at sides (at owners r)) (turned_by lon_turn k x) y) turns (t.place r % turns) h.0
        (λ k m. untrue _ (none k m)) h.4))
      where
        none : (k : ℕ) → k < t.place r % turns → sides_lie (rect_at sides (at owners r)) (turned_by lon_turn k x) y ≡ true → ⊥
        none k m u =
            let c =
            row_found (t.place r / turns) k (row_listed r l) (omega arith) f g
            (subst (λ (n : ℕ). sides_lie (rect_at sides n) (turned_by lon_turn k x) y ≡ true) (t.owner r l) u) in
            let b = earlier c.0 r c.1 l (omega (arith, c.2)) in
            true_false c.4 (first_before (λ q. sides_lie (rect_at rows q) x y) count c.0 (omega arith))
