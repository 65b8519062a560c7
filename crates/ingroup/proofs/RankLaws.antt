-- The rows of an accepted group in the order of ranks: the first that holds an admitted point is the chosen grid's, for the turn that it uses.
use Prim.Native.Nat.{ℕ, suc, ◌+◌, ◌-◌, ◌*◌, ◌/◌, ◌%◌, ◌≤◌, ◌<◌}
use mathlib.Core.Path.{◌≡◌, sym, ap, ◌∙◌, subst, transport}
use mathlib.Core.Bool.{true}
use mathlib.Core.List.{List}
use mathlib.Core.Logic.{⊎_elim}
use native.Mathlib.Omega.{arith}
use native.Mathlib.Decide.{dec_lt}
use lib.IntN.{ℤ, nat_abs}
use lib.ListN.{length}
use Rattle.group.specs.declared.Group.{Group}
use Rattle.group.specs.Numbers.{rank_most, lon_most, lon_turn, lon_zero, lat_zero}
use Rattle.group.specs.Record.{grid_at}
use Rattle.extent.specs.Extent.{lon_span, holds, lon_used}
use Rattle.extent.specs.Sides.{lon_from_least, lat_from_least, lon_first, lon_last, sides_lie}
use Rattle.judge.specs.Judge.{judged}
use Rattle.flat.specs.Lists.{Sided}
use Rattle.numbers.specs.First.{first}
use Rattle.numbers.specs.Lists.{at}
use Rattle.numbers.specs.Circle.{turns, turned_by}
use Rattle.numbers.proofs.FirstLaws.{first_hit}
use Rattle.numbers.proofs.Lists.{at_mem, mem_at, pairs_at}
use Rattle.numbers.proofs.OrderLaws.{raised_within}
use Rattle.choice.specs.Rect.{rect_holds, turn_holds}
use Rattle.choice.specs.Holder.{holder, Ranked, Owns}
use Rattle.choice.proofs.HolderLaws.{holder_chosen}
use Rattle.choice.proofs.TurnHolds.{turn_holds_by, turn_holds_cases}
use Rattle.flat.specs.Rects.{rect_at}
use Rattle.flat.specs.Order.{by_rank, Before}
use Rattle.flat.specs.Turned.{TurnedRows, SidesTurnable, OfGrids, RankedRows}
use Rattle.flat.proofs.OrderLaws.{pairs_by_rank, by_rank_mem, mem_by_rank}
use Rattle.flat.proofs.TurnedLaws.{ranked_grids, row_listed, rows_sorted, row_held, row_found, row_first}
use Rattle.ingroup.specs.InGroup.{chosen_in}
use Rattle.ingroup.proofs.InGroupLaws.{flat_ranked, flat_turnable, flat_apart, flat_chosen_lem, flat_holds, flat_used}
use Rattle.std.specs.Prelude.{Ok}

-- a grid counted from 0, by its number
before_suc : (n : ℕ) → suc n - 1 ≡ n
before_suc n = omega arith

-- ---- rows of any order of the grids

-- each number of the order is one of n grids', and each grid has one
pub record OrderOf (order : List ℕ) (n : ℕ) : Type 0 where
  pub number : (i : ℕ) → i < length order → (1 ≤ at order i) × (at order i ≤ n)
  pub each : (k : ℕ) → k < n → (i : ℕ) × (i < length order) × (at order i ≡ suc k)

-- the numbers 1 to n are such an order
pub order_by_number : (order : List ℕ) (n : ℕ) → length order ≡ n → ((i : ℕ) → i < n → at order i ≡ suc i) → OrderOf order n
order_by_number order n e h =
    record {
      number = λ i l. let m : i < n = omega arith in (omega (arith, h i m), omega (arith, h i m));
      each = λ k l. (k, omega arith, h k l);
    }

-- where the sides of all grids can be turned, those of an order can
pub order_grids : (sides order : List ℕ) (n : ℕ) → SidesTurnable sides n → OrderOf order n → OfGrids sides order
order_grids sides order n h w =
    let room = h.room in
    record {
      number = λ i l. let o = w.number i l in (o.0, omega (arith, o.1));
      turnable = λ i l. let o = w.number i l in h.each (at order i - 1) (omega (arith, o.0, o.1));
    }

module _ (sides order rows owners shifts : List ℕ) (n count : ℕ) (t : TurnedRows sides order rows owners shifts (length order * turns) count)
    (o : OfGrids sides order) (w : OrderOf order n) where
  -- the owner of a row is one of the grids
  pub row_owner : (r : ℕ) → r < count → at owners r < n
  row_owner r l = let p = row_listed sides order rows owners shifts count t r l in let q = w.number (t.place r / turns) p in omega (arith, t.owner r l, q.0, q.1)

  -- at an admitted point a grid holds it exactly where one of its rows does
  module _ (x y : ℕ) (low : lon_first ≤ x) (high : x ≤ lon_last) where
    pub row_holds : (r : ℕ) → r < count → rect_holds rows r x y ≡ true → turn_holds lon_turn sides (at owners r) x y ≡ true
    unfolding rect_holds rect_at
    row_holds r l h =
        let p = row_held sides order rows owners shifts count t o x y r l (omega arith) h in
        turn_holds_by lon_turn sides (at owners r) x y (t.place r % turns) p.0 p.4

    pub grid_row : (k : ℕ) → k < n → turn_holds lon_turn sides k x y ≡ true → (r : ℕ) × (r < count) × (at owners r ≡ k) × (rect_holds rows r x y ≡ true)
    unfolding rect_holds rect_at
    grid_row k l h =
        let q = w.each k l in let c = turn_holds_cases lon_turn sides k x y h in
        let m : at order q.0 - 1 ≡ k = omega (arith, q.2) in
        let f = row_found sides order rows owners shifts count t o x y q.0 c.0 q.1 c.1 low high
        (subst (λ (j : ℕ). sides_lie (rect_at sides j) (turned_by lon_turn c.0 x) y ≡ true) (sym m) c.2) in
        (f.0, f.1, f.3 ∙ m, f.4)

    pub rows_own : Owns (λ r. rect_holds rows r x y) (λ r. suc (at owners r)) count (λ k. turn_holds lon_turn sides k x y) n
    rows_own =
        record {
          grid = λ r l h. subst (λ (k : ℕ). turn_holds lon_turn sides k x y ≡ true) (sym (before_suc (at owners r))) (row_holds r l h);
          rect = λ k l h. let f = grid_row k l h in (f.0, f.1, ap suc f.2, f.3);
        }

-- ---- the order by rank

module _ (rank : ℕ → ℕ) (n : ℕ) (limits : (k : ℕ) → k < n → (1 ≤ rank k) × (rank k ≤ rank_most)) where
  abbrev order : List ℕ
  order = by_rank rank n rank_most

  pub order_by_rank : OrderOf order n
  order_by_rank =
      record {
        number = λ i l. let m = mem_by_rank rank n rank_most (at order i) (at_mem 0 order i l) in (m.0, m.1);
        each = λ k l. let r = limits k l in mem_at 0 (by_rank_mem rank n rank_most k l r.0 r.1);
      }

-- ---- the rows of an accepted group

module _ (g : Group) (e : judged g ≡ Ok tt) (sides ranks : List ℕ) (s : Sided g g.grids sides ranks) (room : g.grids * 4 ≤ length sides) where
  module _ (rows owners shifts : List ℕ) (count : ℕ) (t : RankedRows sides ranks rows owners shifts g.grids count) where
    abbrev grids_order : List ℕ
    grids_order = by_rank (at ranks) g.grids rank_most

    of_grids : OfGrids sides grids_order
    of_grids = ranked_grids sides (at ranks) g.grids (flat_turnable g e sides ranks s room)

    orders : OrderOf grids_order g.grids
    orders = order_by_rank (at ranks) g.grids (flat_ranked g e sides ranks s)

    pub ranked_owner : (r : ℕ) → r < count → at owners r < g.grids
    ranked_owner = row_owner sides grids_order rows owners shifts g.grids count t of_grids orders

    sorted : (q r : ℕ) → q < r → r < count → at ranks (at owners q) ≤ at ranks (at owners r)
    sorted q r l m =
        let i = t.place q / turns in let j = t.place r / turns in
        let k = rows_sorted sides grids_order rows owners shifts count t q r l m in
        let listed = row_listed sides grids_order rows owners shifts count t r m in
        subst (λ (a : ℕ). at ranks a ≤ at ranks (at owners r)) (sym (t.owner q (omega arith)))
        (subst (λ (a : ℕ). at ranks (at grids_order i - 1) ≤ at ranks a) (sym (t.owner r m)) (pair i j k listed))
      where
        pair : (i j : ℕ) → i ≤ j → j < length grids_order → at ranks (at grids_order i - 1) ≤ at ranks (at grids_order j - 1)
        pair i j k listed =
            elim (dec_lt i j) [
              | yes lt ↦
                  ⊎_elim (λ b. omega arith) (λ b. omega (arith, b.0))
                  (pairs_at (Before (at ranks)) 0 grids_order (pairs_by_rank (at ranks) g.grids rank_most) i j lt listed)
              | no ge ↦ let same : i ≡ j = omega arith in rw same (omega arith)
            ]

    rows_ranked : Ranked (at ranks) (λ r. suc (at owners r)) count g.grids
    rows_ranked =
        record {
          owned = λ r l. (omega arith, omega (arith, ranked_owner r l));
          sorted = λ q r l m. transport (λ i. at ranks (sym (before_suc (at owners q)) i) ≤ at ranks (sym (before_suc (at owners r)) i)) (sorted q r l m);
        }

    module _ (x y : ℤ) (h : nat_abs x ≤ lon_most) (v : nat_abs y ≤ lat_zero) where
      abbrev p : ℕ
      p = lon_from_least x

      abbrev q : ℕ
      q = lat_from_least y

      distance : (lon_first ≤ p) × (p ≤ lon_last)
      distance = let b = raised_within lon_zero lon_most x h (omega arith) in (omega (arith, b.0), omega (arith, b.1))

      -- a row that holds the point is one of a grid that does
      pub ranked_holds : (r : ℕ) → r < count → rect_holds rows r p q ≡ true → holds (grid_at g (at owners r)) x y ≡ true
      ranked_holds r l held =
          sym (flat_holds g e sides ranks s x y h v (at owners r) (ranked_owner r l))
          ∙ row_holds sides grids_order rows owners shifts g.grids count t of_grids orders p q distance.0 distance.1 r l held

      -- the owner of the first row that holds the point is the grid that is chosen in the group
      pub ranked_chosen : holder (λ r. rect_holds rows r p q) (λ r. suc (at owners r)) count ≡ chosen_in g x y
      ranked_chosen =
          holder_chosen (λ r. rect_holds rows r p q) (λ r. suc (at owners r)) count (at ranks) (λ i. turn_holds lon_turn sides i p q) g.grids
          rows_ranked (rows_own sides grids_order rows owners shifts g.grids count t of_grids orders p q distance.0 distance.1)
          (flat_apart g e sides ranks s p q distance.0 distance.1)
          ∙ flat_chosen_lem g e sides ranks s x y h v

      -- and its turn is the one that this grid uses
      pub ranked_used : (r : ℕ) → r ≡ first (λ i. rect_holds rows i p q) count → r < count
          → p + at shifts r - lon_turn ≡ lon_from_least (lon_used (lon_span (grid_at g (at owners r))) x)
      unfolding rect_holds rect_at
      ranked_used r f l =
          row_first sides grids_order rows owners shifts count t of_grids p q r l distance.0 distance.1 f
          ∙ sym
          (flat_used g e sides ranks s x y h v (at owners r) (ranked_owner r l)
          (ranked_holds r l (subst (λ (i : ℕ). rect_holds rows i p q ≡ true) (sym f) (first_hit (λ i. rect_holds rows i p q) count (subst (λ (i : ℕ). i < count) f l)))))
