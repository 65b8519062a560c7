-- The list and the hole over flat lists, the grids' extents as rectangles of the admitted longitudes: they are those of the choice.
use Prim.Native.Nat.{ℕ, suc, ◌+◌, ◌-◌, ◌*◌, ◌≤◌, ◌<◌}
use mathlib.Core.Path.{◌≡◌, sym, ◌∙◌, ap, subst}
use mathlib.Core.Bool.{true}
use mathlib.Core.List.{List}
use native.Mathlib.Omega.{arith}
use lib.ListN.{length, take, drop, length-drop}
use lib.Seq.{get_or-take, get_or-drop, length-take-le}
use Rattle.numbers.specs.Lists.{at, Indices, Begins}
use Rattle.numbers.specs.Circle.{turns}
use Rattle.numbers.proofs.Bools.{same_test}
use Rattle.group.specs.Numbers.{grids_most, rank_most, lon_turn}
use Rattle.extent.specs.Sides.{lon_first, lon_last}
use Rattle.choice.specs.Rect.{rect_holds, turn_holds}
use Rattle.choice.specs.Choice.{chosen}
use Rattle.choice.proofs.RectLaws.{rect_holds_true, true_rect_holds}
use Rattle.choice.proofs.ChoiceLaws.{chosen_agree}
use Rattle.choice.proofs.PartLaws.{part_holds}
use Rattle.flat.specs.Rects.{rect_at}
use Rattle.flat.specs.Order.{by_rank}
use Rattle.flat.specs.Turned.{TurnedRows, OfGrids, RowRoom}
use Rattle.flat.proofs.OrderSteps.{by_rank≤}
use Rattle.flat.proofs.OrderLaws.{by_rank_alike}
use Rattle.flat.proofs.TurnedLaws.{row_admitted}
use Rattle.ingroup.proofs.RankLaws.{OrderOf, order_by_number, order_by_rank, order_grids, row_owner, row_holds, grid_row}
use Rattle.region.specs.declared.Bounds.{Bounds}
use Rattle.coverage.specs.Rectangles.{Rectangles, rectangles, grid_holds, chosen_at, first_chosen, SoundRects}
use Rattle.coverage.specs.Listing.{in_force, listing_of, Numbers}
use Rattle.coverage.specs.Demand3.{Inside}
use Rattle.coverage.proofs.GridLaws.{rect_grid, grid_rect}
use Rattle.coverage.proofs.Demand3.{first_alike, in_force_alike}
use Rattle.inforce.specs.Flat.{FlatSound, Admitted, flat_chosen, flat_listing, flat_hole}

-- the numbers 1 to n, the part behind 0 of the numbers from 0
module _ (order : List ℕ) (n : ℕ) (long : n + 1 ≤ length order) where
  abbrev numbers : List ℕ
  numbers = take (n + 1 - 1) (drop 1 order)

  pub numbers_length : length numbers ≡ n
  numbers_length = let m : n + 1 - 1 ≡ n = omega arith in length-take-le (n + 1 - 1) (drop 1 order) (omega (arith, length-drop 1 order)) ∙ m

  pub numbers_of : Indices (n + 1) order → OrderOf numbers n
  numbers_of e =
      order_by_number numbers n numbers_length
      (λ i l.
      let m : 1 + i ≡ suc i = omega arith in
      get_or-take (n + 1 - 1) (drop 1 order) i 0 (omega arith) ∙ get_or-drop 1 order i 0 ∙ e (1 + i) (omega arith) ∙ m)

module _ (sides ranks : List ℕ) (n : ℕ) (s : FlatSound sides ranks n) where
  -- the ranks of the grids of the group
  ranks_length : length (take n ranks) ≡ n
  ranks_length = length-take-le n ranks s.room.ranks_room

  rank_at : (k : ℕ) → k < n → at (take n ranks) k ≡ at ranks k
  rank_at k l = get_or-take n ranks k 0 l

  -- the order by them
  module _ (order : List ℕ) (count : ℕ) (b : Begins (by_rank (at (take n ranks)) (length (take n ranks)) rank_most) order count) where
    pub order_ranked : take count order ≡ by_rank (at ranks) n rank_most
    order_ranked =
        b.same
        ∙ ap (λ (m : ℕ). by_rank (at (take n ranks)) m rank_most) ranks_length
        ∙ by_rank_alike (at (take n ranks)) (at ranks) n rank_most rank_at

    pub order_of : OrderOf (take count order) n
    order_of = subst (λ (ns : List ℕ). OrderOf ns n) (sym order_ranked) (order_by_rank (at ranks) n s.ranked)

    pub order_few : length (take count order) ≤ grids_most
    order_few = omega (arith, ap length order_ranked, by_rank≤ (at ranks) n rank_most, s.room.few)

    pub order_numbers : Numbers (length (take n ranks)) (take count order)
    order_numbers = record { few = order_few; each = λ i l. let o = order_of.number i l in (o.0, omega (arith, o.1, ranks_length)) }

  -- the rows of any order of the grids
  module _ (order rows owners shifts : List ℕ) (count : ℕ) (w : OrderOf order n) (few : length order ≤ grids_most)
      (t : TurnedRows sides order rows owners shifts (length order * turns) count) (room : RowRoom rows owners shifts count) where
    -- the parts that they fill
    abbrev part : Rectangles
    part = rectangles (take (count * 4) rows) (take count owners) (take n ranks)

    rows_length : length (take (count * 4) rows) ≡ count * 4
    rows_length = length-take-le (count * 4) rows room.rows_room

    owners_length : length (take count owners) ≡ count
    owners_length = length-take-le count owners room.owners_room

    owner_at : (r : ℕ) → r < count → at (take count owners) r ≡ at owners r
    owner_at r l = get_or-take count owners r 0 l

    row_at : (r x y : ℕ) → r < count → rect_holds (take (count * 4) rows) r x y ≡ rect_holds rows r x y
    row_at r x y l = part_holds rows owners count x y room.rows_room room.owners_room r l

    of_grids : OfGrids sides order
    of_grids = order_grids sides order n s.turnable w

    -- a grid holds a point where one of its rows does
    part_row : (k x y : ℕ) → grid_holds part k x y ≡ true → (r : ℕ) × (r < count) × (at owners r ≡ k) × (rect_holds rows r x y ≡ true)
    part_row k x y h =
        let f = grid_rect part x y k h in
        let l : f.0 < count = omega (arith, f.1, owners_length) in
        (f.0, l, sym (owner_at f.0 l) ∙ f.2, sym (row_at f.0 x y l) ∙ rect_holds_true (take (count * 4) rows) f.0 x y f.3)

    row_part : (r x y : ℕ) → r < count → rect_holds rows r x y ≡ true → grid_holds part (at owners r) x y ≡ true
    row_part r x y l h =
        subst (λ (k : ℕ). grid_holds part k x y ≡ true) (owner_at r l)
        (rect_grid part x y r (omega (arith, owners_length)) (true_rect_holds (take (count * 4) rows) r x y (row_at r x y l ∙ h)))

    -- and so no point but admitted ones
    part_admitted : (k x y : ℕ) → grid_holds part k x y ≡ true → (lon_first ≤ x) × (x ≤ lon_last)
    unfolding rect_holds rect_at
    part_admitted k x y h = let f = part_row k x y h in row_admitted sides order rows owners shifts count t x y f.0 f.1 f.3

    -- of these, the points that it holds round the earth
    module _ (x y : ℕ) (low : lon_first ≤ x) (high : x ≤ lon_last) where
      part_turned : (k : ℕ) → grid_holds part k x y ≡ true → turn_holds lon_turn sides k x y ≡ true
      part_turned k h =
          let f = part_row k x y h in
          subst (λ (i : ℕ). turn_holds lon_turn sides i x y ≡ true) f.2
          (row_holds sides order rows owners shifts n count t of_grids w x y low high f.0 f.1 f.3)

      turned_part : (k : ℕ) → k < n → turn_holds lon_turn sides k x y ≡ true → grid_holds part k x y ≡ true
      turned_part k l h =
          let f = grid_row sides order rows owners shifts n count t of_grids w x y low high k l h in
          subst (λ (i : ℕ). grid_holds part i x y ≡ true) f.2 (row_part f.0 x y f.1 f.3)

      part_chosen : chosen_at part x y ≡ flat_chosen sides ranks n x y
      unfolding chosen_at
      part_chosen =
          ap (chosen (λ k. grid_holds part k x y) (at (take n ranks))) ranks_length
          ∙ chosen_agree (λ k. grid_holds part k x y) (λ k. turn_holds lon_turn sides k x y) (at (take n ranks)) (at ranks) n
          (λ k l. same_test _ _ (part_turned k) (turned_part k l)) rank_at

    pub flat_sound : SoundRects part
    flat_sound =
        record {
          sides = omega (arith, rows_length, owners_length);
          few = omega (arith, owners_length, t.few, few);
          owned = λ r l.
              let m : r < count = omega (arith, owners_length) in
              omega (arith, owner_at r m, row_owner sides order rows owners shifts n count t of_grids w r m, ranks_length);
          grids = omega (arith, ranks_length, s.room.few);
          apart = λ x y i j l m e h k.
              let b : j < n = omega (arith, ranks_length) in
              let a : i < n = omega arith in
              let p = part_admitted i x y h in
              s.apart x y i j p.0 p.1 l b (sym (rank_at i a) ∙ e ∙ rank_at j b)
              (part_turned x y p.0 p.1 i h) (part_turned x y p.0 p.1 j k);
        }

    module _ (a : Bounds) (admitted : Admitted a) where
      area_chosen : (x y : ℕ) → Inside a x y → chosen_at part x y ≡ flat_chosen sides ranks n x y
      area_chosen x y i = part_chosen x y (omega (arith, admitted.0, i.west≤)) (omega (arith, admitted.1, i.≤east))

      pub flat_hole_lem : first_chosen part a 0 ≡ flat_hole sides ranks n a
      unfolding flat_hole
      flat_hole_lem = first_alike (chosen_at part) (flat_chosen sides ranks n) a area_chosen 0

      pub flat_list : order ≡ by_rank (at ranks) n rank_most → listing_of (in_force part order a) ≡ flat_listing sides ranks n a
      unfolding flat_listing
      flat_list e =
          ap listing_of
          (ap (λ (ns : List ℕ). in_force part ns a) e
          ∙ in_force_alike (chosen_at part) (flat_chosen sides ranks n) a area_chosen (by_rank (at ranks) n rank_most))
