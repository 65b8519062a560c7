-- The laws of the choice in a group: whom it takes, and that the choice over an accepted group's flat lists is the same.
use Prim.Native.Nat.{ℕ, suc, ◌*◌, ◌≤◌, ◌<◌}
use mathlib.Core.Path.{◌≡◌, sym, ap, ◌∙◌, subst}
use mathlib.Core.Bool.{true}
use mathlib.Core.List.{List}
use native.Mathlib.Omega.{arith}
use borrow.Author.Tests.{eq-eqb}
use lib.IntN.{ℤ, nat_abs}
use lib.ListN.{length}
use Rattle.numbers.specs.First.{first}
use Rattle.numbers.specs.Lists.{at}
use Rattle.numbers.specs.Circle.{turns, turned_by}
use Rattle.numbers.proofs.Bools.{and_right, both, true_false}
use Rattle.numbers.proofs.FirstLaws.{some_same}
use Rattle.group.specs.declared.Group.{Group}
use Rattle.group.specs.Numbers.{rank_most, lon_edge_most, lon_most, lon_turn, lat_zero}
use Rattle.group.specs.Record.{grid_at}
use Rattle.extent.specs.declared.Sides.{Sides}
use Rattle.extent.specs.Extent.{lon_span, lat_span, lat_lies, lon_holds, holds, lon_used}
use Rattle.extent.specs.Sides.{sides_of, lon_from_least, lat_from_least, lon_first, lon_last, sides_lie, sides_hold}
use Rattle.extent.proofs.SideLaws.{sides_placed, holds_sides, used_sides}
use Rattle.extent.proofs.MeetLaws.{hold_meet}
use Rattle.flat.specs.Rects.{rect_at}
use Rattle.flat.specs.Lists.{Sided}
use Rattle.flat.specs.Turned.{Turnable, SidesTurnable}
use Rattle.judge.specs.Judge.{same_rank, judged}
use Rattle.judge.proofs.LimitLaws.{rank_between}
use Rattle.judge.proofs.Accepted.{accepted, accepted_edges}
use Rattle.choice.specs.Rect as rect
use Rattle.choice.specs.Choice.{chosen}
use Rattle.choice.proofs.ChoiceLaws.{Apart, chosen_best, chosen_none, chosen≤, chosen_agree}
use Rattle.ingroup.specs.InGroup.{chosen_in}
use Rattle.std.specs.Prelude.{Ok}

module _ (g : Group) (x y : ℤ) where
  -- the chosen grid is one of the group's and holds the point
  pub chosen_holds : (k : ℕ) → chosen_in g x y ≡ suc k → (k < g.grids) × (holds (grid_at g k) x y ≡ true)
  unfolding chosen_in
  chosen_holds k c = let b = chosen_best (λ i. holds (grid_at g i) x y) (λ i. (grid_at g i).rank) g.grids k c in (b.among, b.inside)

  -- and where none is chosen, no grid does
  pub none_holds : chosen_in g x y ≡ 0 → (k : ℕ) → k < g.grids → holds (grid_at g k) x y ≡ true → ⊥
  unfolding chosen_in
  none_holds c = chosen_none (λ i. holds (grid_at g i) x y) (λ i. (grid_at g i).rank) g.grids c

  pub chosen_most : chosen_in g x y ≤ g.grids
  unfolding chosen_in
  chosen_most = chosen≤ (λ i. holds (grid_at g i) x y) (λ i. (grid_at g i).rank) g.grids

module _ (g : Group) (e : judged g ≡ Ok tt) where
  pub rank_limits : (k : ℕ) → k < g.grids → (1 ≤ (grid_at g k).rank) × ((grid_at g k).rank ≤ rank_most)
  rank_limits k l = rank_between (grid_at g k) ((accepted g e).grid k l)

  -- the flat lists of an accepted group
  module _ (sides ranks : List ℕ) (s : Sided g g.grids sides ranks) where
    pub flat_ranked : (k : ℕ) → k < g.grids → (1 ≤ at ranks k) × (at ranks k ≤ rank_most)
    flat_ranked k l = let r = rank_limits k l in let q = s.rank k l in (omega arith, omega arith)

    pub flat_turnable : g.grids * 4 ≤ length sides → SidesTurnable sides g.grids
    flat_turnable room =
        record {
          room = room;
          each = λ k l.
              let p = sides_placed (grid_at g k) (accepted_edges g e k l) in
              subst Turnable (sym (s.side k l))
              (record { west_least = p.least; east_least = omega (arith, p.least, p.order); west_most = omega (arith, p.order, p.most); east_most = p.most });
        }

    -- a rectangle of the list holds what the grid's sides do
    pub flat_lies : (k x y : ℕ) → k < g.grids → rect.rect_holds sides k x y ≡ sides_lie (sides_of (grid_at g k)) x y
    unfolding rect.rect_holds rect_at
    flat_lies k x y l = ap (λ (t : Sides). sides_lie t x y) (s.side k l)

    turn_lies : (k x y : ℕ) → k < g.grids → rect.turn_holds lon_turn sides k x y ≡ sides_hold (sides_of (grid_at g k)) x y
    unfolding rect.turn_holds sides_hold
    turn_lies k x y l =
        some_same (λ j. rect.rect_holds sides k (turned_by lon_turn j x) y) (λ j. sides_lie (sides_of (grid_at g k)) (turned_by lon_turn j x) y) turns
        (λ j m. flat_lies k (turned_by lon_turn j x) y l)

    -- no two grids that hold an admitted point share a rank
    pub flat_apart : (x y : ℕ) → lon_first ≤ x → x ≤ lon_last → Apart (λ i. rect.turn_holds lon_turn sides i x y) (at ranks) g.grids
    unfolding same_rank
    flat_apart x y low high i j l m r h k =
        let a : i < g.grids = omega arith in
        true_false
        (both (eq-eqb (grid_at g i).rank (grid_at g j).rank (sym (s.rank i a) ∙ r ∙ s.rank j m))
        (hold_meet (grid_at g i) (grid_at g j) (accepted_edges g e i a) (accepted_edges g e j m) x y low high
        (sym (turn_lies i x y a) ∙ h) (sym (turn_lies j x y m) ∙ k)))
        ((accepted g e).ranks j i m l)

    module _ (x y : ℤ) (h : nat_abs x ≤ lon_most) (v : nat_abs y ≤ lat_zero) where
      edge : nat_abs x ≤ lon_edge_most
      edge = omega arith

      -- a grid of the list holds the point where the grid does
      pub flat_holds : (k : ℕ) → k < g.grids → rect.turn_holds lon_turn sides k (lon_from_least x) (lat_from_least y) ≡ holds (grid_at g k) x y
      flat_holds k l =
          turn_lies k (lon_from_least x) (lat_from_least y) l
          ∙ sym (holds_sides (grid_at g k) (accepted_edges g e k l) x y edge v)

      pub flat_chosen_lem : chosen (λ k. rect.turn_holds lon_turn sides k (lon_from_least x) (lat_from_least y)) (at ranks) g.grids ≡ chosen_in g x y
      unfolding chosen_in
      flat_chosen_lem =
          chosen_agree (λ k. rect.turn_holds lon_turn sides k (lon_from_least x) (lat_from_least y)) (λ k. holds (grid_at g k) x y)
          (at ranks) (λ k. (grid_at g k).rank) g.grids flat_holds s.rank

      -- the longitude that a grid which holds it uses
      module _ (k : ℕ) (l : k < g.grids) (held : holds (grid_at g k) x y ≡ true) where
        pub used_lat : lat_lies (lat_span (grid_at g k)) y ≡ true
        unfolding holds
        used_lat = and_right (lon_holds (lon_span (grid_at g k)) x) (lat_lies (lat_span (grid_at g k)) y) held

        pub flat_used : lon_from_least (lon_used (lon_span (grid_at g k)) x)
            ≡ turned_by lon_turn (first (λ j. sides_lie (rect_at sides k) (turned_by lon_turn j (lon_from_least x)) (lat_from_least y)) turns) (lon_from_least x)
        flat_used =
            used_sides (grid_at g k) (accepted_edges g e k l) x y edge v used_lat
            ∙ ap (λ (t : Sides). turned_by lon_turn (first (λ j. sides_lie t (turned_by lon_turn j (lon_from_least x)) (lat_from_least y)) turns) (lon_from_least x)) (sym (s.side k l))

        pub flat_turn_used : lon_from_least (lon_used (lon_span (grid_at g k)) x) ≡ rect.turn_used lon_turn sides k (lon_from_least x) (lat_from_least y)
        unfolding rect.turn_used rect.rect_holds rect_at
        flat_turn_used = flat_used
