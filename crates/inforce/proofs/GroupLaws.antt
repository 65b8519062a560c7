-- An accepted group's flat lists are sound, and the list and the hole over them are those of the choice in the group. What is known of them.
use Prim.Native.Nat.{ℕ, ◌≤◌}
use mathlib.Core.Path.{◌≡◌, sym, ◌∙◌, ap, ap₂, subst}
use mathlib.Core.Bool.{true}
use mathlib.Core.List.{List}
use mathlib.Core.Logic.{inl, inr, ⊎_elim}
use native.Mathlib.Omega.{arith}
use lib.IntN.{ℤ}
use lib.ListN.{length}
use lib.Signed.{◌≤ℤ◌, ◌<ℤ◌}
use Rattle.std.specs.Prelude.{Some, Ok}
use Rattle.numbers.proofs.Machine.{lowered_size, lowered_raised, raised_lowered}
use Rattle.group.specs.declared.Group.{Group}
use Rattle.group.specs.Numbers.{grids_most, rank_most, lon_zero, lat_zero}
use Rattle.group.specs.Record.{grid_at}
use Rattle.extent.specs.Sides.{lon_from_least, lat_from_least}
use Rattle.judge.specs.Judge.{judged}
use Rattle.flat.specs.Lists.{Sided, Room}
use Rattle.judge.proofs.Accepted.{accepted_head}
use Rattle.numbers.specs.Lists.{at}
use Rattle.numbers.proofs.Lists.{at_mem, mem_at, pairs_at}
use Rattle.flat.specs.Order.{by_rank, Before}
use Rattle.flat.proofs.OrderSteps.{by_rank≤}
use Rattle.flat.proofs.OrderLaws.{mem_by_rank, by_rank_mem, pairs_by_rank, before_differs, by_rank_alike}
use Rattle.ingroup.specs.InGroup.{chosen_in}
use Rattle.ingroup.proofs.InGroupLaws.{chosen_holds, rank_limits, flat_turnable, flat_ranked, flat_apart, flat_chosen_lem}
use Rattle.region.specs.declared.Spot.{Spot}
use Rattle.coverage.specs.InForce.{in_force_by}
use Rattle.coverage.specs.Demand3.{Inside, Ordered, IsFirstTaken, EntriesInForce}
use Rattle.coverage.specs.Listing.{listing_of}
use Rattle.coverage.proofs.EntryLaws.{filled_used, filled_length}
use Rattle.coverage.proofs.Demand3.{first_taken_lem, first_found, first_alike, in_force_lem, in_force_alike}
use Rattle.inforce.specs.declared.Area.{Area}
use Rattle.inforce.specs.Area.{area_fits, InArea, lon_at, lat_at, area_from_least}
use Rattle.inforce.specs.Flat.{FlatSound, flat_chosen, flat_listing, flat_hole}
use Rattle.inforce.specs.InForce.{choice_at, in_force_in}
use Rattle.inforce.specs.Hole.{hole_in}
use Rattle.inforce.specs.Demand3.{IsFirstChosen}
use Rattle.inforce.specs.Handed.{Narrow, NarrowSpot}
use Rattle.inforce.proofs.AreaLaws.{lowered_<, lowered_≤, area_size, area_lon, area_inside, inside_most, inside_area}

module _ (g : Group) (e : judged g ≡ Ok tt) where
  -- the grids by rank are an order of all of them
  abbrev rank : ℕ → ℕ
  rank k = (grid_at g k).rank

  abbrev order : List ℕ
  order = by_rank rank g.grids rank_most

  ranked_order : Ordered (Before rank) g.grids order
  ranked_order =
      record {
        number = λ i l. let o = mem_by_rank rank g.grids rank_most (at order i) (at_mem 0 order i l) in (o.0, o.1);
        each = λ k l. let r = rank_limits g e k l in mem_at 0 (by_rank_mem rank g.grids rank_most k l r.0 r.1);
        sorted = pairs_at (Before rank) 0 order (pairs_by_rank rank g.grids rank_most);
        once = before_differs rank;
        few = by_rank≤ rank g.grids rank_most;
      }

  module _ (sides ranks : List ℕ) (s : Sided g g.grids sides ranks) where
    pub group_flat : Room sides ranks grids_most → FlatSound sides ranks g.grids
    group_flat r =
        let n = (accepted_head g e).grids in let h = r.sides_room in let k = r.ranks_room in
        record {
          room = record { few = n; sides_room = omega arith; ranks_room = omega arith };
          turnable = flat_turnable g e sides ranks s (omega arith);
          ranked = flat_ranked g e sides ranks s;
          apart = λ x y i j low high. flat_apart g e sides ranks s x y low high i j;
        }

    module _ (a : Area) (f : area_fits a ≡ true) where
      -- the same choice at each coordinate of the area
      same_choice : (x y : ℕ) → Inside (area_from_least a) x y → flat_chosen sides ranks g.grids x y ≡ chosen_in g (lon_at x) (lat_at y)
      same_choice x y i =
          let m = inside_most a f x y i in
          let p = raised_lowered lon_zero x m.0 in
          let q = raised_lowered lat_zero y m.1 in
          ap₂ (λ (u v : ℕ). flat_chosen sides ranks g.grids u v) (sym p) (sym q)
          ∙ flat_chosen_lem g e sides ranks s (lon_at x) (lat_at y) (area_lon a f (lon_at x) (lat_at y) (inside_area a f x y i)) (lowered_size lat_zero y m.1)

      same_list : in_force_by (flat_chosen sides ranks g.grids) (by_rank (at ranks) g.grids rank_most) (area_from_least a) ≡ in_force_in g a
      same_list =
          ap (λ (ns : List ℕ). in_force_by (flat_chosen sides ranks g.grids) ns (area_from_least a))
          (by_rank_alike (at ranks) (λ k. (grid_at g k).rank) g.grids rank_most s.rank)
          ∙ in_force_alike (flat_chosen sides ranks g.grids) (choice_at g) (area_from_least a) same_choice
          (by_rank (λ k. (grid_at g k).rank) g.grids rank_most)

      pub group_listed : flat_listing sides ranks g.grids (area_from_least a) ≡ listing_of (in_force_in g a)
      unfolding flat_listing
      group_listed = ap listing_of same_list

      pub group_hole : flat_hole sides ranks g.grids (area_from_least a) ≡ hole_in g a
      unfolding flat_hole
      group_hole = first_alike (flat_chosen sides ranks g.grids) (choice_at g) (area_from_least a) same_choice 0

-- the choice at an admitted area's coordinates
module _ (g : Group) (a : Area) (f : area_fits a ≡ true) where
  -- the same by its distances
  pub by_distances : (x y : ℤ) → InArea a x y → chosen_in g (lon_at (lon_from_least x)) (lat_at (lat_from_least y)) ≡ chosen_in g x y
  by_distances x y i =
      let n = area_size a f x y i in
      ap₂ (chosen_in g) (lowered_raised lon_zero x n.0) (lowered_raised lat_zero y n.1)

  -- the first by distances is the first
  pub first_chosen_lem : (k x y : ℕ) → IsFirstTaken (choice_at g) (area_from_least a) k x y → IsFirstChosen g a k (lon_at x) (lat_at y)
  first_chosen_lem k x y p =
      record {
        inside = inside_area a f x y p.inside;
        chosen = p.chosen;
        others = λ u v h c.
            let n = area_size a f u v h in
            let m = lowered_raised lon_zero u n.0 in
            let o = lowered_raised lat_zero v n.1 in
            ⊎_elim
            (λ q. inl (subst (λ (z : ℤ). lat_at y <ℤ z) o (lowered_< lat_zero y (lat_from_least v) q)))
            (λ q. inr (ap lat_at q.0 ∙ o, subst (λ (z : ℤ). lon_at x ≤ℤ z) m (lowered_≤ lon_zero x (lon_from_least u) q.1)))
            (p.others (lon_from_least u) (lat_from_least v) (area_inside a f u v h) (by_distances u v h ∙ c));
      }

  -- the hole is the first coordinate at which no grid is chosen, and there is one where such a coordinate is
  pub hole_first : (s : Spot) → hole_in g a ≡ Some s → IsFirstChosen g a 0 (lon_at s.x) (lat_at s.y)
  hole_first s e = first_chosen_lem 0 s.x s.y (first_taken_lem (choice_at g) (area_from_least a) 0 s e)

  pub hole_found : (x y : ℤ) → InArea a x y → chosen_in g x y ≡ 0 → (s : Spot) × (hole_in g a ≡ Some s)
  hole_found x y i c =
      first_found (choice_at g) (area_from_least a) (lon_from_least x) (lat_from_least y) 0 (area_inside a f x y i) (by_distances x y i ∙ c)

  pub narrow_hole : (s : Spot) → hole_in g a ≡ Some s → NarrowSpot s
  narrow_hole s e =
      let m = inside_most a f s.x s.y (first_taken_lem (choice_at g) (area_from_least a) 0 s e).inside in
      (omega (arith, m.0), omega (arith, m.1))

-- what is known of the list
module _ (g : Group) (e : judged g ≡ Ok tt) (a : Area) (f : area_fits a ≡ true) where
  pub placed_in : EntriesInForce (choice_at g) (Before (λ k. (grid_at g k).rank)) g.grids (area_from_least a) (in_force_in g a)
  placed_in =
      in_force_lem (choice_at g) (Before (λ k. (grid_at g k).rank)) g.grids (area_from_least a)
      (by_rank (λ k. (grid_at g k).rank) g.grids rank_most) (ranked_order g e) (λ x y k c. (chosen_holds g (lon_at x) (lat_at y) k c).0)

  few : length (in_force_in g a) ≤ grids_most
  few = omega (arith, placed_in.few, (accepted_head g e).grids)

  pub narrow_list : Narrow (listing_of (in_force_in g a))
  narrow_list =
      record {
        few = few;
        room = filled_length (in_force_in g a) few;
        lon = λ i l. rw (filled_used (in_force_in g a) i l) (omega (arith, (inside_most a f _ _ (placed_in.placed i l).first.inside).0));
        lat = λ i l. rw (filled_used (in_force_in g a) i l) (omega (arith, (inside_most a f _ _ (placed_in.placed i l).first.inside).1));
      }
