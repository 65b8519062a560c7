-- The pieces of an accepted lookup, by the flat lists of its group.
use Prim.Native.Nat.{ℕ, ◌+◌, ◌-◌, ◌*◌, ◌^◌, ◌≤◌, ◌<◌}
use mathlib.Core.Path.{◌≡◌, refl, sym, ap, ◌∙◌}
use mathlib.Core.Bool.{Bool, true, false, not, cond, ◌&&◌}
use mathlib.Core.List.{List, [], ◌++◌}
use native.Mathlib.Omega.{arith}
use borrow.Author.Tests.{ltb-true}
use lib.Dec.{ltb, eqb}
use lib.IntN.{ℤ, pos, ◌+ℤ◌, nat_abs}
use lib.ListN.{length}
use Rattle.numbers.specs.Lists.{at}
use Rattle.numbers.proofs.Bools.{and_left}
use Rattle.numbers.proofs.OrderLaws.{within_size, raised_bound}
use Rattle.numbers.proofs.Diff.{diff_of, diff_join}
use Rattle.numbers.proofs.Machine.{diff_raised}
use Rattle.group.specs.declared.Group.{Group}
use Rattle.group.specs.declared.Point.{Point}
use Rattle.group.specs.Numbers.{lon_turn, lon_zero, lon_most, grids_most, lon_admitted, lat_admitted}
use Rattle.group.specs.Record.{grid_at}
use Rattle.extent.specs.Extent.{lon_span, holds, lon_used}
use Rattle.extent.specs.Sides.{lon_from_least, lat_from_least}
use Rattle.extent.proofs.SideLaws.{used_size}
use Rattle.abi.specs.Abi.{list_of}
use Rattle.abi.proofs.ListLaws.{list_of_same}
use Rattle.judge.proofs.Accepted.{accepted, accepted_head}
use Rattle.judge.proofs.LimitLaws.{parameters_between}
use Rattle.choice.specs.Rect.{turn_holds}
use Rattle.choice.specs.Choice.{chosen}
use Rattle.flat.specs.Frames.{frame_at}
use Rattle.flat.specs.Lists.{Flat}
use Rattle.ingroup.proofs.InGroupLaws.{chosen_most}
use Rattle.day.specs.Day.{factor_of}
use Rattle.fix.specs.declared.Offset.{Offset}
use Rattle.lookup.specs.Lookup.{offset_of}
use Rattle.lookup.specs.Flat.{offset_in, Chosen, used_at}
use Rattle.lookup.proofs.BridgeLaws.{listed_choice, listed_holds, told_used, told_seen, told_chosen}
use Rattle.explain.specs.Explain.{worked_numbers, is_other, other_rank, pieces_at, cell_numbers, pieces_of, pieces_numbers}
use Rattle.explain.specs.Flat.{parameters_numbers, rank_beside, Explainable}

-- one behind the other: the numbers of the cell, of the parameters and of the other grids
pub pieces_told : (g : Group) (nodes : List ℤ) (p : Point) (t : ℤ) (c : ℕ) {lon : ℤ} {l : Offset} {f : ℤ} {others : List ℤ}
    → lon ≡ lon_used (lon_span (grid_at g (c - 1))) p.lon.0 → l ≡ offset_of (grid_at g (c - 1)) g.parameters p
    → f ≡ factor_of g.function g.functions t → others ≡ list_of (λ k. pos (other_rank g p c k)) grids_most
    → cell_numbers (pieces_at c lon l [] f (λ k. 0)) ++ (parameters_numbers l nodes f ++ others) ≡ pieces_numbers (pieces_of g nodes p t c)
unfolding pieces_numbers pieces_of parameters_numbers cell_numbers worked_numbers
pieces_told g nodes p t c e₁ e₂ e₃ e₄ =
    λ i. cell_numbers (pieces_at c (e₁ i) (e₂ i) [] (e₃ i) (λ k. 0)) ++ (parameters_numbers (e₂ i) nodes (e₃ i) ++ e₄ i)

module _ (g : Group) (nodes : List ℤ) (p : Point) (t : ℤ) (c : ℕ) (r : Explainable g nodes p t c) where
  pub number_most_lem : c ≤ g.grids
  number_most_lem = omega (arith, r.chosen, chosen_most g p.lon.0 p.lat.0)

  pub few : c ≤ grids_most
  few = omega (arith, number_most_lem, (accepted_head g r.ready.accepted).grids)

  pub some_parameter : 0 < g.parameters
  some_parameter = (parameters_between g (accepted g r.ready.accepted).head).0

  abbrev used : ℤ
  used = lon_used (lon_span (grid_at g (c - 1))) p.lon.0

  used_small : nat_abs used ≤ lon_zero
  used_small =
      used_size (lon_span (grid_at g (c - 1))) p.lon.0
      (omega (arith, within_size lon_most p.lon.0 (and_left (lon_admitted p.lon.0) (lat_admitted p.lat.0) r.ready.point)))

  module _ (sides ranks frames : List ℕ) (fl : Flat g g.grids sides ranks frames) {y : ℕ} (ey : y ≡ lat_from_least p.lat.0) {x : ℕ} (ex : x ≡ lon_from_least p.lon.0) where
    choice : c ≡ chosen (λ k. turn_holds lon_turn sides k x y) (at ranks) g.grids
    choice = r.chosen ∙ sym (listed_choice g nodes p t r.ready sides ranks frames fl ey ex)

    -- the ranks of the other grids
    module _ {grids : ℕ} (eg : grids ≡ g.grids) where
      beside : (k : ℕ) → rank_beside sides ranks g.grids c x y k ≡ other_rank g p c k
      unfolding rank_beside is_other
      beside k = go (ltb k g.grids) refl
        where
          go : (b : Bool) → ltb k g.grids ≡ b
              → cond (b && (not (eqb (k + 1) c) && turn_holds lon_turn sides k x y)) (at ranks k) 0
              ≡ cond (b && (not (eqb (k + 1) c) && holds (grid_at g k) p.lon.0 p.lat.0)) (grid_at g k).rank 0
          go true e =
              let l = ltb-true k g.grids e in
              λ i.
              cond (not (eqb (k + 1) c) && listed_holds g nodes p t r.ready sides ranks frames fl ey ex k l i) (fl.sided.rank k l i) 0
          go false e = refl

      pub others_told : {ns : List ℤ} → ns ≡ list_of (λ k. pos (rank_beside sides ranks grids c x y k)) grids_most → ns ≡ list_of (λ k. pos (other_rank g p c k)) grids_most
      others_told e =
          e
          ∙ list_of_same (λ k. pos (rank_beside sides ranks grids c x y k)) (λ k. pos (other_rank g p c k)) grids_most
          (λ k l. ap (λ (n : ℕ). pos (rank_beside sides ranks n c x y k)) eg ∙ ap (λ (n : ℕ). pos n) (beside k))

    -- the longitude used, as its distance a
    module _ {a : ℕ} (ea : a ≡ used_at sides c x y) where
      distance_is : a ≡ lon_from_least used
      distance_is = let s = r.some in told_used g nodes p t r.ready sides ranks frames fl ey ex c a choice ea (c - 1) (omega arith)

      pub distance_most : a < 2 ^ 63
      distance_most = omega (arith, distance_is, raised_bound lon_zero used used_small)

      pub used_told : {z : ℤ} → z +ℤ pos lon_zero ≡ pos a → z ≡ used
      used_told {z} e = diff_join (diff_of z a lon_zero e) distance_is (diff_raised lon_zero used used_small)

      pub seen : offset_in (frame_at frames (c - 1)) g.parameters a y ≡ offset_of (grid_at g (c - 1)) g.parameters p
      seen = let s = r.some in told_seen g nodes p t r.ready sides ranks frames fl ey ex c a choice ea (c - 1) (omega arith)

      pub lies : g.grids * 7 ≤ length frames → Chosen frames c g.parameters (length nodes) a y
      lies h = told_chosen g nodes p t r.ready sides ranks frames fl ey ex c a choice ea h
