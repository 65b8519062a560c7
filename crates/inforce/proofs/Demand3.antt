-- Demand 3: for every accepted group and admitted area, what `in_force_of` answers is the list of the grids in force.
use Prim.Native.Nat.{ℕ, zero, suc, ◌+◌, ◌-◌, ◌≤◌, ◌<◌}
use mathlib.Core.Path.{◌≡◌, refl, sym, ◌∙◌, ap, subst}
use mathlib.Core.Bool.{true}
use mathlib.Core.List.{List, [], ◌∷◌, map}
use native.Mathlib.Omega.{arith}
use lib.IntN.{ℤ}
use lib.ListN.{length, get_or, replicate, length-append, length-map, length-replicate, get_or-append}
use lib.Seq.{get_or-append-add}
use Rattle.numbers.proofs.Lists.{map_at}
use Rattle.group.specs.declared.Group.{Group}
use Rattle.group.specs.Numbers.{grids_most}
use Rattle.group.specs.Record.{grid_at}
use Rattle.extent.specs.Extent.{holds}
use Rattle.extent.specs.Sides.{lon_from_least, lat_from_least}
use Rattle.judge.specs.Judge.{judged}
use Rattle.judge.proofs.Accepted.{accepted_head}
use Rattle.ingroup.proofs.InGroupLaws.{chosen_holds}
use Rattle.coverage.specs.declared.Entry.{Entry}
use Rattle.coverage.specs.Listing.{no_entry}
use Rattle.inforce.specs.declared.Area.{Area}
use Rattle.inforce.specs.declared.GridInForce.{GridInForce}
use Rattle.inforce.specs.Area.{area_fits, InArea, lon_at, lat_at}
use Rattle.inforce.specs.InForce.{in_force_in, shown_entry, blank_entry, accepted_list}
use Rattle.inforce.specs.Demand3.{entry_at, GridPlaced, GridsInForce, Demand3}
use Rattle.inforce.proofs.AreaLaws.{area_inside}
use Rattle.inforce.proofs.GroupLaws.{by_distances, first_chosen_lem, placed_in}
use Rattle.inforce.proofs.StageLaws.{area_accepted, in_force_listed}
use Rattle.std.specs.Prelude.{Ok}

-- what stands in each place
pub none_at : (n i : ℕ) → get_or (replicate n blank_entry) i blank_entry ≡ blank_entry
none_at zero i = refl
none_at (suc n) zero = refl
none_at (suc n) (suc i) = none_at n i

module _ (es : List Entry) where
  used : (i : ℕ) → i < length es → entry_at (accepted_list es) i ≡ shown_entry (get_or es i no_entry)
  used i h =
      get_or-append (map shown_entry es) (replicate (grids_most - length es) blank_entry) blank_entry i (omega (arith, length-map es shown_entry)) ∙ map_at shown_entry no_entry blank_entry es i h

  unused : (i : ℕ) → length es ≤ i → entry_at (accepted_list es) i ≡ blank_entry
  unused i h =
      let e : i ≡ length (map shown_entry es) + (i - length es) = omega (arith, length-map es shown_entry) in
      rw e (get_or-append-add (map shown_entry es) (replicate (grids_most - length es) blank_entry) (i - length es) blank_entry ∙ none_at (grids_most - length es) (i - length es))

  whole : length es ≤ grids_most → length (accepted_list es).entries ≡ grids_most
  whole h =
      omega (arith, length-append (map shown_entry es) (replicate (grids_most - length es) blank_entry), length-map es shown_entry, length-replicate (grids_most - length es) blank_entry)

module _ (g : Group) (e : judged g ≡ Ok tt) (a : Area) (f : area_fits a ≡ true) where
  abbrev es : List Entry
  es = in_force_in g a

  placed : (i : ℕ) → i < length es → GridPlaced g a (shown_entry (get_or es i no_entry))
  placed i l =
      let p = (placed_in g e a f).placed i l in
      let t = get_or es i no_entry in
      record { number = p.number; first = first_chosen_lem g a f t.grid t.lon t.lat p.first }

  of_list : GridsInForce g a (accepted_list es)
  of_list =
      record {
        named = λ x y k i c.
            let n = (placed_in g e a f).named (lon_from_least x) (lat_from_least y) k (area_inside a f x y i) (by_distances g a f x y i ∙ c) in
            (n.0, n.1, ap (λ (t : GridInForce). t.grid) (used es n.0 n.1) ∙ n.2);
        placed = λ i l. subst (GridPlaced g a) (sym (used es i l)) (placed i l);
        ordered = λ i j l m. rw (used es i (omega arith), used es j m) ((placed_in g e a f).ordered i j l m);
        once = λ i j l m q.
            (placed_in g e a f).once i j l m
            (sym (ap (λ (t : GridInForce). t.grid) (used es i (omega arith))) ∙ q ∙ ap (λ (t : GridInForce). t.grid) (used es j m));
        unused = unused es;
        most = (placed_in g e a f).few;
        entries = whole es (omega (arith, (placed_in g e a f).few, (accepted_head g e).grids));
        hidden = λ k h i l q.
            let p = (placed i l).first in
            let t = get_or es i no_entry in
            let c = p.chosen ∙ sym (ap (λ (t : GridInForce). t.grid) (used es i l)) ∙ q in
            h (lon_at t.lon) (lat_at t.lat) p.inside (chosen_holds g _ _ k c).1 c;
        empty = λ h. none es refl h;
      }
    where
      none : (xs : List Entry) → es ≡ xs → ((x y : ℤ) (k : ℕ) → InArea a x y → k < g.grids → holds (grid_at g k) x y ≡ true → ⊥) → length es ≡ 0
      none [] q h = ap length q
      none (t ∷ ts) q h =
          let l : 0 < length es = omega (arith, ap length q) in
          let p = (placed 0 l).first in
          let s = get_or es 0 no_entry in
          let k = s.grid - 1 in
          let n : s.grid ≡ suc k = omega (arith, (placed 0 l).number.0) in
          let c = chosen_holds g (lon_at s.lon) (lat_at s.lat) k (p.chosen ∙ n) in
          absurd (h (lon_at s.lon) (lat_at s.lat) k p.inside c.0 c.1)

pub demand_3 : (g : Group) (a : Area) → Demand3 g a
demand_3 g a e f = (accepted_list (in_force_in g a), in_force_listed g a (area_accepted g a e f), of_list g e a f)
