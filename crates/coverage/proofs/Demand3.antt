-- Demand 3 over unsigned coordinates: the list that `in_force_by` defines is that of the grids in force.
use mathlib.Core.Path.{◌≡◌, refl, sym, ap, ◌∙◌, subst}
use mathlib.Core.Bool.{false}
use mathlib.Core.List.{List, [], ◌∷◌, Memᴰ}
use mathlib.Core.Logic.{inl, inr}
use Prim.Native.Nat.{ℕ, suc, ◌<◌}
use native.Mathlib.Omega.{arith}
use native.Mathlib.Decide.{dec_lt}
use borrow.Author.Tests.{eq-eqb, eqb-true}
use lib.Dec.{eqb}
use lib.ListN.{length, get_or}
use Rattle.std.specs.Prelude.{Option, Some, None}
use Rattle.numbers.proofs.Bools.{true_false}
use Rattle.region.specs.First.{spot_at}
use Rattle.region.specs.declared.Spot.{Spot}
use Rattle.region.specs.declared.Bounds.{Bounds}
use Rattle.region.proofs.SearchLaws.{at_first, none_first, first_same}
use Rattle.coverage.specs.InForce.{first_taken, entries_of, in_force_by}
use Rattle.coverage.specs.Listing.{no_entry}
use Rattle.coverage.specs.Demand3.{Inside, IsFirstTaken, EntryPlaced, Ordered, EntriesInForce}
use Rattle.coverage.specs.declared.Entry.{Entry}
use Rattle.numbers.proofs.Lists.{at_mem, mem_at, pairs_at, pairs_by}
use Rattle.coverage.proofs.EntryLaws.{entries≤, mem_entries, entries_mem, pairs_entries}

module _ (choose : ℕ → ℕ → ℕ) (a : Bounds) where
  -- where the grid numbered k is chosen first, or none where k is 0
  pub first_taken_lem : (k : ℕ) (s : Spot) → first_taken choose a k ≡ Some s → IsFirstTaken choose a k s.x s.y
  first_taken_lem k s e =
      let f = at_first (λ u v. eqb (choose u v) k) a.west a.east a.south a.north s e in
      record {
        inside = record { west≤ = f.west≤; ≤east = f.≤east; south≤ = f.south≤; ≤north = f.≤north };
        chosen = eqb-true (choose s.x s.y) k f.here;
        others = λ u v i c. let t = eq-eqb (choose u v) k c in
            elim (dec_lt s.y v) [
              | yes lt ↦ inl lt
              | no ge ↦
                  elim (dec_lt v s.y) [
                    | yes lt ↦ absurd (true_false t (f.below u v i.west≤ i.≤east i.south≤ lt))
                    | no ge₂ ↦
                        let r : v ≡ s.y = omega arith in
                        elim (dec_lt u s.x) [
                          | yes lt ↦ absurd (true_false t (subst (λ (j : ℕ). eqb (choose u j) k ≡ false) (sym r) (f.left u i.west≤ lt)))
                          | no ge₃ ↦ inr (sym r, omega arith)
                        ]
                  ]
            ];
      }

  pub first_found : (x y k : ℕ) → Inside a x y → choose x y ≡ k → (s : Spot) × (first_taken choose a k ≡ Some s)
  first_found x y k i p = go (first_taken choose a k) refl
    where
      go : (s : Option Spot) → first_taken choose a k ≡ s → (s : Spot) × (first_taken choose a k ≡ Some s)
      go (Some s) q = (s, q)
      go None q =
          absurd (true_false (eq-eqb (choose x y) k p)
          (none_first (λ u v. eqb (choose u v) k) a.west a.east a.south a.north q x y i.west≤ i.≤east i.south≤ i.≤north))

-- where a choice takes one of n grids or none
pub in_force_lem : (choose : ℕ → ℕ → ℕ) (Before : ℕ → ℕ → Type 0) (n : ℕ) (a : Bounds) (order : List ℕ) → Ordered Before n order
    → ((x y g : ℕ) → choose x y ≡ suc g → g < n) → EntriesInForce choose Before n a (in_force_by choose order a)
in_force_lem choose Before n a order o taken =
    record {
      named = named;
      placed = λ i m. member_placed (get_or es i no_entry) (at_mem no_entry es i m);
      ordered = ordered;
      once = λ i j m q. o.once (get_or es i no_entry).grid (get_or es j no_entry).grid (ordered i j m q);
      few = omega (arith, entries≤ (first_taken choose a) order, o.few);
    }
  where
    es : List Entry
    es = in_force_by choose order a

    member_placed : (e : Entry) → Memᴰ e es → EntryPlaced choose n a e
    member_placed e m =
        let p = mem_entries (first_taken choose a) order e m in
        let i = mem_at 0 p.0 in
        let b = o.number i.0 i.1 in
        record {
          number = (omega (arith, b.0, i.2), omega (arith, b.1, i.2));
          first = first_taken_lem choose a e.grid (spot_at e.lon e.lat) p.1;
        }

    named : (x y g : ℕ) → Inside a x y → choose x y ≡ suc g → (i : ℕ) × (i < length es) × ((get_or es i no_entry).grid ≡ suc g)
    named x y g i p =
        let q = o.each g (taken x y g p) in
        let m : Memᴰ (suc g) order = subst (λ (k : ℕ). Memᴰ k order) q.2 (at_mem 0 order q.0 q.1) in
        let s = first_found choose a x y (suc g) i p in
        let k = mem_at no_entry (entries_mem (first_taken choose a) m s.0 s.1) in
        (k.0, k.1, ap (λ (f : Entry). f.grid) k.2)

    ordered : (i j : ℕ) → i < j → j < length es → Before (get_or es i no_entry).grid (get_or es j no_entry).grid
    ordered i j m q =
        pairs_at (λ e f. Before e.grid f.grid) no_entry es
        (pairs_entries (first_taken choose a) Before order (pairs_by Before 0 order o.sorted)) i j m q

-- A first coordinate and the list depend on the choice at the area's coordinates, and on nothing else of it.
module _ (choose take : ℕ → ℕ → ℕ) (a : Bounds) (same : (x y : ℕ) → Inside a x y → choose x y ≡ take x y) where
  pub first_alike : (k : ℕ) → first_taken choose a k ≡ first_taken take a k
  first_alike k =
      first_same (λ x y. eqb (choose x y) k) (λ x y. eqb (take x y) k) a.west a.east a.south a.north
      (λ x y i j u v t. sym (ap (λ (m : ℕ). eqb m k) (same x y (record { west≤ = i; ≤east = j; south≤ = u; ≤north = v }))) ∙ t)
      (λ x y i j u v t. ap (λ (m : ℕ). eqb m k) (same x y (record { west≤ = i; ≤east = j; south≤ = u; ≤north = v })) ∙ t)

  pub in_force_alike : (order : List ℕ) → in_force_by choose order a ≡ in_force_by take order a
  unfolding entries_of
  in_force_alike [] = refl
  in_force_alike (k ∷ ks) = rw (first_alike k, in_force_alike ks)
