-- The laws of the entries of a list of grids: one for each that has a first coordinate, in the list's order.
use mathlib.Core.Path.{◌≡◌, refl, sym, ap, ◌∙◌}
use mathlib.Core.List.Memᴰ
use mathlib.Core.List.{List, [], ◌∷◌, ◌++◌, append-nil, append_assoc, Memᴰ}
use mathlib.Core.Logic.{⊎_elim}
use Prim.Native.Nat.{ℕ, suc, ◌+◌, ◌-◌, ◌≤◌, ◌<◌}
use native.Mathlib.Omega.{arith}
use native.Mathlib.Numerals.{add-one}
use lib.ListN.{length, get_or, take, set, replicate, length-append, length-replicate, get_or-append}
use lib.Seq.{set-append_seam, append_snoc, take-suc}
use Rattle.std.specs.Prelude.{Option, Some, None}
use Rattle.numbers.specs.Lists.{at}
use Rattle.region.specs.First.{spot_at}
use Rattle.region.specs.declared.Spot.{Spot}
use Rattle.coverage.specs.Rectangles.{entries_most}
use Rattle.coverage.specs.InForce.{entry_of, entries_of}
use Rattle.coverage.specs.Listing.{no_entry, filled, listing_of}
use Rattle.coverage.specs.declared.Entry.{Entry}
use Rattle.coverage.specs.declared.Listing.{Listing}
use Rattle.numbers.proofs.Lists.{Pairs, pairs_one, pairs_append}

-- the entry of a grid, if it has one
module _ (k : ℕ) where
  one≤ : (s : Option Spot) → length (entry_of k s) ≤ 1
  one≤ None = omega arith
  one≤ (Some s) = omega arith

  mem_one : (s : Option Spot) (e : Entry) → Memᴰ e (entry_of k s) → (e.grid ≡ k) × (s ≡ Some (spot_at e.lon e.lat))
  mem_one None e m = absurd (Memᴰ.not-nil m)
  mem_one (Some s) e m = let q = Memᴰ.eq_of_singleton m in (ap (λ (f : Entry). f.grid) q, rw q refl)

  pairs_entry : (R : Entry → Entry → Type 0) (s : Option Spot) → Pairs R (entry_of k s)
  pairs_entry R None = tt
  pairs_entry R (Some s) = pairs_one R (record { grid = k; lon = s.x; lat = s.y })

module _ (spot : ℕ → Option Spot) where
  pub entries≤ : (ks : List ℕ) → length (entries_of spot ks) ≤ length ks
  unfolding entries_of
  entries≤ [] = omega arith
  entries≤ (k ∷ ks) = omega (arith, entries≤ ks, one≤ k (spot k), length-append (entry_of k (spot k)) (entries_of spot ks))

  pub mem_entries : (ks : List ℕ) (e : Entry) → Memᴰ e (entries_of spot ks) → Memᴰ e.grid ks × (spot e.grid ≡ Some (spot_at e.lon e.lat))
  unfolding entries_of
  mem_entries [] e m = absurd (Memᴰ.not-nil m)
  mem_entries (k ∷ ks) e m =
      ⊎_elim
      (λ a. let o = mem_one k (spot k) e a in (Memᴰ.head o.0, ap spot o.0 ∙ o.1))
      (λ b. let o = mem_entries ks e b in (Memᴰ.tail o.0, o.1))
      (Memᴰ.append_cases (entry_of k (spot k)) m)

  pub entries_mem : {k : ℕ} {ks : List ℕ} → Memᴰ k ks → (s : Spot) → spot k ≡ Some s → Memᴰ (record { grid = k; lon = s.x; lat = s.y }) (entries_of spot ks)
  unfolding entries_of
  entries_mem {k} {ks = []} m s e = absurd (Memᴰ.not-nil m)
  entries_mem {k} {ks = j ∷ ks} (Memᴰ.head p) s e = Memᴰ.append_left {s = entry_of j (spot j)} (entries_of spot ks) (rw (← p, e) (Memᴰ.head refl))
  entries_mem {k} {ks = j ∷ ks} (Memᴰ.tail m) s e = Memᴰ.append_right (entry_of j (spot j)) (entries_mem m s e)

  pub pairs_entries : (R : ℕ → ℕ → Type 0) (ks : List ℕ) → Pairs R ks → Pairs (λ e f. R e.grid f.grid) (entries_of spot ks)
  unfolding entries_of
  pairs_entries R [] p = tt
  pairs_entries R (k ∷ ks) p =
      pairs_append (λ e f. R e.grid f.grid) (entry_of k (spot k)) (entries_of spot ks) (pairs_entry k (λ e f. R e.grid f.grid) (spot k)) (pairs_entries R ks p.1)
      (λ e f m n. rw (mem_one k (spot k) e m).0 (p.0 f.grid (mem_entries ks f n).0))

  entries_more : (ks : List ℕ) (k : ℕ) → entries_of spot (ks ++ k ∷ []) ≡ entries_of spot ks ++ entry_of k (spot k)
  unfolding entries_of
  entries_more [] k = append-nil (entry_of k (spot k))
  entries_more (j ∷ ks) k = rw (entries_more ks k) (sym (append_assoc (entry_of j (spot j)) (entries_of spot ks) (entry_of k (spot k))))

-- one entry more in the place of the first unused one
fill_more : (es : List Entry) (e : Entry) → length es < entries_most → set (filled es) (length es) e ≡ filled (es ++ e ∷ [])
fill_more es e h =
    let k = 63 - length es in
    let n = length-append es (e ∷ []) in
    let a : entries_most - length es ≡ suc k = omega arith in
    let b : entries_most - length (es ++ e ∷ []) ≡ k = omega arith in
    rw (a, b) (set-append_seam es no_entry (replicate k no_entry) e ∙ sym (append_snoc es e (replicate k no_entry)))

-- the entries of these grids are written
pub record Shown (spot : ℕ → Option Spot) (ks : List ℕ) (found : ℕ) (entries : List Entry) : Type 0 where
  pub many : found ≡ length (entries_of spot ks)
  pub same : entries ≡ filled (entries_of spot ks)

pub shown_listed : (spot : ℕ → Option Spot) (ks : List ℕ) (found : ℕ) (entries : List Entry) → Shown spot ks found entries
    → ◌≡◌ {A = Listing} (record { count = found; entries = entries }) (listing_of (entries_of spot ks))
shown_listed spot ks found entries h = rw (h.many, h.same) refl

-- one grid of the order more
module _ (spot : ℕ → Option Spot) (order : List ℕ) (k found : ℕ) (entries : List Entry) (h : Shown spot (take k order) found entries) (l : k < length order) where
  step : take (k + 1) order ≡ take k order ++ at order k ∷ []
  step = rw add-one (take-suc order k 0 l)

  -- the spot s that was found for it
  module _ (low : 1 ≤ at order k) {s : Option Spot} (found-spot : s ≡ spot (at order k - 1 + 1)) where
    spot_is : {t : Option Spot} → s ≡ t → spot (at order k) ≡ t
    spot_is e = let q : at order k - 1 + 1 ≡ at order k = omega arith in rw (← q, ← found-spot) e

    pub shown_not : s ≡ None → Shown spot (take (k + 1) order) found entries
    shown_not e =
        let q : entries_of spot (take (k + 1) order) ≡ entries_of spot (take k order) = rw (step, entries_more spot (take k order) (at order k), spot_is e) (append-nil (entries_of spot (take k order))) in
        record { many = h.many ∙ ap length (sym q); same = h.same ∙ ap filled (sym q) }

    pub shown_at : {t : Spot} → s ≡ Some t → found < entries_most
        → Shown spot (take (k + 1) order) (found + 1) (set entries found (record { grid = at order k; lon = t.x; lat = t.y }))
    shown_at {t} e m =
        let es = entries_of spot (take k order) in
        let f : Entry = record { grid = at order k; lon = t.x; lat = t.y } in
        let q : entries_of spot (take (k + 1) order) ≡ es ++ f ∷ [] = rw (step, entries_more spot (take k order) (at order k), spot_is e) refl in
        record {
          many = omega (arith, h.many, ap length q, length-append es (f ∷ []));
          same = rw (h.same, h.many) (fill_more es f (omega (arith, h.many))) ∙ ap filled (sym q);
        }

-- what stands in each of the places
module _ (es : List Entry) where
  pub filled_used : (i : ℕ) → i < length es → get_or (filled es) i no_entry ≡ get_or es i no_entry
  filled_used i l = get_or-append es (replicate (entries_most - length es) no_entry) no_entry i l

  pub filled_length : length es ≤ entries_most → length (filled es) ≡ entries_most
  filled_length l = omega (arith, length-append es (replicate (entries_most - length es) no_entry), length-replicate (entries_most - length es) no_entry)
