-- Where a grid is chosen first: it is the first point that one of its rectangles holds and that no blocker of the grid holds. Where none is:
-- the first that no rectangle holds.
use mathlib.Core.Path.{◌≡◌, refl, sym, ap, ◌∙◌, subst}
use mathlib.Core.Bool.{Bool, true, ◌&&◌, ◌||◌, and-or_distrib_right}
use mathlib.Core.Logic.{⊎_elim}
use mathlib.Core.List.{List}
use Prim.Native.Nat.{ℕ, suc, ◌+◌, ◌≤◌, ◌<◌, min, max}
use native.Mathlib.Omega.{arith}
use native.Mathlib.Numerals.{add-one}
use native.Mathlib.Decide.{dec_lt}
use borrow.Author.Tests.{eq-eqb, eqb-true, ne_eqb}
use lib.Dec.{eqb}
use lib.ListN.{length}
use Rattle.std.specs.Prelude.{Option, Some, None}
use Rattle.numbers.specs.First.{some}
use Rattle.numbers.proofs.FirstLaws.{some_by, by_some}
use Rattle.numbers.proofs.Bools.{and_left, and_right, or_cases, both, or_left, or_right, same_test, untrue, true_false}
use Rattle.numbers.specs.Lists.{at}
use Rattle.choice.specs.Rect.{west_of, east_of, south_of, north_of, rect_holds}
use Rattle.choice.specs.Blocks.{blocks}
use Rattle.choice.proofs.RectLaws.{RectHolds, rect_holds_true, true_rect_holds}
use Rattle.choice.proofs.ChoiceLaws.{chosen_unblocked, unblocked_chosen, any_blocks, chosen_none, none_chosen}
use Rattle.region.specs.Earlier.{earlier}
use Rattle.region.specs.declared.Bounds.{Bounds}
use Rattle.region.specs.declared.Spot.{Spot}
use Rattle.region.proofs.SearchLaws.{narrow, first_same, first_none, first_either, first_up_to}
use Rattle.coverage.specs.Rectangles.{Rectangles, own_holds, grid_holds, chosen_at, first_chosen, SoundRects}
use Rattle.coverage.specs.Steps.{block_holds, unblocked, first_unblocked, first_of, first_of_rect, part_of, up_to, Each}

-- a rectangle of a grid, and the grid
module _ (l : Rectangles) (x y : ℕ) where
  pub rect_grid : (r : ℕ) → r < length l.owners → RectHolds l.rects r x y → grid_holds l (at l.owners r) x y ≡ true
  unfolding grid_holds
  rect_grid r m h =
      some_by (own_holds l.rects l.owners (at l.owners r) x y) (length l.owners) r m
      (both (eq-eqb (at l.owners r) (at l.owners r) refl) (rect_holds_true l.rects r x y h))

  pub grid_rect : (g : ℕ) → grid_holds l g x y ≡ true → (r : ℕ) × (r < length l.owners) × (at l.owners r ≡ g) × RectHolds l.rects r x y
  unfolding grid_holds
  grid_rect g e =
      let s = by_some (own_holds l.rects l.owners g x y) (length l.owners) e in
      let r = s.0 in
      (r, s.1, eqb-true (at l.owners r) g (and_left (eqb (at l.owners r) g) (rect_holds l.rects r x y) s.2), true_rect_holds l.rects r x y (and_right (eqb (at l.owners r) g) (rect_holds l.rects r x y) s.2))

-- the points that no rectangle of a blocker holds, for a grid or for none
module _ (l : Rectangles) (sound : SoundRects l) (k x y : ℕ) where
  free_of : unblocked l k x y ≡ true → (j : ℕ) → blocks (at l.ranks) j k ≡ true → grid_holds l j x y ≡ true → ⊥
  unfolding unblocked
  free_of f j b h =
      let r = grid_rect l x y j h in
      let s = some_by (block_holds l k x y) (length l.owners) r.0 r.1 (both (ap (λ (i : ℕ). blocks (at l.ranks) i k) r.2 ∙ b) (rect_holds_true l.rects r.0 x y r.3)) in
      true_false f (rw s refl)

  of_free : ((j : ℕ) → j < length l.ranks → blocks (at l.ranks) j k ≡ true → grid_holds l j x y ≡ true → ⊥) → unblocked l k x y ≡ true
  unfolding unblocked
  of_free h =
      rw (untrue (some (block_holds l k x y) (length l.owners))
      (λ e.
      let s = by_some (block_holds l k x y) (length l.owners) e in
      let b = blocks (at l.ranks) (at l.owners s.0) k in
      h (at l.owners s.0) (sound.owned s.0 s.1) (and_left b (rect_holds l.rects s.0 x y) s.2)
      (rect_grid l x y s.0 s.1 (true_rect_holds l.rects s.0 x y (and_right b (rect_holds l.rects s.0 x y) s.2)))))
      refl

module _ (l : Rectangles) (sound : SoundRects l) (g x y : ℕ) where
  -- g is chosen just where it holds the point and no blocker of it does
  free_chosen : g < length l.ranks → (grid_holds l g x y && unblocked l (suc g) x y) ≡ true → chosen_at l x y ≡ suc g
  unfolding chosen_at
  free_chosen m e =
      unblocked_chosen (λ i. grid_holds l i x y) (at l.ranks) (length l.ranks) (sound.apart x y) g
      (record {
        among = m;
        inside = and_left (grid_holds l g x y) (unblocked l (suc g) x y) e;
        alone = λ j k b h. free_of l sound (suc g) x y (and_right (grid_holds l g x y) (unblocked l (suc g) x y) e) j b h;
      })

  chosen_free : chosen_at l x y ≡ suc g → (grid_holds l g x y && unblocked l (suc g) x y) ≡ true
  unfolding chosen_at
  chosen_free e =
      let u = chosen_unblocked (λ i. grid_holds l i x y) (at l.ranks) (length l.ranks) g e in
      both u.inside (of_free l sound (suc g) x y (λ j m b h. u.alone j m b h))

-- the search for no grid: none is chosen just where no rectangle holds the point, since every one blocks that choice
pub hole_chosen : (l : Rectangles) → SoundRects l → (a : Bounds) → {s : Option Spot} → s ≡ first_unblocked l a 0 → s ≡ first_chosen l a 0
unfolding chosen_at
hole_chosen l sound a q =
    q ∙ first_same (unblocked l 0) (λ x y. eqb (chosen_at l x y) 0) a.west a.east a.south a.north
    (λ x y i j u v e.
    eq-eqb (chosen_at l x y) 0
    (none_chosen (λ g. grid_holds l g x y) (at l.ranks) (length l.ranks) (λ g m h. free_of l sound 0 x y e g (any_blocks (at l.ranks) g) h)))
    (λ x y i j u v e.
    of_free l sound 0 x y
    (λ g m b h. chosen_none (λ g. grid_holds l g x y) (at l.ranks) (length l.ranks) (eqb-true (chosen_at l x y) 0 e) g m h))

-- some rectangle of g that the numbers name holds the point just where g does
named_holds : (l : Rectangles) (numbers : List ℕ) → Each (length l.owners) numbers → (g x y : ℕ)
    → some (λ i. own_holds l.rects l.owners g x y (at numbers i)) (length l.owners) ≡ grid_holds l g x y
unfolding grid_holds
named_holds l numbers o g x y =
    let n = length l.owners in
    let own : ℕ → Bool = own_holds l.rects l.owners g x y in
    same_test (some (λ i. own (at numbers i)) n) (some own n)
    (λ e. let s = by_some (λ i. own (at numbers i)) n e in some_by own n (at numbers s.0) (o.below s.0 s.1) s.2)
    (λ e.
    let s = by_some own n e in
    let k = o.each s.0 s.1 in
    some_by (λ i. own (at numbers i)) n k.0 k.1 (ap own k.2 ∙ s.2))

-- the search for g
pub spot_chosen : (l : Rectangles) → SoundRects l → (a : Bounds) (g : ℕ) → g < length l.ranks → (numbers : List ℕ) → Each (length l.owners) numbers
    → {s : Option Spot} → s ≡ first_of l a g numbers (length l.owners) → s ≡ first_chosen l a (g + 1)
spot_chosen l sound a g m numbers o q =
    q ∙ first_same (λ x y. some (λ i. own_holds l.rects l.owners g x y (at numbers i)) (length l.owners) && unblocked l (suc g) x y) (λ x y. eqb (chosen_at l x y) (g + 1))
    a.west a.east a.south a.north
    (λ x y i j u v e. eq-eqb (chosen_at l x y) (g + 1) (free_chosen l sound g x y m (sym (same x y) ∙ e) ∙ sym (add-one g)))
    (λ x y i j u v e. same x y ∙ chosen_free l sound g x y (eqb-true (chosen_at l x y) (g + 1) e ∙ add-one g))
  where
    same : (x y : ℕ) → (some (λ i. own_holds l.rects l.owners g x y (at numbers i)) (length l.owners) && unblocked l (suc g) x y)
        ≡ (grid_holds l g x y && unblocked l (suc g) x y)
    same x y = ap (λ (b : Bool). b && unblocked l (suc g) x y) (named_holds l numbers o g x y)

-- one number more: some of them pass
module _ (p : ℕ → Bool) (n : ℕ) where
  some_more : (p n || some p n) ≡ true → some p (n + 1) ≡ true
  some_more e =
      ⊎_elim (λ h. some_by p (n + 1) n (omega arith) h) (λ h. let s = by_some p n h in some_by p (n + 1) s.0 (omega (arith, s.1)) s.2)
      (or_cases (p n) (some p n) e)

  more_some : some p (n + 1) ≡ true → (p n || some p n) ≡ true
  more_some e =
      let s = by_some p (n + 1) e in
      elim (dec_lt s.0 n) [
        | yes lt ↦ or_right (p n) (some_by p n s.0 lt s.2)
        | no ge ↦ or_left (some p n) (subst (λ (k : ℕ). p k ≡ true) (omega (arith, s.1)) s.2)
      ]

-- one number more, and its rectangle
module _ (l : Rectangles) (a : Bounds) (g : ℕ) (numbers : List ℕ) where
  abbrev named : ℕ → ℕ → ℕ → Bool
  named x y i = own_holds l.rects l.owners g x y (at numbers i)

  pub first_of_none : None ≡ first_of l a g numbers 0
  first_of_none =
      sym (first_none (λ x y. some (named x y) 0 && unblocked l (suc g) x y) a.west a.east a.south a.north
      (λ i j b c d e. untrue (some (named i j) 0 && unblocked l (suc g) i j)
      (λ t. let s = by_some (named i j) 0 (and_left (some (named i j) 0) (unblocked l (suc g) i j) t) in absurd (omega (arith, s.1)))))

  pub first_of_more : (n : ℕ) (s r : Option Spot) → s ≡ first_of l a g numbers n → r ≡ earlier (first_of_rect l a g (at numbers n)) s → r ≡ first_of l a g numbers (n + 1)
  first_of_more n s r e h =
      h ∙ rw e
      (sym (first_either (λ x y. named x y n && unblocked l (suc g) x y) (λ x y. some (named x y) n && unblocked l (suc g) x y) a.west a.east a.south a.north)
      ∙ first_same (λ x y. (named x y n && unblocked l (suc g) x y) || (some (named x y) n && unblocked l (suc g) x y)) (λ x y. some (named x y) (n + 1) && unblocked l (suc g) x y)
      a.west a.east a.south a.north
      (λ x y i j k m q.
      let u = and-or_distrib_right (named x y n) (some (named x y) n) (unblocked l (suc g) x y) ∙ q in
      both (some_more (named x y) n (and_left (named x y n || some (named x y) n) (unblocked l (suc g) x y) u)) (and_right (named x y n || some (named x y) n) (unblocked l (suc g) x y) u))
      (λ x y i j k m q. sym (and-or_distrib_right (named x y n) (some (named x y) n) (unblocked l (suc g) x y))
      ∙ both (more_some (named x y) n (and_left (some (named x y) (n + 1)) (unblocked l (suc g) x y) q)) (and_right (some (named x y) (n + 1)) (unblocked l (suc g) x y) q)))

-- a rectangle's part of the area
module _ (l : Rectangles) (a : Bounds) (g : ℕ) where
  abbrev own : ℕ → ℕ → ℕ → Bool
  own x y r = own_holds l.rects l.owners g x y r

  pub rect_other : (r : ℕ) → (at l.owners r ≡ g → ⊥) → None ≡ first_of_rect l a g r
  rect_other r h =
      sym (first_none (λ x y. own x y r && unblocked l (suc g) x y) a.west a.east a.south a.north (λ i j b c d e. rw (ne_eqb (at l.owners r) g h) refl))

  pub rect_own : (r : ℕ) → at l.owners r ≡ g → (p : Bounds) → p ≡ part_of l.rects r a → {t : Option Spot} → t ≡ first_unblocked l p (suc g)
      → t ≡ first_of_rect l a g r
  rect_own r o p d e =
      let pw : p.west ≡ max a.west (west_of l.rects r) = ap (λ (z : Bounds). z.west) d in
      let pe : p.east ≡ min a.east (east_of l.rects r) = ap (λ (z : Bounds). z.east) d in
      let ps : p.south ≡ max a.south (south_of l.rects r) = ap (λ (z : Bounds). z.south) d in
      let pn : p.north ≡ min a.north (north_of l.rects r) = ap (λ (z : Bounds). z.north) d in
      e ∙ narrow (λ x y. own x y r && unblocked l (suc g) x y) (unblocked l (suc g)) a.west a.east a.south a.north p.west p.east p.south p.north
      (omega arith) (omega arith) (omega arith) (omega arith)
      (λ i j h k m f t.
      let u = and_left (own i j r) (unblocked l (suc g) i j) t in
      let v = true_rect_holds l.rects r i j (and_right (eqb (at l.owners r) g) (rect_holds l.rects r i j) u) in
      let w : p.west ≤ i = omega (arith, v.west≤) in
      let x : i ≤ p.east = omega (arith, v.≤east) in
      let y : p.south ≤ j = omega (arith, v.south≤) in
      let z : j ≤ p.north = omega (arith, v.≤north) in
      (w, x, y, z, and_right (own i j r) (unblocked l (suc g) i j) t))
      (λ i j h k m f t.
      both
      (both (eq-eqb (at l.owners r) g o) (rect_holds_true l.rects r i j (record { west≤ = omega arith; ≤east = omega arith; south≤ = omega arith; ≤north = omega arith })))
      t)

  -- the earlier of a point found, if any, and of a rectangle's first
  pub next_other : (r : ℕ) → (at l.owners r ≡ g → ⊥) → (s : Option Spot) → s ≡ earlier (first_of_rect l a g r) s
  next_other r h s = ap (λ (t : Option Spot). earlier t s) (rect_other r h)

  pub next_own : (r : ℕ) (s t : Option Spot) (b : Bounds) → b ≡ up_to a s → t ≡ first_of_rect l b g r → {v : Option Spot} → v ≡ earlier t s → v ≡ earlier (first_of_rect l a g r) s
  next_own r None t b d e h = h ∙ rw (e, d) refl
  next_own r (Some s) t b d e h =
      h ∙ rw (e, d) (first_up_to (λ i j. own i j r && unblocked l (suc g) i j) a.west a.east a.south a.north s.x s.y)
