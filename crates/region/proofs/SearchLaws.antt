-- The laws of the search: it finds nothing exactly where the test holds nowhere inside, and else the one point that `IsFirst` describes.
use mathlib.Core.Path.{◌≡◌, refl, sym, ◌∙◌, subst}
use mathlib.Core.Bool.{Bool, true, false, cond, ◌&&◌, ◌||◌}
use mathlib.Core.Logic.{◌⊎◌, inl, inr, ⊎_elim}
use Prim.Native.Nat.{ℕ, zero, suc, ◌+◌, ◌-◌, ◌≤◌, ◌<◌, min}
use native.Mathlib.Omega.{arith}
use native.Mathlib.Decide.{dec_lt}
use lib.Dec.{leb, ltb, eqb}
use borrow.Author.Tests.{ltb-true, ltb-false, leb-true, leb-false, eqb-true, eqb-false, le-ltb, ne_eqb}
use Rattle.numbers.proofs.Bools.{or_left, or_right, or_none, untrue}
use Rattle.std.specs.Prelude.{Some, None}
use Rattle.region.specs.First.{spot_at, first_in_row, first_in_rows, first_in, IsFirst}
use Rattle.region.specs.Earlier.{earlierb, earlier}
use Rattle.region.specs.declared.Spot.{Spot}

module _ (p : ℕ → ℕ → Bool) (y : ℕ) where
  row_none : (n x : ℕ) → ((k : ℕ) → x ≤ k → k < x + n → p k y ≡ false) → first_in_row p y x n ≡ None
  unfolding first_in_row
  row_none zero x h = refl
  row_none (suc n) x h = rw (h x (omega arith) (omega arith)) (row_none n (suc x) (λ k a b. h k (omega arith) (omega arith)))

  row_at : (n x k : ℕ) → x ≤ k → k < x + n → ((i : ℕ) → x ≤ i → i < k → p i y ≡ false) → p k y ≡ true → first_in_row p y x n ≡ Some (spot_at k y)
  unfolding first_in_row
  row_at zero x k a b h t = absurd (omega arith)
  row_at (suc n) x k a b h t =
      elim (dec_lt x k) [
        | yes lt ↦ rw (h x (omega arith) lt) (row_at n (suc x) k lt (omega arith) (λ i c d. h i (omega arith) d) t)
        | no ge ↦
            let e : x ≡ k = omega arith in
            rw (e, t) refl
      ]

-- Of n numbers from x on each is bad or good: all are bad, or there is a first good one.
module _ (N Q : ℕ → Type 0) where
  from_next : (x : ℕ) {k : ℕ} → N x → (suc x ≤ k → N k) → x ≤ k → N k
  from_next x {k} h r a = elim (dec_lt x k) [ yes lt ↦ r lt | no ge ↦ subst N (omega arith) h ]

  abbrev Bad : ℕ → ℕ → Type 0
  Bad n x = (k : ℕ) → x ≤ k → k < x + n → N k

  abbrev Good : ℕ → ℕ → Type 0
  Good n x = (k : ℕ) × (x ≤ k) × (k < x + n) × ((i : ℕ) → x ≤ i → i < k → N i) × Q k

  first_cases : ((k : ℕ) → N k ⊎ Q k) → (n x : ℕ) → Bad n x ⊎ Good n x
  first_cases d zero x = inl (λ k a b. absurd (omega arith))
  first_cases d (suc n) x =
      ⊎_elim
      (λ b. ⊎_elim
      (λ r. inl (λ k l m. from_next x b (λ s. r k s (omega arith)) l))
      (λ r. inr (r.0, omega (arith, r.1), omega (arith, r.2), (λ i l m. from_next x b (λ s. r.3 i s m) l), r.4))
      (first_cases d n (suc x)))
      (λ q. inr (x, omega arith, omega arith, (λ i l m. absurd (omega arith)), q))
      (d x)

test_cases : (b : Bool) → (b ≡ false) ⊎ (b ≡ true)
test_cases true = inr refl
test_cases false = inl refl

module _ (p : ℕ → ℕ → Bool) (x wide : ℕ) where
  rows_none : (n y : ℕ) → ((i j : ℕ) → x ≤ i → i < x + wide → y ≤ j → j < y + n → p i j ≡ false) → first_in_rows p x wide y n ≡ None
  unfolding first_in_rows
  rows_none zero y h = refl
  rows_none (suc n) y h =
      rw (row_none p y wide x (λ k a b. h k y a b (omega arith) (omega arith)))
      (rows_none n (suc y) (λ i j a b c d. h i j a b (omega arith) (omega arith)))

  rows_at : (n y i j : ℕ) → x ≤ i → i < x + wide → y ≤ j → j < y + n → ((k l : ℕ) → x ≤ k → k < x + wide → y ≤ l → l < j → p k l ≡ false)
      → ((k : ℕ) → x ≤ k → k < i → p k j ≡ false) → p i j ≡ true → first_in_rows p x wide y n ≡ Some (spot_at i j)
  unfolding first_in_rows
  rows_at zero y i j a b c d f g t = absurd (omega arith)
  rows_at (suc n) y i j a b c d f g t =
      elim (dec_lt y j) [
        | yes lt ↦
            rw (row_none p y wide x (λ k l m. f k y l m (omega arith) lt))
            (rows_at n (suc y) i j a b lt (omega arith) (λ k l m o q r. f k l m o (omega arith) r) g t)
        | no ge ↦
            let e : y ≡ j = omega arith in
            rw (e, row_at p j wide x i a b g t) refl
      ]

-- The laws of `first_in`. It is None exactly where p holds nowhere inside, and else Some of the one point that `IsFirst` describes.
module _ (p : ℕ → ℕ → Bool) (west east south north : ℕ) where
  abbrev NoneIn : Type 0
  NoneIn = (i j : ℕ) → west ≤ i → i ≤ east → south ≤ j → j ≤ north → p i j ≡ false

  pub first_none : NoneIn → first_in p west east south north ≡ None
  unfolding first_in
  first_none h =
      rows_none p west (east + 1 - west) (north + 1 - south) south (λ i j a b c d. h i j a (omega arith) c (omega arith))

  pub first_at : {x y : ℕ} → IsFirst p west east south north x y → first_in p west east south north ≡ Some (spot_at x y)
  unfolding first_in
  first_at {x} {y} h =
      rows_at p west (east + 1 - west) (north + 1 - south) south x y h.west≤ (omega arith) h.south≤ (omega arith)
      (λ k l a b c d. h.below k l a (omega arith) c d) h.left h.here

  is_cases : NoneIn ⊎ ((x : ℕ) × (y : ℕ) × IsFirst p west east south north x y)
  is_cases =
      ⊎_elim
      (λ n. inl (λ i j a b c d. n j c (omega arith) i a (omega arith)))
      (λ q. let g = q.4 in inr (g.0, q.0, record { west≤ = g.1; ≤east = omega (arith, g.2); south≤ = q.1; ≤north = omega (arith, q.2); here = g.4; below = λ i j a b c d. q.3 j c d i a (omega arith); left = g.3 }))
      (first_cases
      (λ j. Bad (λ i. p i j ≡ false) (λ i. p i j ≡ true) (east + 1 - west) west)
      (λ j. Good (λ i. p i j ≡ false) (λ i. p i j ≡ true) (east + 1 - west) west)
      (λ j. first_cases (λ i. p i j ≡ false) (λ i. p i j ≡ true) (λ i. test_cases (p i j)) (east + 1 - west) west)
      (north + 1 - south) south)

  -- the converses
  pub at_first : (s : Spot) → first_in p west east south north ≡ Some s → IsFirst p west east south north s.x s.y
  at_first s e =
      ⊎_elim
      (λ n. let h = first_none n in let z : ◌≡◌ {A = ℕ} 0 1 = cc in absurd (omega arith))
      (λ q. let h = first_at q.2 in let f : spot_at q.0 q.1 ≡ s = cc in subst (λ (t : Spot). IsFirst p west east south north t.x t.y) f q.2)
      is_cases

  pub none_first : first_in p west east south north ≡ None → NoneIn
  none_first e =
      ⊎_elim (λ n. n) (λ q. let h = first_at q.2 in let z : ◌≡◌ {A = ℕ} 0 1 = cc in absurd (omega arith)) is_cases

-- A search in a part of the area, where p holds only in that part, and there just where q does.
module _ (p q : ℕ → ℕ → Bool) (west east south north w e s n : ℕ) where
  pub narrow : west ≤ w → e ≤ east → south ≤ s → n ≤ north
      → ((i j : ℕ) → west ≤ i → i ≤ east → south ≤ j → j ≤ north → p i j ≡ true → (w ≤ i) × (i ≤ e) × (s ≤ j) × (j ≤ n) × (q i j ≡ true))
      → ((i j : ℕ) → w ≤ i → i ≤ e → s ≤ j → j ≤ n → q i j ≡ true → p i j ≡ true)
      → first_in q w e s n ≡ first_in p west east south north
  narrow a b c d f g =
      ⊎_elim
      (λ o. first_none q w e s n o ∙ sym (first_none p west east south north (λ i j h k l m. lacks i j h k l m (λ u v x y. o i j u v x y))))
      (λ o. let r = o.2 in
      first_at q w e s n r
      ∙ sym (first_at p west east south north
      (record {
        west≤ = omega (arith, r.west≤);
        ≤east = omega (arith, r.≤east);
        south≤ = omega (arith, r.south≤);
        ≤north = omega (arith, r.≤north);
        here = g o.0 o.1 r.west≤ r.≤east r.south≤ r.≤north r.here;
        below = λ i j h k l m. lacks i j h k l (omega (arith, r.≤north)) (λ u v x y. r.below i j u v x m);
        left = λ i h k. lacks i o.1 h (omega (arith, r.≤east)) (omega (arith, r.south≤)) (omega (arith, r.≤north)) (λ u v x y. r.left i u k);
      })))
      (is_cases q w e s n)
    where
      lacks : (i j : ℕ) → west ≤ i → i ≤ east → south ≤ j → j ≤ north → (w ≤ i → i ≤ e → s ≤ j → j ≤ n → q i j ≡ false) → p i j ≡ false
      lacks i j h k l m o =
          untrue (p i j)
          (λ t. let u = f i j h k l m t in let v = u.4 in let x = o u.0 u.1 u.2 u.3 in let z : ◌≡◌ {A = ℕ} 0 1 = cc in omega arith)

-- The same search for two tests that hold at the same points inside.
pub first_same : (p q : ℕ → ℕ → Bool) (west east south north : ℕ)
    → ((x y : ℕ) → west ≤ x → x ≤ east → south ≤ y → y ≤ north → p x y ≡ true → q x y ≡ true)
    → ((x y : ℕ) → west ≤ x → x ≤ east → south ≤ y → y ≤ north → q x y ≡ true → p x y ≡ true)
    → first_in p west east south north ≡ first_in q west east south north
first_same p q west east south north f g =
    narrow q p west east south north west east south north (omega arith) (omega arith) (omega arith) (omega arith)
    (λ i j a b c d t. (a, b, c, d, g i j a b c d t)) f

earlier_yes : (x y u v : ℕ) → earlierb x y u v ≡ true → (y < v) ⊎ ((y ≡ v) × (x ≤ u))
earlier_yes x y u v e = go (ltb y v) (eqb y v) refl refl e
  where
    go : (a b : Bool) → ltb y v ≡ a → eqb y v ≡ b → (a || (b && leb x u)) ≡ true → (y < v) ⊎ ((y ≡ v) × (x ≤ u))
    go true b p q r = inl (ltb-true y v p)
    go false true p q r = inr (eqb-true y v q, leb-true x u r)
    go false false p q r = let z : ◌≡◌ {A = ℕ} 0 1 = cc in absurd (omega arith)

earlier_no : (x y u v : ℕ) → earlierb x y u v ≡ false → (v < y) ⊎ ((v ≡ y) × (u ≤ x))
earlier_no x y u v e = go (ltb y v) (eqb y v) refl refl e
  where
    go : (a b : Bool) → ltb y v ≡ a → eqb y v ≡ b → (a || (b && leb x u)) ≡ false → (v < y) ⊎ ((v ≡ y) × (u ≤ x))
    go true b p q r = let z : ◌≡◌ {A = ℕ} 0 1 = cc in absurd (omega arith)
    go false true p q r = inr (sym (eqb-true y v q), omega (arith, leb-false x u r))
    go false false p q r = let n = eqb-false y v q in inl (omega (arith, ltb-false y v p))

-- The first point of h, which holds where p or q does: p's, where q has none before it.
module _ (p q h : ℕ → ℕ → Bool) (west east south north : ℕ) (yes-p : (i j : ℕ) → p i j ≡ true → h i j ≡ true) (neither : (i j : ℕ) → p i j ≡ false → q i j ≡ false → h i j ≡ false) where
  either_at : (x y u v : ℕ) → IsFirst p west east south north x y → IsFirst q west east south north u v → (y < v) ⊎ ((y ≡ v) × (x ≤ u))
      → first_in h west east south north ≡ Some (spot_at x y)
  either_at x y u v f g o =
      first_at h west east south north
      (record {
        west≤ = f.west≤;
        ≤east = f.≤east;
        south≤ = f.south≤;
        ≤north = f.≤north;
        here = yes-p x y f.here;
        below = λ i j a b c d. neither i j (f.below i j a b c d) (g.below i j a b c (⊎_elim (λ l. omega arith) (λ r. omega (arith, r.0)) o));
        left = λ i a b.
            neither i y (f.left i a b)
            (⊎_elim
            (λ l. g.below i y a (omega (arith, f.≤east)) f.south≤ l)
            (λ r. subst (λ (n : ℕ). q i n ≡ false) (sym r.0) (g.left i a (omega (arith, r.1))))
            o);
      })

  either_one : (x y : ℕ) → IsFirst p west east south north x y → NoneIn q west east south north → first_in h west east south north ≡ Some (spot_at x y)
  either_one x y f n =
      first_at h west east south north
      (record {
        west≤ = f.west≤;
        ≤east = f.≤east;
        south≤ = f.south≤;
        ≤north = f.≤north;
        here = yes-p x y f.here;
        below = λ i j a b c d. neither i j (f.below i j a b c d) (n i j a b c (omega (arith, f.≤north)));
        left = λ i a b. neither i y (f.left i a b) (n i y a (omega (arith, f.≤east)) f.south≤ f.≤north);
      })

-- The first point at which one of two tests holds (a grid of several rectangles).
module _ (p q : ℕ → ℕ → Bool) (west east south north : ℕ) where
  pub first_either : first_in (λ i j. p i j || q i j) west east south north ≡ earlier (first_in p west east south north) (first_in q west east south north)
  first_either =
      ⊎_elim
      (λ n. ⊎_elim
      (λ m. rw (first_none p west east south north n, first_none q west east south north m)
      (first_none (λ i j. p i j || q i j) west east south north (λ i j a b c d. or_none (n i j a b c d) (m i j a b c d))))
      (λ g. rw (first_none p west east south north n, first_at q west east south north g.2)
      (either_one q p (λ i j. p i j || q i j) west east south north (λ i j e. or_right (p i j) e) (λ i j e f. or_none f e) g.0 g.1 g.2 n))
      (is_cases q west east south north))
      (λ f. ⊎_elim
      (λ m. rw (first_at p west east south north f.2, first_none q west east south north m)
      (either_one p q (λ i j. p i j || q i j) west east south north (λ i j e. or_left (q i j) e) (λ i j e g. or_none e g) f.0 f.1 f.2 m))
      (λ g. rw (first_at p west east south north f.2, first_at q west east south north g.2)
      (go f.0 f.1 g.0 g.1 f.2 g.2 (earlierb f.0 f.1 g.0 g.1) refl))
      (is_cases q west east south north))
      (is_cases p west east south north)
    where
      go : (x y u v : ℕ) → IsFirst p west east south north x y → IsFirst q west east south north u v → (b : Bool) → earlierb x y u v ≡ b
          → first_in (λ i j. p i j || q i j) west east south north ≡ cond b (Some (spot_at x y)) (Some (spot_at u v))
      go x y u v f g true e = either_at p q (λ i j. p i j || q i j) west east south north (λ i j k. or_left (q i j) k) (λ i j k l. or_none k l) x y u v f g (earlier_yes x y u v e)
      go x y u v f g false e = either_at q p (λ i j. p i j || q i j) west east south north (λ i j k. or_right (p i j) k) (λ i j k l. or_none l k) u v x y g f (earlier_no x y u v e)

no_earlier : (x y u v : ℕ) → v < y → earlierb x y u v ≡ false
no_earlier x y u v l = rw (le-ltb y v (omega arith), ne_eqb y v (omega arith)) refl

-- A point found is the earlier one of all farther north: the search can end at its row.
pub first_up_to : (p : ℕ → ℕ → Bool) (west east south north x y : ℕ)
    → earlier (first_in p west east south (min north y)) (Some (spot_at x y)) ≡ earlier (first_in p west east south north) (Some (spot_at x y))
first_up_to p west east south north x y =
    ⊎_elim
    (λ n. rw (first_none p west east south north n, first_none p west east south (min north y) (λ i j a b c d. n i j a b c (omega arith))) refl)
    (λ f. let r = f.2 in
    elim (dec_lt y f.1) [
      | yes lt ↦
          rw (first_none p west east south (min north y) (λ i j a b c d. r.below i j a b c (omega arith)), first_at p west east south north r, no_earlier f.0 f.1 x y lt) refl
      | no ge ↦
          rw (
            first_at p west east south north r,
            first_at p west east south (min north y)
                (record { west≤ = r.west≤; ≤east = r.≤east; south≤ = r.south≤; ≤north = omega (arith, r.≤north); here = r.here; below = r.below; left = r.left }),
          ) refl
    ])
    (is_cases p west east south north)
