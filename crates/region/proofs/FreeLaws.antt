-- The laws of the points that no rectangle holds, of what a rectangle covers, and of a walk through a row.
use mathlib.Core.Path.{◌≡◌, refl}
use mathlib.Core.Bool.{Bool, true, false, ◌&&◌}
use mathlib.Core.List.{List}
use Prim.Native.Nat.{ℕ, suc, ◌+◌, ◌*◌, ◌≤◌, ◌<◌, min}
use native.Mathlib.Omega.{arith}
use native.Mathlib.Decide.{dec_lt}
use native.Mathlib.Nat.{mul-le-mul_right, suc-mul}
use borrow.Author.Count.{below_more}
use borrow.Author.Tests.{leb-true, le-leb}
use lib.Dec.{leb}
use Rattle.numbers.specs.First.{some}
use Rattle.numbers.proofs.FirstLaws.{some_by, by_some}
use Rattle.numbers.proofs.Bools.{and_left, and_right, both, true_false, untrue}
use Rattle.choice.specs.Rect.{west_of, east_of, south_of, north_of, rect_holds}
use Rattle.choice.proofs.RectLaws.{RectHolds, rect_holds_true, true_rect_holds}
use Rattle.region.specs.Free.{rect_count, free, reaches}

module _ (rs : List ℕ) (x y : ℕ) where
  pub free_is : ((i : ℕ) → i < rect_count rs → rect_holds rs i x y ≡ false) → free rs x y ≡ true
  unfolding free
  free_is h =
      rw (untrue (some (λ i. rect_holds rs i x y) (rect_count rs)) (λ e. let r = by_some (λ i. rect_holds rs i x y) (rect_count rs) e in true_false r.2 (h r.0 r.1))) refl

  pub unfree_by : (i : ℕ) → i < rect_count rs → RectHolds rs i x y → free rs x y ≡ false
  unfolding free
  unfree_by i l h = rw (some_by (λ i. rect_holds rs i x y) (rect_count rs) i l (rect_holds_true rs i x y h)) refl

-- blockers hold all of the rows from y to top, from west up to below x
abbrev pub Shut-to : List ℕ → ℕ → ℕ → ℕ → ℕ → Type 0
Shut-to rs west y x top = (k j : ℕ) → west ≤ k → k < x → y ≤ j → j ≤ top → free rs k j ≡ false

module _ (rs : List ℕ) (i x y : ℕ) where
  -- a rectangle that reaches x in row y holds it unless it begins farther east
  reaching : reaches rs i x y ≡ true → west_of rs i ≤ x → RectHolds rs i x y
  unfolding reaches
  reaching e w =
      let lats = leb (south_of rs i) y && leb y (north_of rs i) in
      let b = and_right (leb x (east_of rs i)) lats e in
      record {
        west≤ = w;
        ≤east = leb-true _ _ (and_left (leb x (east_of rs i)) lats e);
        south≤ = leb-true _ _ (and_left (leb (south_of rs i) y) (leb y (north_of rs i)) b);
        ≤north = leb-true _ _ (and_right (leb (south_of rs i) y) (leb y (north_of rs i)) b);
      }

  unreached : reaches rs i x y ≡ false → rect_holds rs i x y ≡ false
  unfolding reaches
  unreached e =
      untrue (rect_holds rs i x y)
      (λ t. let h = true_rect_holds rs i x y t in true_false (both (le-leb _ _ h.≤east) (both (le-leb _ _ h.south≤) (le-leb _ _ h.≤north))) e)

  -- and so farther east
  unreached_on : (u : ℕ) → x ≤ u → reaches rs i x y ≡ false → reaches rs i u y ≡ false
  unfolding reaches
  unreached_on u l e =
      let lats = leb (south_of rs i) y && leb y (north_of rs i) in
      untrue (reaches rs i u y)
      (λ t. let f : u ≤ east_of rs i = leb-true _ _ (and_left (leb u (east_of rs i)) lats t) in true_false (both (le-leb x (east_of rs i) (omega arith)) (and_right (leb u (east_of rs i)) lats t)) e)

  behind : east_of rs i < x → reaches rs i x y ≡ false
  unfolding reaches
  behind l =
      let lats = leb (south_of rs i) y && leb y (north_of rs i) in
      untrue (reaches rs i x y) (λ t. let f : x ≤ east_of rs i = leb-true _ _ (and_left (leb x (east_of rs i)) lats t) in omega arith)

  -- one blocker more
  pub shut_more : (west top m : ℕ) → i < rect_count rs → reaches rs i x y ≡ true → west_of rs i ≤ x → m ≡ min top (north_of rs i) → y ≤ top
      → Shut-to rs west y x top → (x ≤ east_of rs i) × (y ≤ m) × Shut-to rs west y (east_of rs i + 1) m
  shut_more west top m l e w f o h =
      let b = reaching e w in
      let n = b.≤north in (
        b.≤east,
        omega arith,
        λ k j p q r s.
            elim (dec_lt k x) [
              | yes lt ↦ h k j p lt r (omega arith)
              | no ge ↦ unfree_by rs k j i l (record { west≤ = omega arith; ≤east = omega arith; south≤ = omega (arith, b.south≤); ≤north = omega arith })
            ],
      )

-- none of the first i rectangles holds (x, y), and unless one lies ahead none reaches it
pub record Walked (rs : List ℕ) (x y i : ℕ) (ahead : Bool) : Type 0 where
  pub past : (k : ℕ) → k < i → rect_holds rs k x y ≡ false
  pub clear : ahead ≡ false → (k : ℕ) → k < i → reaches rs k x y ≡ false

pub walked_none : (rs : List ℕ) (x y : ℕ) (ahead : Bool) → Walked rs x y 0 ahead
walked_none rs x y ahead = record { past = λ k l. absurd (omega arith); clear = λ e k l. absurd (omega arith) }

-- one rectangle more
module _ (rs : List ℕ) (x y i : ℕ) (ahead : Bool) (w : Walked rs x y i ahead) where
  pub walked_by : reaches rs i x y ≡ false → Walked rs x y (i + 1) ahead
  walked_by e =
      record {
        past = below_more (λ k. rect_holds rs k x y ≡ false) i w.past (unreached rs i x y e);
        clear = λ f. below_more (λ k. reaches rs k x y ≡ false) i (w.clear f) e;
      }

  pub walked_ahead : x < west_of rs i → Walked rs x y (i + 1) true
  walked_ahead l =
      record {
        past = below_more (λ k. rect_holds rs k x y ≡ false) i w.past (untrue (rect_holds rs i x y) (λ t. let h = (true_rect_holds rs i x y t).west≤ in omega arith));
        clear = λ e. absurd (true_false refl e);
      }

  pub walked_on : ahead ≡ false → x ≤ east_of rs i → Walked rs (east_of rs i + 1) y (i + 1) ahead
  walked_on e l =
      let u = east_of rs i + 1 in
      let c = below_more (λ k. reaches rs k u y ≡ false) i (λ k m. unreached_on rs k x y u (omega arith) (w.clear e k m)) (behind rs i u y (omega arith)) in
      record { past = λ k m. unreached rs k u y (c k m); clear = λ f. c }

-- a walk that moves on to the east may begin anew: what is left to do is less
pub less_left : (d e n i j : ℕ) → d < e → i ≤ n → d * (n + 1) + i < e * (n + 1) + j
less_left d e n i j l m =
    let p : suc d * (n + 1) ≤ e * (n + 1) = mul-le-mul_right (n + 1) l in
    let q : suc d * (n + 1) ≡ d * (n + 1) + (n + 1) = suc-mul d (n + 1) in
    omega arith
