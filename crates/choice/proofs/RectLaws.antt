-- What a rectangle holds, by the four orders.
use mathlib.Core.Path.{◌≡◌}
use mathlib.Core.Bool.{true, ◌&&◌}
use mathlib.Core.List.{List}
use Prim.Native.Nat.{ℕ, ◌≤◌}
use borrow.Author.Tests.{leb-true, le-leb}
use lib.Dec.{leb}
use Rattle.numbers.proofs.Bools.{and_left, and_right, both}
use Rattle.choice.specs.Rect.{west_of, east_of, south_of, north_of, rect_holds}

pub record RectHolds (rs : List ℕ) (i x y : ℕ) : Type 0 where
  pub west≤ : west_of rs i ≤ x
  pub ≤east : x ≤ east_of rs i
  pub south≤ : south_of rs i ≤ y
  pub ≤north : y ≤ north_of rs i

pub rect_holds_true : (rs : List ℕ) (i x y : ℕ) → RectHolds rs i x y → rect_holds rs i x y ≡ true
unfolding rect_holds
rect_holds_true rs i x y h =
    both (le-leb _ _ h.west≤) (both (le-leb _ _ h.≤east) (both (le-leb _ _ h.south≤) (le-leb _ _ h.≤north)))

pub true_rect_holds : (rs : List ℕ) (i x y : ℕ) → rect_holds rs i x y ≡ true → RectHolds rs i x y
unfolding rect_holds
true_rect_holds rs i x y e =
    let lats = leb (south_of rs i) y && leb y (north_of rs i) in
    let a = and_right (leb (west_of rs i) x) (leb x (east_of rs i) && lats) e in
    let b = and_right (leb x (east_of rs i)) lats a in
    record {
      west≤ = leb-true _ _ (and_left (leb (west_of rs i) x) (leb x (east_of rs i) && lats) e);
      ≤east = leb-true _ _ (and_left (leb x (east_of rs i)) lats a);
      south≤ = leb-true _ _ (and_left (leb (south_of rs i) y) (leb y (north_of rs i)) b);
      ≤north = leb-true _ _ (and_right (leb (south_of rs i) y) (leb y (north_of rs i)) b);
    }
