-- The ranks of the other grids that hold a point, by a group's flat lists.
use Prim.Native.Nat.{ℕ, ◌+◌, ◌≤◌, ◌<◌}
use mathlib.Core.Path.{◌≡◌, refl}
use mathlib.Core.Bool.{true, false}
use mathlib.Core.List.{List}
use borrow.Author.Tests.{lt-ltb, le-ltb, eq-eqb, ne_eqb}
use Rattle.numbers.specs.Lists.{at}
use Rattle.group.specs.Numbers.{lon_turn}
use Rattle.choice.specs.Rect.{turn_holds}
use Rattle.explain.specs.Flat.{rank_beside}

module _ (sides ranks : List ℕ) (grids c x y k : ℕ) where
  pub rank_past : grids ≤ k → 0 ≡ rank_beside sides ranks grids c x y k
  unfolding rank_beside
  rank_past h = rw (le-ltb k grids h) refl

  module _ (l : k < grids) where
    pub rank_itself : k + 1 ≡ c → 0 ≡ rank_beside sides ranks grids c x y k
    unfolding rank_beside
    rank_itself e = rw (lt-ltb k grids l, eq-eqb (k + 1) c e) refl

    pub rank_held : (k + 1 ≡ c → ⊥) → turn_holds lon_turn sides k x y ≡ true → at ranks k ≡ rank_beside sides ranks grids c x y k
    unfolding rank_beside
    rank_held n h = rw (lt-ltb k grids l, ne_eqb (k + 1) c n, h) refl

    pub rank_free : (k + 1 ≡ c → ⊥) → turn_holds lon_turn sides k x y ≡ false → 0 ≡ rank_beside sides ranks grids c x y k
    unfolding rank_beside
    rank_free n h = rw (lt-ltb k grids l, ne_eqb (k + 1) c n, h) refl
