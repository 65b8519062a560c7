-- A rectangle holds a point round the circle where it holds the point by one of the turns, and the first of these is used.
use Prim.Native.Nat.{ℕ, ◌+◌, ◌-◌, ◌<◌}
use mathlib.Core.Path.{◌≡◌, refl, sym, ap, ◌∙◌}
use mathlib.Core.Bool.{Bool, true, false, ◌||◌}
use mathlib.Core.List.{List}
use native.Mathlib.Omega.{arith}
use borrow.Author.Count.{below_more, below_none}
use Rattle.numbers.specs.First.{first}
use Rattle.numbers.specs.Circle.{turns, turned_by}
use Rattle.numbers.proofs.FirstLaws.{first_at, first_none, some_by, by_some, some_three}
use Rattle.choice.specs.Rect.{rect_holds, turn_holds, turn_used}

-- the three turns
module _ (turn x : ℕ) where
  turn_here : turned_by turn 0 x ≡ x
  turn_here = omega arith

  turn_east : turned_by turn 1 x ≡ x + turn
  turn_east = omega arith

  turn_west : turned_by turn 2 x ≡ x - turn
  turn_west = omega arith

module _ (turn : ℕ) (rs : List ℕ) (i x y : ℕ) where
  -- from one turn, and to one
  pub turn_holds_by : (k : ℕ) → k < turns → rect_holds rs i (turned_by turn k x) y ≡ true → turn_holds turn rs i x y ≡ true
  unfolding turn_holds
  turn_holds_by k l e = some_by (λ k. rect_holds rs i (turned_by turn k x) y) turns k l e

  pub turn_holds_cases : turn_holds turn rs i x y ≡ true → (k : ℕ) × (k < turns) × (rect_holds rs i (turned_by turn k x) y ≡ true)
  unfolding turn_holds
  turn_holds_cases e = by_some (λ k. rect_holds rs i (turned_by turn k x) y) turns e

  abbrev held : ℕ → Bool
  held k = rect_holds rs i (turned_by turn k x) y

  here : held 0 ≡ rect_holds rs i x y
  here = ap (λ (z : ℕ). rect_holds rs i z y) (turn_here turn x)

  east : held 1 ≡ rect_holds rs i (x + turn) y
  east = ap (λ (z : ℕ). rect_holds rs i z y) (turn_east turn x)

  west : held 2 ≡ rect_holds rs i (x - turn) y
  west = ap (λ (z : ℕ). rect_holds rs i z y) (turn_west turn x)

  -- what the three tests say
  pub turn_holds_tests : {a b c : Bool} → a ≡ rect_holds rs i x y → b ≡ rect_holds rs i (x + turn) y → c ≡ rect_holds rs i (x - turn) y
      → (a || (b || c)) ≡ turn_holds turn rs i x y
  unfolding turn_holds
  turn_holds_tests {a} {b} {c} e f g = rw (e ∙ sym here, f ∙ sym east, g ∙ sym west) (some_three held)

  pub used_here : rect_holds rs i x y ≡ true → x ≡ turn_used turn rs i x y
  unfolding turn_used
  used_here e =
      sym (turn_here turn x)
      ∙ ap (λ (k : ℕ). turned_by turn k x) (sym (first_at held turns 0 (omega arith) (below_none _) (here ∙ e)))

  pub used_east : rect_holds rs i x y ≡ false → rect_holds rs i (x + turn) y ≡ true → x + turn ≡ turn_used turn rs i x y
  unfolding turn_used
  used_east d e =
      sym (turn_east turn x)
      ∙ ap (λ (k : ℕ). turned_by turn k x)
      (sym (first_at held turns 1 (omega arith) (below_more (λ k. held k ≡ false) 0 (below_none _) (here ∙ d)) (east ∙ e)))

  pub used_west : rect_holds rs i x y ≡ false → rect_holds rs i (x + turn) y ≡ false → x - turn ≡ turn_used turn rs i x y
  unfolding turn_used
  used_west d e = sym (turn_west turn x) ∙ last (held 2) refl
    where
      before : (k : ℕ) → k < 2 → held k ≡ false
      before = below_more (λ k. held k ≡ false) 1 (below_more (λ k. held k ≡ false) 0 (below_none _) (here ∙ d)) (east ∙ e)

      last : (b : Bool) → held 2 ≡ b → turned_by turn 2 x ≡ turned_by turn (first held turns) x
      last true t = ap (λ (k : ℕ). turned_by turn k x) (sym (first_at held turns 2 (omega arith) before t))
      last false t = ap (λ (k : ℕ). turned_by turn k x) (sym (first_none held turns (below_more (λ k. held k ≡ false) 2 before t)))
