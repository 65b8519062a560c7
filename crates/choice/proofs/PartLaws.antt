-- The choice over the first n grids of longer lists: it looks at the grids that count and at nothing behind them.
use Prim.Native.Nat.{ℕ, ◌+◌, ◌*◌, ◌≤◌, ◌<◌}
use mathlib.Core.Path.{◌≡◌, refl, ap, ◌∙◌}
use mathlib.Core.List.{List}
use native.Mathlib.Omega.{arith}
use lib.ListN.{length, get_or, take, length-take}
use lib.Seq.{get_or-take}
use Rattle.numbers.specs.Lists.{at}
use Rattle.numbers.specs.Circle.{turns, turned_by}
use Rattle.numbers.proofs.FirstLaws.{some_same}
use Rattle.choice.specs.Rect.{rect_holds, turn_holds, pair_count}
use Rattle.choice.specs.Choice.{chosen}
use Rattle.choice.proofs.ChoiceLaws.{chosen_agree}

module _ (sides ranks : List ℕ) (n x y : ℕ) (s : n * 4 ≤ length sides) (r : n ≤ length ranks) where
  pub part_size : pair_count (take (n * 4) sides) (take n ranks) ≡ n
  part_size = rw (length-take, length-take) (omega arith)

  side : (j : ℕ) → j < n * 4 → get_or (take (n * 4) sides) j 0 ≡ get_or sides j 0
  side j l = get_or-take (n * 4) sides j 0 l

  pub part_holds : (i : ℕ) → i < n → rect_holds (take (n * 4) sides) i x y ≡ rect_holds sides i x y
  unfolding rect_holds
  part_holds i l =
      rw (side (i * 4) (omega arith), side (i * 4 + 1) (omega arith), side (i * 4 + 2) (omega arith), side (i * 4 + 3) (omega arith))
      refl

-- the same round a circle
module _ (sides : List ℕ) (n turn x y : ℕ) (s : n * 4 ≤ length sides) where
  turned : (i k : ℕ) → i < n → rect_holds (take (n * 4) sides) i (turned_by turn k x) y ≡ rect_holds sides i (turned_by turn k x) y
  turned i k l = part_holds sides sides n (turned_by turn k x) y s (omega arith) i l

  pub part_turn_holds : (i : ℕ) → i < n → turn_holds turn (take (n * 4) sides) i x y ≡ turn_holds turn sides i x y
  unfolding turn_holds
  part_turn_holds i l =
      some_same (λ k. rect_holds (take (n * 4) sides) i (turned_by turn k x) y) (λ k. rect_holds sides i (turned_by turn k x) y) turns
      (λ k m. turned i k l)

module _ (sides ranks : List ℕ) (n turn x y : ℕ) (s : n * 4 ≤ length sides) (r : n ≤ length ranks) where
  pub chosen_part : chosen (λ i. turn_holds turn (take (n * 4) sides) i x y) (at (take n ranks)) (pair_count (take (n * 4) sides) (take n ranks))
      ≡ chosen (λ i. turn_holds turn sides i x y) (at ranks) n
  chosen_part =
      ap (chosen (λ i. turn_holds turn (take (n * 4) sides) i x y) (at (take n ranks))) (part_size sides ranks n x y s r)
      ∙ chosen_agree (λ i. turn_holds turn (take (n * 4) sides) i x y) (λ i. turn_holds turn sides i x y) (at (take n ranks)) (at ranks) n
      (part_turn_holds sides n turn x y s)
      (λ i l. get_or-take n ranks i 0 l)
