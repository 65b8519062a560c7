-- One turn of the loop over the grids: the ways in which grid i is the better one, or not.
use mathlib.Core.Path.{◌≡◌, refl, ap, ◌∙◌}
use mathlib.Core.Bool.{Bool, true, false}
use Prim.Native.Nat.{ℕ, ◌+◌}
use native.Mathlib.Numerals.{add-one}
use Rattle.choice.specs.Choice.{better_of, chosen}
use Rattle.choice.specs.Blocks.{blocks}

module _ (held : Bool) (rank : ℕ → ℕ) (i c : ℕ) where
  pub grid_out : held ≡ false → c ≡ better_of held rank i c
  unfolding better_of
  grid_out h = rw h refl

  pub grid_taken : held ≡ true → blocks rank i c ≡ true → i + 1 ≡ better_of held rank i c
  unfolding better_of blocks
  grid_taken h e = rw (h, e) (add-one i)

  pub grid_kept : held ≡ true → blocks rank i c ≡ false → c ≡ better_of held rank i c
  unfolding better_of blocks
  grid_kept h e = rw (h, e) refl

pub chosen_more : (held : ℕ → Bool) (rank : ℕ → ℕ) (i c r : ℕ) → c ≡ chosen held rank i → r ≡ better_of (held i) rank i c → r ≡ chosen held rank (i + 1)
unfolding chosen
chosen_more held rank i c r e f = rw add-one (f ∙ ap (λ (c : ℕ). better_of (held i) rank i c) e)
