-- `choice::is_blocker` meets its contract.
use mathlib.Core.Path.{◌≡◌, refl}
use mathlib.Core.Bool.{true}
use Prim.Native.Nat.{ℕ, zero, suc, ◌-◌}
use native.Mathlib.Omega.{arith}
use lib.Dec.{ltb}
use Rattle.choice.specs.Blocks.{blocks}
use Rattle.choice.proofs.is_blocker.Goals as goal

-- none, and a grid
blocks_none : (rank : ℕ → ℕ) (j k : ℕ) → k ≡ 0 → true ≡ blocks rank j k
unfolding blocks
blocks_none rank j k e = rw e refl

blocks_grid : (rank : ℕ → ℕ) (j k : ℕ) → (k ≡ 0 → ⊥) → ltb (rank j) (rank (k - 1)) ≡ blocks rank j k
unfolding blocks
blocks_grid rank j zero e = absurd (e refl)
blocks_grid rank j (suc g) e = let s : suc g - 1 ≡ g = omega arith in rw s refl

pub returns-then-k-eq0 : goal.returns-then-k-eq0
returns-then-k-eq0 c = blocks_none _ _ _ c.if-k-eq0.true

pub returns : goal.returns
returns c = blocks_grid _ _ _ c.if-k-eq0.false
