-- A corner, an i32, as an i64, and shifted.
use Prim.Native.Nat.{ℕ}
use mathlib.Core.Path.{◌≡◌, sym, ◌∙◌, subst}
use native.Mathlib.Omega.{arith}
use lib.IntN.{ℤ, pos, ◌+ℤ◌}
use mir.Syntax.{w32, w64}
use mir.Val.{SFits, to_z, of_z}
use mir.ValLaws.{to_z-of_z}
use Rattle.numbers.proofs.Diff.{Diff, diff_self, diff_of, mag_up}
use Rattle.numbers.proofs.Machine.{diff_fits, passed}
use Rattle.cell.specs.Unsigned.{corner_shift}

wide : (v : ℤ) → SFits w32 v → SFits w64 v
wide v h = let m = mag_up v h.sfits in diff_fits w64 (diff_self v) (omega arith) (omega arith)

pub wide_fits : (v : ℤ) → SFits w32 v → SFits w64 (to_z w32 (of_z w32 v))
wide_fits v h = subst (SFits w64) (sym (to_z-of_z w32 v h)) (wide v h)

-- the number by way of its bits
pub wide_same : (v : ℤ) → SFits w32 v → to_z w64 (of_z w64 (to_z w32 (of_z w32 v))) ≡ v
wide_same v h = to_z-of_z w64 _ (wide_fits v h) ∙ to_z-of_z w32 v h

-- a corner, by what it was shifted to
pub corner_shifted : {v : ℤ} {r : ℕ} → SFits w32 v → to_z w32 (of_z w32 v) +ℤ pos corner_shift ≡ pos r → Diff v r corner_shift
corner_shifted {v} {r} h t = diff_of v r corner_shift (passed w32 h (λ (z : ℤ). z +ℤ pos corner_shift ≡ pos r) t)
