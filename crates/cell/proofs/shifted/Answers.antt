-- `shifted` meets its contract.
use Prim.Native.Nat.{◌≤◌}
use mathlib.Core.Logic.{⊎_elim}
use mathlib.Core.Path.{◌≡◌, sym, subst}
use native.Mathlib.Omega.{arith}
use lib.IntN.{ℤ, pos, ◌+ℤ◌, nat_abs}
use mir.Syntax.{w32}
use mir.Val.{SFits}
use Rattle.numbers.proofs.Diff.{diff_of, mag_up, nat_abs_diff, up_or_dn}
use Rattle.cell.specs.Unsigned.{corner_shift}
use Rattle.cell.proofs.WideLaws.{wide_fits, wide_same}
use Rattle.cell.proofs.shifted.Goals as goal

small : (v : ℤ) → SFits w32 v → nat_abs v ≤ corner_shift
small v h =
    let m = mag_up v h.sfits in let n = nat_abs_diff v in
    ⊎_elim (λ e. omega arith) (λ e. omega arith) (up_or_dn v)

pub overflow_cast-v : goal.overflow_cast-v
overflow_cast-v c = wide_fits c.args.v c.ranges.v

pub lifted-requires : goal.lifted-requires
lifted-requires c = (subst (λ (z : ℤ). nat_abs z ≤ corner_shift) (sym (wide_same c.args.v c.ranges.v)) (small c.args.v c.ranges.v), omega arith)

pub overflow_cast-result : goal.overflow_cast-result
overflow_cast-result c =
    let told : c.args.v +ℤ pos corner_shift ≡ pos c.lifted.result = subst (λ (z : ℤ). z +ℤ pos corner_shift ≡ pos c.lifted.result) (wide_same c.args.v c.ranges.v) c.lifted.ensures in
    let v = c.args.v in
    let d = (diff_of v c.lifted.result corner_shift (told)).diff in
    let m = mag_up v c.ranges.v.sfits in
    omega arith

pub returns : goal.returns
returns c =
    let told : c.args.v +ℤ pos corner_shift ≡ pos c.lifted.result = subst (λ (z : ℤ). z +ℤ pos corner_shift ≡ pos c.lifted.result) (wide_same c.args.v c.ranges.v) c.lifted.ensures in
    told
