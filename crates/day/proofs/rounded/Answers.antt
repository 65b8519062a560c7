-- `rounded` meets its contract: an even number of times the divisor is added before the rounding and taken off behind it.
use Prim.Native.Nat.{◌*◌, ◌<◌}
use mathlib.Core.Path.{◌≡◌, ◌∙◌}
use native.Mathlib.Nat.{mul_assoc, le-mul_of_pos_right}
use native.Mathlib.Omega.{arith}
use lib.IntN.{nat_abs}
use mir.Syntax.{w64}
use mir.Val.{to_z, of_z}
use mir.ValLaws.{to_z-of_z}
use Rattle.numbers.specs.Round.{nearest}
use Rattle.numbers.proofs.Nearest.{nearest_le}
use Rattle.numbers.proofs.Diff.{Diff, up_pos, dn_pos, diff_of, <_diff, diff_join, nat_abs_diff}
use Rattle.numbers.proofs.RoundZ.{round_biased}
use Rattle.day.proofs.rounded.Goals as goal
use Rattle.day.proofs.rounded.Goals.{After-lifted-lifted}

module _ (c : After-lifted-lifted) where
  read_d : to_z w64 (of_z w64 c.args.d) ≡ c.args.d
  read_d = to_z-of_z w64 c.args.d c.ranges.d

  told : Diff c.args.n c.lifted-lifted.result (c.args.most * nat_abs c.args.d)
  told = diff_of _ _ _ (rw (to_z-of_z w64 c.args.n c.ranges.n, read_d) at c.lifted-lifted.ensures)

  positive : 0 < nat_abs c.args.d
  positive = let h = <_diff c.requires.0 in omega (arith, nat_abs_diff c.args.d, up_pos 0, dn_pos 0)

pub lowered-requires : goal.lowered-requires
lowered-requires c =
    let b = (goal.at.lowered-requires c).After-lifted-lifted in
    let k = c.args.most in let d = nat_abs c.args.d in let a = c.lifted-lifted.result in
    let t = (told b).diff in let n = nat_abs_diff c.args.n in let h = c.requires.2 in
    let q = nearest_le (2 * k) a d (positive b) (omega (arith, mul_assoc 2 k d)) in
    let e : c.nearest_even.result ≡ nearest a d = rw (read_d b) at c.nearest_even.ensures in
    let m = le-mul_of_pos_right k (positive b) in
    (omega (arith, c.requires.3), omega (arith, c.requires.3))

pub returns : goal.returns
returns c =
    let b = (goal.at.returns c).After-lifted-lifted in let r = c.lowered.result in let q = c.nearest_even.result in
    to_z-of_z w64 r (record { sfits = c.lowered.type_inv })
    ∙ diff_join (diff_of r q c.args.most c.lowered.ensures) (rw (read_d b) at c.nearest_even.ensures)
    (round_biased (nat_abs c.args.d) c.args.most (positive b) c.requires.1 (told b))
