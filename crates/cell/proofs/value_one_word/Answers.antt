-- `value_one_word` meets its contract: the blend of the raised corners is the raised value, and the sum fits.
use borrow.Author.Rules.{rules}
use Prim.Native.Nat.{ℕ, ◌*◌, ◌≤◌}
use mathlib.Core.Path.{◌≡◌, refl, sym, ◌∙◌, subst}
use native.Mathlib.Nat.{mul-le-mul_left}
use native.Mathlib.Omega.{arith}
use lib.IntN.{ℤ, pos, ◌+ℤ◌, nat_abs}
use mir.Syntax.{w32, w64}
use mir.Val.{SFits, to_z, of_z}
use mir.ValLaws.{to_z-of_z}
use Rattle.numbers.proofs.Diff.{Diff, diff_of, diff_join, nat_abs_diff}
use Rattle.numbers.proofs.Machine.{passed}
use Rattle.cell.specs.Unsigned.{near_most, blended}
use Rattle.cell.proofs.NearLaws.{NearSizes, near_sizes}
use Rattle.cell.proofs.ValueLaws.{value_shifted, sum_most, blend_most}
use Rattle.cell.proofs.value_one_word.Goals as goal
use Rattle.cell.proofs.value_one_word.Goals.{After-raised_near-4}

-- what a call of `raised_near` is asked, and what it tells
asked : (v : ℤ) → SFits w32 v → nat_abs v ≤ near_most → nat_abs (to_z w32 (of_z w32 v)) ≤ near_most
asked v h s = subst (λ (z : ℤ). nat_abs z ≤ near_most) (sym (to_z-of_z w32 v h)) s

told : {v : ℤ} {r : ℕ} → SFits w32 v → to_z w32 (of_z w32 v) +ℤ pos near_most ≡ pos r → Diff v r near_most
told {v} {r} h t = diff_of v r near_most (passed w32 h (λ (z : ℤ). z +ℤ pos near_most ≡ pos r) t)

raised_most : (v : ℤ) {r : ℕ} → nat_abs v ≤ near_most → Diff v r near_most → r ≤ 2 * near_most
raised_most v s d = let n = nat_abs_diff v in let e = d.diff in omega arith

pub raised_near-requires : goal.raised_near-requires
raised_near-requires c =
    asked c.args.v.v00 (search rules) (near_sizes c.args.v c.requires.2).at00

pub raised_near-requires-2 : goal.raised_near-requires-2
raised_near-requires-2 c =
    asked c.args.v.v10 (search rules) (near_sizes c.args.v c.requires.2).at10

pub raised_near-requires-3 : goal.raised_near-requires-3
raised_near-requires-3 c =
    asked c.args.v.v01 (search rules) (near_sizes c.args.v c.requires.2).at01

pub raised_near-requires-4 : goal.raised_near-requires-4
raised_near-requires-4 c =
    asked c.args.v.v11 (search rules) (near_sizes c.args.v c.requires.2).at11

module _ (c : After-raised_near-4) where
  r00 : Diff c.args.v.v00 c.raised_near.result near_most
  r00 = told (search rules) c.raised_near.ensures

  r10 : Diff c.args.v.v10 c.raised_near-2.result near_most
  r10 = told (search rules) c.raised_near-2.ensures

  r01 : Diff c.args.v.v01 c.raised_near-3.result near_most
  r01 = told (search rules) c.raised_near-3.ensures

  r11 : Diff c.args.v.v11 c.raised_near-4.result near_most
  r11 = told (search rules) c.raised_near-4.ensures

  abbrev near : NearSizes c.args.v
  near = near_sizes c.args.v c.requires.2

  small : blended c.args.w c.raised_near.result c.raised_near-2.result c.raised_near-3.result c.raised_near-4.result ≤ 2 * near_most
  small = blend_most c.requires.0 (2 * near_most) (raised_most c.args.v.v00 near.at00 r00) (raised_most c.args.v.v10 near.at10 r10) (raised_most c.args.v.v01 near.at01 r01) (raised_most c.args.v.v11 near.at11 r11)

pub blend_one_word-q-requires : goal.blend_one_word-q-requires
blend_one_word-q-requires c =
    let q = (goal.at.blend_one_word-q-requires c).After-raised_near-4 in
    let s = sum_most c.requires.0 (2 * near_most) (raised_most c.args.v.v00 (near q).at00 (r00 q)) (raised_most c.args.v.v10 (near q).at10 (r10 q)) (raised_most c.args.v.v01 (near q).at01 (r01 q)) (raised_most c.args.v.v11 (near q).at11 (r11 q)) in
    let m = mul-le-mul_left (2 * near_most) c.requires.1 in
    omega arith

pub lowered-requires : goal.lowered-requires
lowered-requires c = let m = small (goal.at.lowered-requires c).After-raised_near-4 in let e = c.blend_one_word-q.ensures in omega arith

pub returns : goal.returns
returns c =
    let q = (goal.at.returns c).After-raised_near-4 in let r = c.lowered.result in
    to_z-of_z w64 r (record { sfits = c.lowered.type_inv })
    ∙ diff_join (diff_of r c.blend_one_word-q.result near_most c.lowered.ensures) c.blend_one_word-q.ensures
    (value_shifted c.requires.0 {v = c.args.v} near_most refl (r00 q) (r10 q) (r01 q) (r11 q))
