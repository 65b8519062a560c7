-- `value_two_words` meets its contract: the blend of the shifted corners is the shifted value.
use borrow.Author.Rules.{rules}
use mathlib.Core.Path.{refl, ◌∙◌}
use native.Mathlib.Omega.{arith}
use mir.Syntax.{w64}
use mir.ValLaws.{to_z-of_z}
use Rattle.numbers.proofs.Diff.{Diff, diff_of, diff_join}
use Rattle.cell.specs.Unsigned.{corner_shift}
use Rattle.cell.proofs.WideLaws.{corner_shifted}
use Rattle.cell.proofs.ValueLaws.{value_shifted}
use Rattle.cell.proofs.value_two_words.Goals as goal

pub lowered-requires : goal.lowered-requires
lowered-requires c = let e = c.blend_two_words-q.ensures.1 in omega arith

pub returns : goal.returns
returns c =
    let s00 : Diff c.args.v.v00 c.shifted.result corner_shift = corner_shifted (search rules) c.shifted.ensures in
    let s10 : Diff c.args.v.v10 c.shifted-2.result corner_shift = corner_shifted (search rules) c.shifted-2.ensures in
    let s01 : Diff c.args.v.v01 c.shifted-3.result corner_shift = corner_shifted (search rules) c.shifted-3.ensures in
    let s11 : Diff c.args.v.v11 c.shifted-4.result corner_shift = corner_shifted (search rules) c.shifted-4.ensures in
    let r = c.lowered.result in
    to_z-of_z w64 r (record { sfits = c.lowered.type_inv })
    ∙ diff_join (diff_of r c.blend_two_words-q.result corner_shift c.lowered.ensures) c.blend_two_words-q.ensures.0
    (value_shifted c.requires {v = c.args.v} corner_shift refl s00 s10 s01 s11)
