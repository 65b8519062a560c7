-- `parted` meets its contract.
use Prim.Native.Nat.{ℕ}
use mathlib.Core.Path.{ap, ◌∙◌}
use native.Mathlib.Omega.{arith}
use lib.IntN.{ℤ, pos, ◌+ℤ◌}
use mir.Syntax.{w64}
use mir.ValLaws.{to_z-of_z}
use Rattle.cell.proofs.SumLaws.{pair_whole, pair_rest, pair_high}
use Rattle.cell.proofs.parted.Goals as goal

pub overflow_mul-whole : goal.overflow_mul-whole
overflow_mul-whole c = let h = pair_high c.args.n c.requires.0 in omega arith

pub overflow_add-whole : goal.overflow_add-whole
overflow_add-whole c = let h = pair_high c.args.n c.requires.0 in omega arith

pub lowered-requires : goal.lowered-requires
lowered-requires c =
    let h = pair_high c.args.n c.requires.0 in (omega arith, c.requires.1)

pub returns : goal.returns
returns c =
    let r = c.lowered.result in (
      ap (λ (z : ℤ). z +ℤ pos c.args.m) (to_z-of_z w64 r (record { sfits = c.lowered.type_inv }))
          ∙ c.lowered.ensures ∙ ap (λ (n : ℕ). pos n) (pair_whole c.args.n),
      pair_rest c.args.n,
    )
