-- `look_ranked` meets its contract.
use Prim.Native.Nat.{◌≤◌}
use mathlib.Core.Path.{sym, ◌∙◌, subst}
use lib.IntN.{ℤ, nat_abs}
use lib.ListN.{length}
use mir.Syntax.{w64}
use mir.ValLaws.{to_z-of_z}
use Rattle.std.specs.Prelude.{Option}
use Rattle.group.specs.Numbers.{factor_most}
use Rattle.choice.specs.declared.Holder.{Holder}
use Rattle.lookup.specs.Flat.{fix_held, HeldChosen}
use Rattle.lookup.proofs.look_ranked.Goals as goal

pub fix_held-requires : goal.fix_held-requires
fix_held-requires c =
    let a = c.args in (
      subst (λ (q : Option Holder). HeldChosen a.frames.now q a.np (length a.nodes.now) a.x a.y)
          (sym c.first_holder-held.ensures) c.requires.0.ready,
      subst (λ (z : ℤ). nat_abs z ≤ factor_most) (sym (to_z-of_z w64 a.factor c.ranges.factor)) c.requires.1,
    )

pub returns : goal.returns
returns c =
    let a = c.args in
    c.fix_held.ensures
    ∙ (λ i. fix_held a.frames.now (c.first_holder-held.ensures i) a.np a.nodes.now (to_z-of_z w64 a.factor c.ranges.factor i) a.x a.y)
