-- `fix_chosen` meets its contract.
use Prim.Native.Nat.{◌-◌, ◌≤◌}
use mathlib.Core.Path.{◌≡◌, sym, ap, ◌∙◌, subst}
use native.Mathlib.Omega.{arith}
use lib.IntN.{ℤ, nat_abs}
use mir.Syntax.{w64}
use mir.ValLaws.{to_z-of_z}
use Rattle.group.specs.Numbers.{factor_most}
use Rattle.fix.specs.Fix.{fix_in}
use Rattle.flat.specs.declared.Frame.{Frame}
use Rattle.flat.specs.Frames.{frame_at}
use Rattle.lookup.specs.Flat.{offset_in}
use Rattle.lookup.proofs.FixAtLaws.{fix_at_none, fix_at_some}
use Rattle.lookup.proofs.fix_chosen.Goals as goal

pub returns-then-c-eq0 : goal.returns-then-c-eq0
returns-then-c-eq0 c =
    let a = c.args in
    sym (fix_at_none a.c (λ k. offset_in (frame_at a.frames.now k) a.np a.x a.y) a.nodes.now a.factor c.if-c-eq0.true)

pub frame_at-requires : goal.frame_at-requires
frame_at-requires c = let r = c.requires.0.room in omega arith

pub fix_in-requires : goal.fix_in-requires
fix_in-requires c =
    let seen : c.offset_in-l.result ≡ offset_in (frame_at c.args.frames.now (c.args.c - 1)) c.args.np c.args.x c.args.y =
    c.offset_in-l.ensures ∙ ap (λ (f : Frame). offset_in f c.args.np c.args.x c.args.y) c.frame_at.ensures in
    rw (seen) (
      c.requires.0.inside (omega arith),
      c.requires.0.listed (omega arith),
      subst (λ (z : ℤ). nat_abs z ≤ factor_most) (sym (to_z-of_z w64 c.args.factor c.ranges.factor)) c.requires.1,
    )

pub returns : goal.returns
returns c =
    let seen : c.offset_in-l.result ≡ offset_in (frame_at c.args.frames.now (c.args.c - 1)) c.args.np c.args.x c.args.y =
    c.offset_in-l.ensures ∙ ap (λ (f : Frame). offset_in f c.args.np c.args.x c.args.y) c.frame_at.ensures in
    let a = c.args in
    c.fix_in.ensures
    ∙ (λ i. fix_in (seen i) a.nodes.now (to_z-of_z w64 a.factor c.ranges.factor i) a.c)
    ∙ sym (fix_at_some a.c (λ k. offset_in (frame_at a.frames.now k) a.np a.x a.y) a.nodes.now a.factor c.if-c-eq0.false)
