-- `fix_in` meets its contract.
use Prim.Native.Nat.{◌+◌, ◌≤◌, ◌<◌}
use mathlib.Core.Path.{sym, ap, ◌∙◌, subst}
use native.Mathlib.Omega.{arith}
use lib.IntN.{ℤ, nat_abs}
use mir.Syntax.{w64}
use mir.ValLaws.{to_z-of_z}
use Rattle.group.specs.Numbers.{factor_most}
use Rattle.fix.specs.declared.Cell.{Cell}
use Rattle.fix.specs.Fix.{cell_of, position, fix_in}
use Rattle.fix.proofs.OffsetLaws.{cell_i, cell_j}
use Rattle.fix.proofs.PartLaws.{fix_none}
use Rattle.fix.proofs.fix_in.Goals as goal

pub returns-then-l-eq0 : goal.returns-then-l-eq0
returns-then-l-eq0 c = let a = c.args in sym (fix_none a.l a.nodes.now a.factor a.grid c.if-l-eq0.true)

pub position-a-requires : goal.position-a-requires
position-a-requires c =
    let e = c.cell_of-s.ensures in
    let i : (cell_of c.args.l).i + 1 < c.args.l.ni = cell_i c.requires.0 in let j : (cell_of c.args.l).j + 1 < c.args.l.nj = cell_j c.requires.0 in
    (c.requires.0, rw e (omega arith), rw e (omega arith), omega arith)

pub fix_from-requires : goal.fix_from-requires
fix_from-requires c =
    let e = c.cell_of-s.ensures in (
      record {
        inside = c.requires.0;
        listed = c.requires.1;
        weights = ap (λ (s : Cell). s.weights) e;
        low = c.position-a.ensures ∙ ap (λ (s : Cell). position c.args.l s.i s.j 0) e;
      },
      omega arith,
      subst (λ (z : ℤ). nat_abs z ≤ factor_most) (sym (to_z-of_z w64 c.args.factor c.ranges.factor)) c.requires.2,
    )

pub returns : goal.returns
returns c =
    c.fix_from.ensures ∙ ap (λ (z : ℤ). fix_in c.args.l c.args.nodes.now z c.args.grid) (to_z-of_z w64 c.args.factor c.ranges.factor)
