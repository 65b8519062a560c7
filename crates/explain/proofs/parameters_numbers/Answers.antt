-- `parameters_numbers` meets its contract.
use Prim.Native.Nat.{ℕ, ◌≤◌}
use mathlib.Core.Path.{◌≡◌, refl, sym, ap, ◌∙◌, subst}
use native.Mathlib.Omega.{arith}
use lib.IntN.{ℤ, pos, nat_abs}
use lib.ListN.{replicate}
use mir.Syntax.{w64}
use mir.Val.{SFits, to_z, of_z}
use mir.ValLaws.{to_z-of_z}
use Rattle.group.specs.Numbers.{factor_most}
use Rattle.fix.specs.declared.Offset.{Offset}
use Rattle.fix.specs.declared.Cell.{Cell}
use Rattle.fix.specs.Fix.{cell_of, position}
use Rattle.fix.specs.Inside.{InsideGrid, RangeListed}
use Rattle.fix.specs.Parts.{Begun}
use Rattle.fix.proofs.OffsetLaws.{cell_i, cell_j}
use Rattle.explain.specs.Explain.{worked_in, worked_numbers}
use Rattle.explain.specs.Flat.{parameters_numbers}
use Rattle.explain.proofs.StoreLaws.{stored_three}
use Rattle.explain.proofs.parameters_numbers.Goals as goal

-- what each parameter's numbers rely on
begun : {l : Offset} {n : ℕ} {s : Cell} {a : ℕ} → InsideGrid l → RangeListed l n → s ≡ cell_of l → a ≡ position l s.i s.j 0 → Begun l n s.weights a
begun {l} h r e p =
    record {
      inside = h;
      listed = r;
      weights = ap (λ (c : Cell). c.weights) e;
      low = p ∙ ap (λ (c : Cell). position l c.i c.j 0) e;
    }

small : {f : ℤ} → SFits w64 f → nat_abs f ≤ factor_most → nat_abs (to_z w64 (of_z w64 f)) ≤ factor_most
small {f} h m = subst (λ (z : ℤ). nat_abs z ≤ factor_most) (sym (to_z-of_z w64 f h)) m

pub position-a-requires : goal.position-a-requires
position-a-requires c =
    let e = c.cell_of-s.ensures in let i = cell_i c.requires.0 in let j = cell_j c.requires.0 in
    let a = ap (λ (r : Cell). r.i) e in let b = ap (λ (r : Cell). r.j) e in
    (c.requires.0, omega arith, omega arith, c.requires.2)

pub worked_numbers-first-requires : goal.worked_numbers-first-requires
worked_numbers-first-requires c =
    (begun c.requires.0 c.requires.1 c.cell_of-s.ensures c.position-a.ensures, small c.ranges.factor c.requires.3, c.requires.4)

pub worked_numbers-second-requires : goal.worked_numbers-second-requires
worked_numbers-second-requires c =
    (begun c.requires.0 c.requires.1 c.cell_of-s.ensures c.position-a.ensures, small c.ranges.factor c.requires.3, c.requires.4)

pub worked_numbers-third-requires : goal.worked_numbers-third-requires
worked_numbers-third-requires c =
    (begun c.requires.0 c.requires.1 c.cell_of-s.ensures c.position-a.ensures, small c.ranges.factor c.requires.3, c.requires.4)

pub returns : goal.returns
unfolding parameters_numbers worked_numbers
returns c =
    let a = c.args in let e = to_z-of_z w64 a.factor c.ranges.factor in
    let numbers = λ (f : ℤ) (p : ℕ). worked_numbers (worked_in a.l a.nodes.now f p) in
    stored_three (replicate 24 (pos 0)) (numbers a.factor 0) (numbers a.factor 1) (numbers a.factor 2) 8 16 refl refl refl
    (c.worked_numbers-first.ensures ∙ ap (λ (z : ℤ). numbers z 0) e)
    (c.worked_numbers-second.ensures ∙ ap (λ (z : ℤ). numbers z 1) e)
    (c.worked_numbers-third.ensures ∙ ap (λ (z : ℤ). numbers z 2) e)
    c.store_numbers.ensures c.store_numbers-2.ensures c.store_numbers-3.ensures
