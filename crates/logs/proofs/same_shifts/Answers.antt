-- `same_shifts` meets its contract.
use Prim.Native.Nat.{ℕ}
use mathlib.Core.Path.{◌≡◌, sym, ap, ◌∙◌}
use native.Mathlib.Omega.{arith}
use borrow.Author.Rules.{rules}
use mir.Syntax.{w64}
use mir.Val.{to_z, of_z}
use mir.ValLaws.{to_z-of_z}
use Rattle.numbers.proofs.Bools.{both, untrue}
use Rattle.numbers.proofs.FirstLaws.{every_none, every_more, every_at}
use Rattle.abi.specs.Abi.{number_at}
use Rattle.logs.specs.Line.{equal, same_shifts}
use Rattle.logs.proofs.EqualLaws.{equal_refl, equal_true}
use Rattle.logs.proofs.same_shifts.Goals as goal

pub loop-q-init : goal.loop-q-init
loop-q-init c = every_none (λ q. equal (number_at c.args.shifts.now q) (number_at c.args.results.now q))

pub returns-then-shifts-q : goal.returns-then-shifts-q
returns-then-shifts-q c =
    let a = c.args in let q = c.loop-q.q in let l = c.loop-q-test.true in
    sym
    (untrue _
    (λ e.
    let t = every_at (λ k. equal (number_at a.shifts.now k) (number_at a.results.now k)) a.n q e l in
    c.if-shifts-q.true (ap (of_z w64) (equal_true (number_at a.shifts.now q) (number_at a.results.now q) t))))

pub loop-q-preserved : goal.loop-q-preserved
loop-q-preserved c =
    let a = c.args in let q = c.loop-q.q in
    let x = number_at a.shifts.now q in let y = number_at a.results.now q in
    let e : x ≡ y = sym (to_z-of_z w64 x (search rules)) ∙ ap (to_z w64) c.if-shifts-q.false ∙ to_z-of_z w64 y (search rules) in
    every_more (λ k. equal (number_at a.shifts.now k) (number_at a.results.now k)) q ∙ both c.loop-q.invariant (equal_refl x y e)

pub returns : goal.returns
returns c =
    sym c.loop-q.invariant ∙ ap (λ (n : ℕ). same_shifts n c.args.shifts.now (number_at c.args.results.now)) (omega arith)
