-- `text::part_start` meets its contract.
use mathlib.Core.Path.{◌≡◌, ap}
use Prim.Native.Nat.{◌+◌, ◌-◌}
use native.Mathlib.Omega.{arith}
use lib.ListN.{drop}
use Rattle.text.specs.Parts.{start_of}
use Rattle.text.proofs.PartLaws.{start_of_zero, start_on, start_off}
use Rattle.text.proofs.part_start.Goals as goal

pub returns-then-s-e : goal.returns-then-s-e
returns-then-s-e c =
    let a = c.args in
    let v = c.loop.invariant in
    let t = c.loop-test.true in
    omega (arith, start_off a.c a.s.now c.loop.i c.find_from-e.result v.0 c.find_from-e.ensures (a.k - c.loop.counter) (λ z. omega arith) c.if-s-e.true)

pub loop-preserved : goal.loop-preserved
loop-preserved c =
    let a = c.args in
    let v = c.loop.invariant in
    let t = c.loop-test.true in
    let p = start_on a.c a.s.now c.loop.i c.find_from-e.result v.0 c.find_from-e.ensures (a.k - c.loop.counter) (λ z. omega arith) (omega arith) in
    let q : a.k - (c.loop.counter + 1) ≡ a.k - c.loop.counter - 1 = omega arith in
    (omega arith, omega (arith, ap (start_of a.c (drop (c.find_from-e.result + 1) a.s.now)) q))

pub returns : goal.returns
returns c =
    let a = c.args in
    let v = c.loop.invariant.1 in
    let z : a.k - c.loop.counter ≡ 0 = omega arith in
    omega (arith, start_of_zero a.c (drop c.loop.i a.s.now), ap (start_of a.c (drop c.loop.i a.s.now)) z)
