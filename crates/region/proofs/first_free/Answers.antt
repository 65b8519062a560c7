-- `region::first_free` meets its contract. The loop's invariant: rectangles hold all of the rows from south up to below y.
use Prim.Native.Nat.{ℕ, ◌≤◌, ◌<◌}
use mathlib.Core.Path.{◌≡◌, sym}
use mathlib.Core.Bool.{Bool, false}
use native.Mathlib.Omega.{arith}
use native.Mathlib.Decide.{dec_lt}
use Rattle.region.specs.Free.{free}
use Rattle.region.proofs.SearchLaws.{first_at, first_none}
use Rattle.region.proofs.first_free.Goals as goal

-- the rows below y, and those from y to top
shut_on : {p : ℕ → ℕ → Bool} {west east south y top : ℕ}
    → ((k j : ℕ) → west ≤ k → k ≤ east → south ≤ j → j < y → p k j ≡ false)
    → ((k j : ℕ) → west ≤ k → k ≤ east → y ≤ j → j ≤ top → p k j ≡ false)
    → (k j : ℕ) → west ≤ k → k ≤ east → south ≤ j → j ≤ top → p k j ≡ false
shut_on {y = y} f g k j a b s t = elim (dec_lt j y) [ yes lt ↦ f k j a b s lt | no ge ↦ g k j a b (omega arith) t ]

pub returns-then-a : goal.returns-then-a
returns-then-a c =
    let r = c.args in let a = r.a in
    sym (first_none (free r.rs.now) a.west a.east a.south a.north (λ i j p q r o. absurd (omega arith)))

pub loop-y-init : goal.loop-y-init
loop-y-init c = (omega arith, λ k j p q r s. absurd (omega arith))

pub returns-in-Open : goal.returns-in-Open
returns-in-Open c =
    let r = c.args in let a = r.a in let l = c.loop-y in
    let s = c.in-Open.ensures in
    sym (first_at (free r.rs.now) a.west a.east a.south a.north
    (record { west≤ = s.0; ≤east = s.1; south≤ = l.invariant.0; ≤north = c.loop-y-test.true; here = s.3; below = l.invariant.1; left = s.2 }))

pub returns-then-a-top : goal.returns-then-a-top
returns-then-a-top c =
    let r = c.args in let a = r.a in let l = c.loop-y in
    let s = c.in-Shut.ensures in
    sym (first_none (free r.rs.now) a.west a.east a.south a.north (λ i j p q r o. shut_on l.invariant.1 s.1 i j p q r (omega arith)))

pub loop-y-smaller : goal.loop-y-smaller
loop-y-smaller c =
    let l = c.loop-y in
    let s = c.in-Shut.ensures in
    omega (arith, s.0)

pub loop-y-preserved : goal.loop-y-preserved
loop-y-preserved c =
    let l = c.loop-y in
    let s = c.in-Shut.ensures in
    (omega (arith, s.0), λ k j p q r o. shut_on l.invariant.1 s.1 k j p q r (omega arith))

pub returns : goal.returns
returns c =
    let r = c.args in let a = r.a in
    sym (first_none (free r.rs.now) a.west a.east a.south a.north (λ i j p q r o. c.loop-y.invariant.1 i j p q r (omega arith)))
