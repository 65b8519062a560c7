-- `region::first_in_row` meets its contract. The loop's invariant: rectangles hold all from west up to below x, in each row from y to top,
-- and of those walked through none holds x.
use mathlib.Core.Path.{refl, sym, ◌∙◌}
use mathlib.Core.Bool.{false}
use native.Mathlib.Omega.{arith}
use Rattle.region.proofs.FreeLaws.{free_is, shut_more, walked_none, walked_by, walked_ahead, walked_on, less_left}
use Rattle.region.proofs.first_in_row.Goals as goal

pub loop-i-init : goal.loop-i-init
loop-i-init c =
    let a = c.args in
    (refl, omega arith, omega arith, c.requires.1, c.requires.0, (λ k j p q. absurd (omega arith)), walked_none a.rs.now a.a.west a.y false)

pub loop-i-preserved-then-x-rs : goal.loop-i-preserved-then-x-rs
loop-i-preserved-then-x-rs c =
    let a = c.args in
    let l = c.loop-i in
    let v = l.invariant in
    (v.0, omega arith, v.2, v.3, v.4, v.5, walked_ahead a.rs.now l.x a.y l.i l.ahead v.6 c.if-x-rs.true)

pub returns-then-a-to : goal.returns-then-a-to
returns-then-a-to c =
    let a = c.args in let l = c.loop-i in
    let s =
    shut_more _ _ _ _ _ _ _ (omega arith) (sym c.reaches-reached.ensures ∙ c.if-reached.true) (omega arith) c.min-top.ensures
    l.invariant.4 l.invariant.5 in
    (s.1, λ k j p q r o. s.2 k j p (omega arith) r o)

pub loop-i-smaller-then-ahead : goal.loop-i-smaller-then-ahead
loop-i-smaller-then-ahead c =
    let a = c.args in let l = c.loop-i in
    let s =
    shut_more _ _ _ _ _ _ _ (omega arith) (sym c.reaches-reached.ensures ∙ c.if-reached.true) (omega arith) c.min-top.ensures
    l.invariant.4 l.invariant.5 in
    less_left _ _ _ _ _ (omega (arith, s.0, l.invariant.3)) (omega arith)

pub loop-i-preserved-then-ahead : goal.loop-i-preserved-then-ahead
loop-i-preserved-then-ahead c =
    let a = c.args in let l = c.loop-i in
    let s =
    shut_more _ _ _ _ _ _ _ (omega arith) (sym c.reaches-reached.ensures ∙ c.if-reached.true) (omega arith) c.min-top.ensures
    l.invariant.4 l.invariant.5 in
    (l.invariant.0, omega arith, omega (arith, s.0, l.invariant.2), omega arith, s.1, s.2, walked_none a.rs.now _ a.y false)

pub loop-i-smaller-else-ahead : goal.loop-i-smaller-else-ahead
loop-i-smaller-else-ahead c =
    let a = c.args in let l = c.loop-i in
    let s =
    shut_more _ _ _ _ _ _ _ (omega arith) (sym c.reaches-reached.ensures ∙ c.if-reached.true) (omega arith) c.min-top.ensures
    l.invariant.4 l.invariant.5 in
    less_left _ _ _ _ _ (omega (arith, s.0, l.invariant.3)) (omega arith)

pub loop-i-preserved-else-ahead : goal.loop-i-preserved-else-ahead
loop-i-preserved-else-ahead c =
    let a = c.args in let l = c.loop-i in
    let s =
    shut_more _ _ _ _ _ _ _ (omega arith) (sym c.reaches-reached.ensures ∙ c.if-reached.true) (omega arith) c.min-top.ensures
    l.invariant.4 l.invariant.5 in
    (l.invariant.0, omega arith, omega (arith, s.0, l.invariant.2), omega arith, s.1, s.2, walked_on a.rs.now l.x a.y l.i l.ahead l.invariant.6 c.if-ahead.false s.0)

pub loop-i-preserved : goal.loop-i-preserved
loop-i-preserved c =
    let a = c.args in
    let l = c.loop-i in
    let v = l.invariant in
    (v.0, omega arith, v.2, v.3, v.4, v.5, walked_by a.rs.now l.x a.y l.i l.ahead v.6 (sym c.reaches-reached.ensures ∙ c.if-reached.false))

pub returns : goal.returns
returns c =
    let a = c.args in
    let l = c.loop-i in
    let v = l.invariant in
    (v.2, v.3, (λ k p q. v.5 k a.y p q (omega arith) v.4), free_is a.rs.now l.x a.y (λ i m. v.6.past i (omega (arith, v.0))))
