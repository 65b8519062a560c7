-- `digit`: the estimate by the divisor's upper digit, lowered until it is the digit. The measure is the estimate.
use Prim.Native.Nat.{◌*◌, ◌≤◌, ◌<◌}
use mathlib.Core.Path.{sym, ◌∙◌}
use native.Mathlib.Omega.{arith}
use borrow.Author.Tests.{ltb-true, ltb-false}
use Rattle.pair.proofs.DigitLaws.{Divides, lower, number, first_estimate, next_estimate, rest_below, is_whole, is_digit}
use Rattle.pair.proofs.digit.Goals.{Start, After-loop-q}
use Rattle.pair.proofs.digit.Goals as goal

given : (c : Start) → Divides c.args.r c.args.x c.args.d
given c = record { top = c.requires.0; word = c.ranges.d.fits; under = c.requires.1; one = c.requires.2 }

-- the loop ends where the estimate is not too much
enough : (c : After-loop-q) → c.loop-q.q * lower c.args.d ≤ number c.loop-q.s c.args.x
enough c = ltb-false _ _ (sym c.short_of.ensures ∙ c.loop-q-test.false)

pub loop-q-init : goal.loop-q-init
loop-q-init c = first_estimate _ _ _ (given (goal.at.loop-q-init c).Start)

pub loop-q-preserved : goal.loop-q-preserved
loop-q-preserved c =
    let too_much : number c.loop-q.s c.args.x < c.loop-q.q * lower c.args.d = ltb-true _ _ (sym c.short_of.ensures ∙ c.loop-q-test.true) in
    next_estimate _ _ _ (given (goal.at.loop-q-preserved c).Start) _ _ c.loop-q.invariant too_much

pub left_over-requires : goal.left_over-requires
left_over-requires c =
    let p = goal.at.left_over-requires c in
    let m = enough p.After-loop-q in
    (c.requires.2, m, omega (arith, rest_below _ _ _ (given p.Start) _ _ c.loop-q.invariant m))

pub returns : goal.returns
returns c =
    let p = goal.at.returns c in
    let g = given p.Start in
    let m = enough p.After-loop-q in (
      record {
        whole = is_whole _ _ _ g _ _ c.loop-q.invariant m _ c.left_over.ensures;
        below = omega (arith, rest_below _ _ _ g _ _ c.loop-q.invariant m);
      },
      is_digit _ _ _ g _ _ c.loop-q.invariant m,
    )
