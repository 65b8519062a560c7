-- `first_short` meets its contract, by the loop of FirstLaws.
use mathlib.Core.Path.{◌≡◌, ap, ◌∙◌, sym}
use native.Mathlib.Omega.{arith}
use borrow.Author.Tests.{lt-ltb, le-ltb}
use lib.Dec.{ltb}
use Rattle.numbers.proofs.FirstLaws.{passed_none, passed_more, passed_end, passed_found}
use Rattle.flat.specs.Frames.{frame_at, frame_end}
use Rattle.lookup.proofs.first_short.Invariants.{late}
use Rattle.lookup.proofs.first_short.Goals as goal

pub loop-i-init : goal.loop-i-init
loop-i-init c = passed_none _ _

pub frame_at-f-requires : goal.frame_at-f-requires
frame_at-f-requires c = omega (arith, c.requires.0, c.loop-i-test.true)

pub node_end-requires : goal.node_end-requires
node_end-requires c =
    let h = c.requires.2 c.loop-i.i c.loop-i-test.true in
    rw c.frame_at-f.ensures (h.2, h.0, h.1, c.requires.1)

pub returns-then-count-node_end : goal.returns-then-count-node_end
returns-then-count-node_end c =
    let ends : c.node_end.result ≡ frame_end c.args.np (frame_at c.args.frames.now c.loop-i.i) = c.node_end.ensures ∙ ap (frame_end c.args.np) c.frame_at-f.ensures in
    let l = c.loop-i in
    passed_found (late c.args.frames.now c.args.np c.args.count) c.args.n l.i l.invariant c.loop-i-test.true
    (ap (ltb c.args.count) (sym ends) ∙ lt-ltb _ _ c.if-count-node_end.true)

pub loop-i-preserved : goal.loop-i-preserved
loop-i-preserved c =
    let ends : c.node_end.result ≡ frame_end c.args.np (frame_at c.args.frames.now c.loop-i.i) = c.node_end.ensures ∙ ap (frame_end c.args.np) c.frame_at-f.ensures in
    let l = c.loop-i in
    passed_more (late c.args.frames.now c.args.np c.args.count) c.args.n l.i l.invariant c.loop-i-test.true
    (ap (ltb c.args.count) (sym ends) ∙ le-ltb _ _ c.if-count-node_end.false)

pub returns : goal.returns
returns c = let e : c.args.n ≡ c.loop-i.i = omega arith in e ∙ passed_end _ _ _ c.loop-i.invariant (omega arith)
