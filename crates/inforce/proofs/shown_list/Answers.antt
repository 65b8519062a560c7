-- `shown_list` meets its contract: each turn shows one entry more.
use mathlib.Core.Path.{◌≡◌, refl}
use native.Mathlib.Omega.{arith}
use Rattle.inforce.specs.Handed.{shown_list}
use Rattle.inforce.proofs.ShownLaws.{shown_more}
use Rattle.inforce.proofs.shown_list.Goals as goal

pub loop-i-preserved : goal.loop-i-preserved
loop-i-preserved c =
    let p = c.requires in let l = c.loop-i in
    rw (l.invariant, c.shown_entry.ensures) (shown_more _ l.i (omega (arith, p.few)) (omega (arith, p.few, p.room)))

pub returns : goal.returns
unfolding shown_list
returns c = let l = c.loop-i in let e : l.i ≡ c.args.l.count = omega arith in rw (l.invariant, e) refl
