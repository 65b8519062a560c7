-- `header::put_each` meets its contract.
use Prim.Native.Nat.{◌+◌, ◌≤◌}
use mathlib.Core.Path.{sym, subst}
use mathlib.Core.List.{[], ◌∷◌, ◌++◌}
use lib.ListN.{length}
use Rattle.text.specs.Wrote.{Wrote}
use Rattle.header.proofs.WriteLaws.{writes_none, writes_room, writes_more}
use Rattle.header.proofs.put_each.Goals as goal

pub loop-entry-init : goal.loop-entry-init
loop-entry-init g c = writes_none g.T.Entry.text c.args.entries.now c.args.at c.args.out.now

pub put-next-requires : goal.put-next-requires
put-next-requires g c =
    let a = c.args in let l = c.loop-entry in let e = c.entry-item in (
      subst g.T.Entry.HasText (sym e.is) (c.requires.texts l.entry-index e.result c.loop-entry-test.true),
      subst (λ x. l.next + length (g.T.Entry.text x ++ (10 ∷ [])) ≤ length l.out) (sym e.is)
          (writes_room g.T.Entry.text e.result a.entries.now a.at a.out.now c.requires.room l.next l.entry-index l.out l.invariant c.loop-entry-test.true),
    )

pub loop-entry-preserved : goal.loop-entry-preserved
loop-entry-preserved g c =
    let a = c.args in let l = c.loop-entry in let e = c.entry-item in let p = c.put-next in
    writes_more g.T.Entry.text e.result a.entries.now a.at a.out.now c.requires.room l.next l.entry-index l.out l.invariant c.loop-entry-test.true p.result p.new.out
    (subst (λ x. Wrote l.next (g.T.Entry.text x ++ (10 ∷ [])) l.out p.result p.new.out) e.is p.ensures)
