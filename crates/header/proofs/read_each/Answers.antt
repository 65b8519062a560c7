-- `header::read_each` meets its contract.
use mathlib.Core.Path.{◌≡◌, sym, subst}
use native.Mathlib.Omega.{arith}
use borrow.Author.Rules.{rules}
use lib.ListN.{length, drop}
use Rattle.std.specs.Prelude.{Err}
use Rattle.text.specs.Parts.{split}
use Rattle.header.specs.Items.{read_items, Are}
use Rattle.header.proofs.ItemLaws.{loop_unclosed, loop_refuses, loop_reads, loop_leaves, end_le}
use Rattle.header.proofs.read_each.Goals as goal

pub returns-then-e-text : goal.returns-then-e-text
returns-then-e-text g c =
    let a = c.args in let l = c.loop-k in
    loop_unclosed g.T.Entry.read_line (length a.entries.now) a.first a.text.now a.at l.entries l.next l.k l.invariant _ c.find_from-e.ensures c.loop-k-test.true c.if-e-text.true

pub slice_bounds-read-end : goal.slice_bounds-read-end
slice_bounds-read-end g c = omega (arith, end_le c.args.text.now c.loop-k.next _ c.find_from-e.ensures c.loop-k.invariant.room)

pub returns-in_err-entry : goal.returns-in_err-entry
returns-in_err-entry g c =
    let a = c.args in let l = c.loop-k in
    let refused : c.from_residual.result ≡ Err c.in_err-entry.field-0.0 = search rules in
    subst (Are a.text.now (read_items g.T.Entry.read_line (length a.entries.now) a.first (split 10 (drop a.at a.text.now))) _) (sym refused)
    (loop_refuses g.T.Entry.read_line (length a.entries.now) a.first a.text.now a.at l.entries l.next l.k l.invariant _ c.find_from-e.ensures c.loop-k-test.true c.if-e-text.false
    _ (sym c.in_err-entry.ensures))

pub loop-k-preserved : goal.loop-k-preserved
loop-k-preserved g c =
    let a = c.args in let l = c.loop-k in
    loop_reads g.T.Entry.read_line (length a.entries.now) a.first a.text.now a.at l.entries l.next l.k l.invariant _ c.find_from-e.ensures c.loop-k-test.true c.if-e-text.false
    c.in_ok-entry.field-0 l.auto.entries (sym c.in_ok-entry.ensures)

pub returns : goal.returns
returns g c =
    let a = c.args in let l = c.loop-k in
    loop_leaves g.T.Entry.read_line (length a.entries.now) a.first a.text.now a.at l.entries l.next l.k l.invariant l.auto.entries c.loop-k-test.false
