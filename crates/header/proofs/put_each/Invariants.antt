-- `header::put_each` meets its contract.
use Rattle.header.proofs.WriteLaws.{Writes}
use Rattle.header.proofs.put_each.Given as goal

abbrev pub invariant-loop-entry : goal.invariant-loop-entry
invariant-loop-entry g l = Writes g.T.Entry.text l.entries l.at l.initial.out l.next l.entry-index l.out
