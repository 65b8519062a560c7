-- `header::read_each` meets its contract.
use lib.ListN.{length}
use Rattle.header.proofs.ItemLaws.{Loop}
use Rattle.header.proofs.read_each.Given as goal

abbrev pub invariant-loop-k : goal.invariant-loop-k
invariant-loop-k g l = Loop g.T.Entry.read_line (length l.initial.entries) l.first l.text l.at l.entries l.next l.k
