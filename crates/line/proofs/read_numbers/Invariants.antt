-- `line::read_numbers` meets its contract.
use Rattle.text.specs.Parts.{split}
use Rattle.line.proofs.NumberLaws.{NumbersTo}
use Rattle.line.proofs.read_numbers.Given as goal

abbrev pub invariant-loop-k : goal.invariant-loop-k
invariant-loop-k l = NumbersTo (split 9 l.line) l.first l.k l.numbers
