-- `line::numbers_from` meets its contract.
use Prim.Native.Nat.{ℕ}
use mathlib.Core.Path.{ap, ◌∙◌}
use lib.IntN.{pos}
use lib.ListN.{take, drop, length-replicate}
use Rattle.text.specs.Parts.{split}
use Rattle.text.specs.Fields.{read_ints}
use Rattle.line.specs.Numbers.{as_read}
use Rattle.line.proofs.NumberLaws.{numbers_given}
use Rattle.line.proofs.numbers_from.Goals as goal

pub returns : goal.returns
returns g c =
    c.then_some.ensures ∙ numbers_given _ c.read_numbers.ensures
    ∙ ap (λ (n : ℕ). as_read (read_ints (take n (drop c.args.first (split 9 c.args.line.now))))) (length-replicate g.row.N (pos 0))
