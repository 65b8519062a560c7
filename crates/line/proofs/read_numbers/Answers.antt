-- `line::read_numbers` meets its contract.
use Prim.Native.Nat.{◌+◌}
use mathlib.Core.Path.{sym, ap, ◌∙◌}
use native.Mathlib.Omega.{arith}
use borrow.Author.Rules.{rules}
use mir.Facts.{to_z-of_z}
use mir.Syntax.{w64}
use lib.ListN.{length}
use Rattle.std.specs.Prelude.{Some}
use Rattle.text.specs.Parts.{split}
use Rattle.text.proofs.FieldLaws.{answer}
use Rattle.line.proofs.NumberLaws.{numbers_more, numbers_read_bad, numbers_read_good}
use Rattle.line.proofs.read_numbers.Goals as goal

pub returns-in_default : goal.returns-in_default
returns-in_default c =
    let a = c.args in let k = c.loop-k.k in
    numbers_read_bad (split 9 a.line.now) a.first (length a.numbers.now) c.requires.2 _ k (omega arith)
    (answer a.line.now (a.first + k) _ _ c.read_number.ensures c.cut_field.ensures ∙ c.in_default.is)

pub loop-k-preserved : goal.loop-k-preserved
loop-k-preserved c =
    let a = c.args in let k = c.loop-k.k in
    numbers_more (split 9 a.line.now) a.first k c.loop-k.numbers _ (omega arith) c.loop-k.invariant
    (answer a.line.now (a.first + k) _ _ c.read_number.ensures c.cut_field.ensures ∙ c.in-Some.is ∙ ap Some (sym (to_z-of_z {w = w64} (search rules))))

pub returns : goal.returns
returns c =
    let a = c.args in
    numbers_read_good (split 9 a.line.now) a.first (length a.numbers.now) c.requires.2 c.loop-k.numbers c.loop-k.k (omega arith) (omega arith) c.loop-k.invariant
