-- `header::read_lines` meets its contract.
use mathlib.Core.Path.{◌≡◌, sym, ap, ◌∙◌}
use native.Mathlib.Omega.{arith}
use borrow.Author.Rules.{rules}
use lib.ListN.{take}
use lib.Seq.{length-take-le}
use Rattle.std.specs.Prelude.{Err}
use Rattle.line.specs.Lines.{function_line}
use Rattle.header.specs.Whole.{grid_lines, lines_reading}
use Rattle.header.proofs.ItemLaws.{end_le, behind_le}
use Rattle.header.proofs.WholeLaws.{head_unclosed, head_stops, head_goes, head_counts}
use Rattle.header.proofs.read_lines.Goals as goal

pub returns-then-e-text : goal.returns-then-e-text
returns-then-e-text c = sym (ap lines_reading (head_unclosed function_line grid_lines c.args.text.now _ c.find_from-e.ensures c.if-e-text.true))

pub slice_bounds-group_line-end : goal.slice_bounds-group_line-end
slice_bounds-group_line-end c = let l = end_le c.args.text.now 0 _ c.find_from-e.ensures (omega arith) in omega (arith, length-take-le c.find_from-e.result c.args.text.now l)

pub returns-in_err-head : goal.returns-in_err-head
returns-in_err-head c =
    let refused : c.from_residual.result ≡ Err c.in_err-head.field-0.0 = search rules in
    refused
    ∙ sym (ap lines_reading (head_stops function_line grid_lines c.args.text.now _ c.find_from-e.ensures c.if-e-text.false _ (sym c.in_err-head.ensures)))

pub overflow_add-e : goal.overflow_add-e
overflow_add-e c = omega (arith, end_le c.args.text.now 0 _ c.find_from-e.ensures (omega arith))

pub read_entries-requires : goal.read_entries-requires
read_entries-requires c = (
  behind_le c.args.text.now 0 _ c.find_from-e.ensures (omega arith) c.if-e-text.false,
  head_counts 1 (take c.find_from-e.result c.args.text.now) _ (sym c.in_ok-head.ensures),
)

pub returns : goal.returns
returns c =
    c.read_entries.ensures
    ∙ sym (ap lines_reading (head_goes function_line grid_lines c.args.text.now _ c.find_from-e.ensures c.if-e-text.false _ (sym c.in_ok-head.ensures)))
