-- `header::read_header` meets its contract.
use mathlib.Core.Path.{◌≡◌, sym, ap, ◌∙◌}
use borrow.Author.Rules.{rules}
use Rattle.std.specs.Prelude.{Err}
use Rattle.header.specs.Header.{verdict_reading}
use Rattle.header.proofs.HeaderLaws.{lines_refused, judged_as}
use Rattle.header.proofs.read_header.Goals as goal

pub returns-in_err-group : goal.returns-in_err-group
returns-in_err-group c =
    let refused : c.from_residual.result ≡ Err c.in_err-group.field-0.0 = search rules in
    refused ∙ lines_refused c.args.text.now _ c.read_lines.ensures _ c.in_err-group.was

pub returns-in_err-judge : goal.returns-in_err-judge
returns-in_err-judge c =
    let g = c.in_ok-group.group in
    let refused : c.from_residual-in_err-judge.result ≡ Err c.in_err-judge.field-0.0 = search rules in
    refused ∙ ap (verdict_reading g) c.in_err-judge.ensures ∙ sym (judged_as c.args.text.now _ c.read_lines.ensures g c.in_ok-group.was)

pub returns : goal.returns
returns c =
    let g = c.in_ok-group.group in
    ap (verdict_reading g) c.in_ok-judge.ensures ∙ sym (judged_as c.args.text.now _ c.read_lines.ensures g c.in_ok-group.was)
