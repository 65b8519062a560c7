-- `write_log_line` meets its contract: a record that is stored as numbers is answered as it was.
use mathlib.Core.Path.{ap, ◌∙◌}
use mathlib.Core.List.{List}
use lib.IntN.{ℤ}
use lib.ListN.{length}
use Rattle.abi.specs.Abi.{group_of_words}
use Rattle.abi.proofs.ShapeLaws.{machine_shaped}
use Rattle.logs.specs.Writing.{line_written, line_after}
use Rattle.logs.proofs.WrittenLaws.{written_stored, after_stored}
use Rattle.logs.proofs.write_log_line.Goals as goal

pub returns : goal.returns
returns c =
    let a = c.args in
    let h = machine_shaped a.group _ c.well_formed.0 in
    let e = c.line_words.ensures in
    let n = c.numbers_of-words.ensures in
    record {
      answer = e.answer
          ∙ ap (λ (ns : List ℤ). line_written (group_of_words ns) a.nodes.now a.position (length a.out.now)) n
          ∙ written_stored a.group h a.nodes.now a.position (length a.out.now);
      bytes = e.bytes
          ∙ ap (λ (ns : List ℤ). line_after (group_of_words ns) a.nodes.now a.position a.out.now) n
          ∙ after_stored a.group h a.nodes.now a.position a.out.now;
    }
