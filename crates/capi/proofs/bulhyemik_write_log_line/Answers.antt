-- `bulhyemik_write_log_line` meets its contract.
use mathlib.Core.Path.{◌≡◌}
use borrow.Author.Rules.{rules}
use mir.Syntax.{w64}
use mir.Val.{to_z, of_z}
use Rattle.abi.specs.Abi.{number_at}
use Rattle.capi.proofs.AnswerLaws.{line_told}
use Rattle.capi.proofs.bulhyemik_write_log_line.Goals as goal

pub returns : goal.returns
returns c =
    let s = c.args in
    let p = s.position.now in
    let w = c.line_words-written.ensures in
    let lon : to_z w64 (of_z w64 (number_at p 0)) ≡ number_at p 0 = search rules in
    let lat : to_z w64 (of_z w64 (number_at p 1)) ≡ number_at p 1 = search rules in
    let day : to_z w64 (of_z w64 (number_at p 2)) ≡ number_at p 2 = search rules in
    line_told s.group.now s.nodes.now p s.out.now _ _ _ _ _ _ (λ i. record { lon = record { 0 = lon i }; lat = record { 0 = lat i }; day = day i })
    w.answer w.bytes c.told.ensures c.written_count.ensures
