-- `line::numbers_behind` meets its contract.
use mathlib.Core.Path.{◌≡◌, ap, ◌∙◌}
use native.Mathlib.Omega.{arith}
use lib.ListN.{length, drop, length-drop}
use lib.Seq.{take_all}
use Rattle.text.specs.Parts.{split}
use Rattle.text.specs.Fields.{read_ints}
use Rattle.text.proofs.PartLaws.{some_split}
use Rattle.line.specs.Numbers.{as_read}
use Rattle.line.proofs.NumberLaws.{count_other, count_same}
use Rattle.line.proofs.numbers_behind.Goals as goal

pub returns-then-count : goal.returns-then-count
returns-then-count g c =
    let ps = split 9 c.args.line.now in
    let d = length-drop 1 ps in let m = some_split 9 c.args.line.now in let p = c.requires.1 in
    count_other g.row.N (drop 1 ps) (λ e. omega arith)

pub returns : goal.returns
returns g c =
    let ps = split 9 c.args.line.now in
    let d = length-drop 1 ps in let p = c.requires.1 in
    let l : length (drop 1 ps) ≡ g.row.N = omega arith in
    c.numbers_from.ensures ∙ ap as_read (ap read_ints (take_all g.row.N (drop 1 ps) (omega arith)) ∙ count_same g.row.N (drop 1 ps) l)
