-- `judge_log` meets its contract: a record that is stored as numbers is judged by as it was.
use mathlib.Core.Path.{ap, ◌∙◌}
use mathlib.Core.List.{List}
use lib.IntN.{ℤ}
use Rattle.abi.specs.Abi.{group_of_words}
use Rattle.abi.proofs.ShapeLaws.{machine_shaped}
use Rattle.logs.specs.Log.{log_judged}
use Rattle.logs.proofs.LoopLaws.{log_stored}
use Rattle.logs.proofs.judge_log.Goals as goal

pub returns : goal.returns
returns c =
    let a = c.args in
    c.log_words.ensures
    ∙ ap (λ (ns : List ℤ). log_judged (group_of_words ns) a.nodes.now a.log.now) c.numbers_of-words.ensures
    ∙ log_stored a.group (machine_shaped a.group _ c.well_formed.0) a.nodes.now a.log.now
