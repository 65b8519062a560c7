-- `judge` meets its contract: a record that is stored as numbers is judged as it was.
use mathlib.Core.Path.{ap, ◌∙◌}
use mathlib.Core.List.{List}
use lib.IntN.{ℤ}
use Rattle.abi.specs.Abi.{group_of_words}
use Rattle.abi.proofs.ShapeLaws.{machine_shaped}
use Rattle.judge.specs.Judge.{judged}
use Rattle.judge.proofs.StoredLaws.{stored_judged}
use Rattle.judge.proofs.judge.Goals as goal

pub returns : goal.returns
returns c =
    c.judge_words.ensures ∙ ap (λ (ns : List ℤ). judged (group_of_words ns)) c.numbers_of-words.ensures
    ∙ stored_judged c.args.group (machine_shaped c.args.group _ c.well_formed.0)
