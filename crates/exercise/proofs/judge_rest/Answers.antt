-- `judge_rest` meets its contract.
use mathlib.Core.Path.{sym, ◌∙◌}
use Rattle.abi.specs.Abi.{group_of_words}
use Rattle.exercise.proofs.StageLaws.{many_12, many_nodes}
use Rattle.exercise.proofs.judge_rest.Goals as goal

pub returns-then-not-agree : goal.returns-then-not-agree
returns-then-not-agree c = sym (many_12 (group_of_words c.args.words.now) c.args.nodes c.args.agree c.if-not-agree.true)

pub returns : goal.returns
returns c = c.judge_nodes.ensures ∙ sym (many_nodes (group_of_words c.args.words.now) c.args.nodes c.args.agree c.if-not-agree.false)
