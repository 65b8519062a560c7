-- `lookup_of` meets its contract.
use mathlib.Core.Path.{◌≡◌, ap, ◌∙◌}
use borrow.Author.Rules.{rules}
use mir.Syntax.{w64}
use mir.Val.{to_z, of_z}
use Rattle.numbers.specs.Order.{count_of}
use Rattle.abi.specs.Abi.{number_at}
use Rattle.capi.proofs.AnswerLaws.{lookup_fix, lookup_refused}
use Rattle.capi.proofs.lookup_of.Goals as goal

pub returns-then-number-eq0 : goal.returns-then-number-eq0
returns-then-number-eq0 c =
    let s = c.args in
    let f = s.fix.now in
    let grid : to_z w64 (of_z w64 (number_at f 0)) ≡ number_at f 0 = search rules in
    let first : to_z w64 (of_z w64 (number_at f 1)) ≡ number_at f 1 = search rules in
    let second : to_z w64 (of_z w64 (number_at f 2)) ≡ number_at f 2 = search rules in
    let third : to_z w64 (of_z w64 (number_at f 3)) ≡ number_at f 3 = search rules in
    lookup_fix s.number s.at f _ _ _ _ c.if-number-eq0.true (c.count_of.ensures ∙ ap count_of grid) first second third

pub returns : goal.returns
returns c = lookup_refused c.args.number c.args.at c.args.fix.now c.if-number-eq0.false
