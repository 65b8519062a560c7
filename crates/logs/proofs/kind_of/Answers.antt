-- `kind_of` meets its contract.
use Prim.Native.Nat.{◌-◌}
use mathlib.Core.Path.{◌≡◌, sym, ◌∙◌}
use mathlib.Core.Bool.{true}
use mathlib.Core.List.{[], ◌∷◌}
use native.Mathlib.Omega.{arith}
use borrow.Author.Rules.{rules}
use mir.Syntax.{w64}
use mir.ValLaws.{to_z-of_z}
use Rattle.text.specs.Fields.{same}
use Rattle.line.specs.Names.{name_text}
use Rattle.abi.specs.Abi.{number_at, grid_of_words, group_of_words}
use Rattle.judge.proofs.Accepted.{accepted_head}
use Rattle.logs.specs.Line.{same_shifts}
use Rattle.logs.proofs.TurnLaws.{result_list, kind_refused, fix_some, fix_grid, fix_name, kind_grid, kind_shift, kind_none}
use Rattle.logs.proofs.kind_of.Goals as goal
use Rattle.logs.proofs.kind_of.Goals.{Else-not-names_grid, After-same_shifts}

-- the grid is named
named : (c : Else-not-names_grid) → same c.args.name.now (name_text (grid_of_words c.args.words.now (c.in-Ok.f.grid - 1)).name) ≡ true
named c = sym c.names_grid.ensures ∙ c.if-not-names_grid.false

-- the shifts are compared with the results, which come by way of their bits
compared : (c : After-same_shifts)
    → same_shifts (group_of_words c.args.words.now).parameters c.args.shifts.now (number_at (result_list c.in-Ok.f)) ≡ c.same_shifts.result
compared c =
    let f = c.in-Ok.f in
    let a = to_z-of_z w64 f.first (search rules) in let b = to_z-of_z w64 f.second (search rules) in let d = to_z-of_z w64 f.third (search rules) in
    sym (c.same_shifts.ensures ∙ (λ i. same_shifts (c.parameter_count.ensures i) c.args.shifts.now (number_at (a i ∷ b i ∷ d i ∷ []))))

pub returns-in_default : goal.returns-in_default
returns-in_default c =
    let a = c.args in
    sym (kind_refused (group_of_words a.words.now) a.name.now a.shifts.now a.found _ c.in_default.is)

pub overflow_sub-k : goal.overflow_sub-k
overflow_sub-k c = fix_some c.args.words.now c.args.found _ c.in-Ok.is c.requires.0

pub names_grid-requires : goal.names_grid-requires
names_grid-requires c =
    let w = c.args.words.now in let e = c.in-Ok.is in
    (fix_grid w c.args.found _ e c.requires.0, fix_name w c.args.found _ e c.requires.0)

pub returns-then-not-names_grid : goal.returns-then-not-names_grid
returns-then-not-names_grid c =
    sym (kind_grid c.args.words.now c.args.found _ c.in-Ok.is c.requires.0 c.args.name.now c.args.shifts.now
    (sym c.names_grid.ensures ∙ c.if-not-names_grid.true))

pub same_shifts-requires : goal.same_shifts-requires
same_shifts-requires c =
    let e = c.parameter_count.ensures in let m = (accepted_head (group_of_words c.args.words.now) c.requires.0.accepted).parameters in let l = c.requires.1 in
    (omega arith, omega arith)

pub returns-then-not-same_shifts : goal.returns-then-not-same_shifts
returns-then-not-same_shifts c =
    let q = goal.at.returns-then-not-same_shifts c in
    sym (kind_shift c.args.words.now c.args.found _ c.in-Ok.is c.requires.0 c.args.name.now c.args.shifts.now
    (named q.Else-not-names_grid) (compared q.After-same_shifts ∙ c.if-not-same_shifts.true))

pub returns : goal.returns
returns c =
    let q = goal.at.returns c in
    sym (kind_none c.args.words.now c.args.found _ c.in-Ok.is c.requires.0 c.args.name.now c.args.shifts.now
    (named q.Else-not-names_grid) (compared q.After-same_shifts ∙ c.if-not-same_shifts.false))
