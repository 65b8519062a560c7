-- `refuses`: marked, or judged by its size.
use mathlib.Core.Path.{sym, ap, ◌∙◌, subst}
use mathlib.Core.Bool.{not}
use lib.Dec.{T, ltb}
use lib.Ieee.{Float, is_nan}
use Rattle.group.specs.Numbers.{value_most}
use Rattle.nodes.specs.Size.{size_of}
use Rattle.nodes.proofs.Marks.{Read, unmarked}
use Rattle.nodes.proofs.Steps.{refused_size}
use Rattle.nodes.proofs.refuses.Goals as goal
use Rattle.nodes.proofs.refuses.Goals.{Then-not-marked}

read : (c : Then-not-marked) → Read c.args.x
read c = unmarked _ _ c.well_formed.0.1 (sym c.if-not-marked.ensures)

pub float_to_bits-x : goal.float_to_bits-x
float_to_bits-x c = (read c).number

pub size-requires : goal.size-requires
size-requires c = (c.requires, subst (λ (x : Float). T (not (is_nan x))) (sym (read c).back) (read c).number)

pub returns-then-not-marked : goal.returns-then-not-marked
returns-then-not-marked c =
    let a = c.args in
    let m = sym c.if-not-marked.ensures in
    ap (ltb value_most) (c.size.ensures ∙ ap (size_of a.q) (unmarked _ _ c.well_formed.0.1 m).back) ∙ refused_size a.q a.flag a.x m
