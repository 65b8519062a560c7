-- `judge_into` meets its contract, stage by stage.
use Prim.Native.Nat.{ℕ, ◌+◌}
use mathlib.Core.Path.{◌≡◌, ◌∙◌, sym, ap}
use mathlib.Core.Bool.{not}
use native.Mathlib.Omega.{arith}
use Rattle.std.specs.Prelude.{Result, Err, Ok, ⊤}
use Rattle.std.proofs.lemmas.Result.{err_from_is_err_and}
use Rattle.numbers.specs.First.{some}
use Rattle.group.specs.declared.Group.{Group}
use Rattle.group.specs.declared.Refusal.{Refusal}
use Rattle.group.specs.Numbers.{functions_most, grids_most}
use Rattle.group.specs.Refusals.{refuse_if}
use Rattle.group.proofs.RefusalLaws.{no_acceptance, if_here, if_past, at_here, at_past}
use Rattle.abi.specs.Abi.{group_of_words}
use Rattle.judge.specs.Judge.{unused_function, unused_grid, judged_lines, judged_limits, judged_grids, judged_ranks, judged}
use Rattle.judge.specs.Rules.{HeadLimits, judged_from}
use Rattle.judge.proofs.LimitLaws.{head_sized}
use Rattle.judge.proofs.JudgeLaws.{unused_functions, bad_functions, unused_grids, refused_at, passed_at}
use Rattle.judge.proofs.judge_into.Goals as goal
use Rattle.judge.proofs.judge_into.Goals.{Else-not-head_fits, Else-some_unused_function, Else-some_unused_grid}

-- what is judged behind the group line, behind the unused functions, and behind the unused grids
abbrev lines : Group → Result ⊤ Refusal
lines g = judged_lines g (judged_grids g (judged_ranks g (Ok tt)))

abbrev from_grids : Group → Result ⊤ Refusal
from_grids g = refuse_if Err (some (unused_grid g) grids_most) 2 1 (lines g)

abbrev from_functions : Group → Result ⊤ Refusal
from_functions g = refuse_if Err (some (unused_function g) functions_most) 2 1 (from_grids g)

-- a group line within its limits
limits : (c : Else-not-head_fits) → HeadLimits (group_of_words c.args.words.now)
limits c = head_sized _ (sym c.if-not-head_fits.ensures)

past_head : (c : Else-not-head_fits) → judged (group_of_words c.args.words.now) ≡ from_functions (group_of_words c.args.words.now)
unfolding judged judged_limits
past_head c = if_past Err _ 2 1 _ (ap not (sym c.if-not-head_fits.ensures))

-- unused entries that are all blank
past_functions : (c : Else-some_unused_function) → from_functions (group_of_words c.args.words.now) ≡ from_grids (group_of_words c.args.words.now)
past_functions c = if_past Err _ 2 1 _ (sym (unused_functions c.args.words.now c.function_count-m.ensures) ∙ sym c.if-some_unused_function.ensures)

past_grids : (c : Else-some_unused_grid) → from_grids (group_of_words c.args.words.now) ≡ lines (group_of_words c.args.words.now)
past_grids c = if_past Err _ 2 1 _ (sym (unused_grids c.args.words.now c.grid_count.ensures) ∙ sym c.if-some_unused_grid.ensures)

pub returns-then-not-head_fits : goal.returns-then-not-head_fits
unfolding judged judged_limits
returns-then-not-head_fits c = (sym (if_here Err _ 2 1 _ (ap not (sym c.if-not-head_fits.ensures))), λ e. absurd (no_acceptance _ e))

pub some_unused_function-requires : goal.some_unused_function-requires
some_unused_function-requires c =
    let h = limits (goal.at.some_unused_function-requires c).Else-not-head_fits in omega (arith, c.function_count-m.ensures, h.functions)

pub returns-then-some_unused_function : goal.returns-then-some_unused_function
returns-then-some_unused_function c =
    let q = goal.at.returns-then-some_unused_function c in (
      sym (past_head q.Else-not-head_fits
          ∙ if_here Err _ 2 1 _ (sym (unused_functions c.args.words.now c.function_count-m.ensures) ∙ sym c.if-some_unused_function.ensures)),
      λ e. absurd (no_acceptance _ e),
    )

pub some_unused_grid-requires : goal.some_unused_grid-requires
some_unused_grid-requires c =
    let h = limits (goal.at.some_unused_grid-requires c).Else-not-head_fits in omega (arith, c.grid_count.ensures, h.grids)

pub returns-then-some_unused_grid : goal.returns-then-some_unused_grid
returns-then-some_unused_grid c =
    let q = goal.at.returns-then-some_unused_grid c in (
      sym (past_head q.Else-not-head_fits ∙ past_functions q.Else-some_unused_function
          ∙ if_here Err _ 2 1 _ (sym (unused_grids c.args.words.now c.grid_count.ensures) ∙ sym c.if-some_unused_grid.ensures)),
      λ e. absurd (no_acceptance _ e),
    )

pub first_bad_function-requires : goal.first_bad_function-requires
first_bad_function-requires c =
    let h = limits (goal.at.first_bad_function-requires c).Else-not-head_fits in omega (arith, c.function_count-m.ensures, h.functions)

pub refuse_at-requires : goal.refuse_at-requires
refuse_at-requires c =
    let h = limits (goal.at.refuse_at-requires c).Else-not-head_fits in omega (arith, c.function_count-m.ensures, h.functions)

pub returns-in_err-refuse_at : goal.returns-in_err-refuse_at
unfolding judged_lines
returns-in_err-refuse_at c =
    let q = goal.at.returns-in_err-refuse_at c in let m = c.function_count-m.ensures in let h = limits q.Else-not-head_fits in
    let p = err_from_is_err_and c.from_residual.result c.from_residual.ensures.1 in
    rw (p.1, p.2) (
      refused_at _ _ _ _ c.in_err-refuse_at.ensures
          (λ l. at_here Err _ _ _ _ _ _ (bad_functions c.args.words.now m (omega (arith, m, h.functions)) c.first_bad_function.ensures) (omega (arith, m, l))
          ∙ sym (past_head q.Else-not-head_fits ∙ past_functions q.Else-some_unused_function ∙ past_grids q.Else-some_unused_grid)),
      λ e. absurd (no_acceptance _ e),
    )

pub overflow_add-m : goal.overflow_add-m
overflow_add-m c =
    let h = limits (goal.at.overflow_add-m c).Else-not-head_fits in omega (arith, c.function_count-m.ensures, h.functions)

pub judge_grids-requires : goal.judge_grids-requires
judge_grids-requires c =
    let h = limits (goal.at.judge_grids-requires c).Else-not-head_fits in (h, omega (arith, c.function_count-m.ensures, h.functions), c.requires)

pub returns : goal.returns
unfolding judged_lines judged_from
returns c =
    let g = group_of_words c.args.words.now in let q = goal.at.returns c in
    let m = c.function_count-m.ensures in let h = limits q.Else-not-head_fits in let j = c.judge_grids.ensures in (
      j.0
          ∙ ap (λ (n : ℕ). judged_from (n + 2) g) m
          ∙ sym (past_head q.Else-not-head_fits ∙ past_functions q.Else-some_unused_function ∙ past_grids q.Else-some_unused_grid
          ∙ at_past Err _ _ _ _ _ _ (bad_functions c.args.words.now m (omega (arith, m, h.functions)) c.first_bad_function.ensures)
          (omega (arith, m, passed_at _ _ _ _ c.in_ok-refuse_at.ensures))),
      j.1,
    )
