-- The judge tells 0 exactly where it accepts a group, else a number of the table of refusals.
use Prim.Native.Nat.{◌≤◌}
use mathlib.Core.Path.{◌≡◌, refl, sym, ap, ◌∙◌}
use mathlib.Core.Bool.{true}
use native.Mathlib.Omega.{arith}
use Rattle.group.specs.declared.Group.{Group}
use Rattle.group.specs.declared.Refusal.{Refusal}
use Rattle.group.specs.Refusals.{in_table, refuse_first, Told, refusal_of}
use Rattle.group.proofs.RefusalLaws.{no_acceptance, chain_if, told_accepted, verdicts, told_if}
use Rattle.judge.specs.Judge.{judged_lines, judged_limits, judged_grids, judged_ranks, judged}
use Rattle.std.specs.Prelude.{Result, Ok, Err, ⊤}

pub judged_told : (g : Group) → Told (judged g ≡ Ok tt) (refusal_of (judged g))
unfolding judged judged_limits judged_lines judged_grids judged_ranks refuse_first
judged_told g =
    told_if verdicts _ 2 1 refl
    (told_if verdicts _ 2 1 refl
    (told_if verdicts _ 2 1 refl
    (told_if verdicts _ 2 _ refl
    (told_if verdicts _ 2 _ refl
    (told_if verdicts _ 3 _ refl
    (told_if verdicts _ 4 _ refl
    (told_if verdicts _ 5 _ refl (told_accepted refl))))))))

pub judged_table : (g : Group) (r : Refusal) → judged g ≡ Err r → in_table r.number ≡ true
judged_table g r e =
    ap (λ (v : Result ⊤ Refusal). in_table (refusal_of v).number) (sym e) ∙ (judged_told g).refused (λ a. no_acceptance r (sym e ∙ a))

-- it knows no number above 5
abbrev Most : Result ⊤ Refusal → Type 0
Most v = (refusal_of v).number ≤ 5

pub judged_most : (g : Group) → Most (judged g)
unfolding judged judged_limits judged_lines judged_grids judged_ranks refuse_first
judged_most g =
    chain_if Err Most _ 2 1 _ (omega arith)
    (chain_if Err Most _ 2 1 _ (omega arith)
    (chain_if Err Most _ 2 1 _ (omega arith)
    (chain_if Err Most _ 2 _ _ (omega arith)
    (chain_if Err Most _ 2 _ _ (omega arith)
    (chain_if Err Most _ 3 _ _ (omega arith)
    (chain_if Err Most _ 4 _ _ (omega arith)
    (chain_if Err Most _ 5 _ _ (omega arith) (omega arith))))))))
