-- The screen tells 0 exactly where it shows a fix, else a number of the table of refusals.
use Rattle.std.proofs.Common.{◌≡◌, ℕ, Result, Ok, Err, Bool, true, false, cond, refl}
use Rattle.group.specs.declared.Refusal.{Refusal}
use Rattle.group.specs.Refusals.{refusal, in_table, Told, refusal_of}
use Rattle.group.proofs.RefusalLaws.{results, told_accepted, told_by, told_if}
use Rattle.fix.specs.declared.Fix.{Fix}
use Rattle.screen.specs.declared.Shifts.{Shifts}
use Rattle.screen.specs.Screen.{handed_on, shown, answer_of}

handed : (r : Refusal) (b : Bool) → in_table r.number ≡ b → in_table (cond b r (refusal 2 0)).number ≡ true
handed r true h = h
handed r false h = refl

of_shown : (found : Result Fix Refusal) (q np : ℕ) → Told ((f : Shifts) × (shown found q np ≡ Ok f)) (refusal_of (shown found q np))
unfolding shown
of_shown (Ok f) q np = told_accepted (_, refl)
of_shown (Err r) q np = told_by results (handed_on r) (handed r (in_table r.number) refl)

pub answer_told : (found : Result Fix Refusal) (q np : ℕ) → Told ((f : Shifts) × (answer_of found q np ≡ Ok f)) (refusal_of (answer_of found q np))
unfolding answer_of
answer_told found q np = told_if results _ 2 0 refl (of_shown found q np)
