-- What both calls tell: 0 exactly where the call is accepted, else a number of the table.
use Prim.Native.Nat.{ℕ}
use mathlib.Core.Path.{◌≡◌, refl}
use mathlib.Core.List.{List}
use native.Mathlib.Omega.{arith}
use lib.IntN.{ℤ}
use lib.ListN.{length}
use Rattle.text.specs.Put.{put}
use Rattle.group.specs.declared.Group.{Group}
use Rattle.group.specs.declared.Position.{Position}
use Rattle.group.specs.Refusals.{refuse_first, Told, refusal_of}
use Rattle.group.proofs.RefusalLaws.{verdicts, told_accepted, told_by, told_if, told_verdict, lent_kept, results}
use Rattle.judge.specs.Judge.{judged}
use Rattle.judge.proofs.TableLaws.{judged_told}
use Rattle.fix.specs.declared.Fix.{Fix}
use Rattle.lookup.specs.Lookup.{nodes_judged, looked}
use Rattle.lookup.proofs.TableLaws.{looked_told}
use Rattle.exercise.specs.Exercise.{point_at}
use Rattle.logs.specs.declared.Fault.{Fault}
use Rattle.logs.specs.Log.{log_judged}
use Rattle.logs.specs.Writing.{found_text, found_written, line_written, line_after}
use Rattle.std.specs.Prelude.{Option, Result, Ok, Err}
use Rattle.group.specs.declared.Refusal.{Refusal}

pub log_told : (g : Group) (nodes : List ℤ) (log : List ℕ) → Told ((f : Option Fault) × (log_judged g nodes log ≡ Ok f)) (refusal_of (log_judged g nodes log))
unfolding log_judged nodes_judged refuse_first
log_told g nodes log =
    told_verdict results (judged g) (judged_told g)
    (told_verdict results (nodes_judged g (length nodes)) (told_if verdicts _ 13 _ refl (told_accepted refl)) (told_accepted (_, refl)))

pub line_told : (g : Group) (nodes : List ℤ) (p : Position) (room : ℕ)
    → Told ((n : ℕ) × (line_written g nodes p room ≡ Ok n)) (refusal_of (line_written g nodes p room))
unfolding line_written
line_told g nodes p room = go (looked g nodes (point_at p) p.day) (looked_told g nodes (point_at p) p.day)
  where
    go : (l : Result Fix Refusal) → Told ((f : Fix) × (l ≡ Ok f)) (refusal_of l) → Told ((n : ℕ) × (found_written g p room l ≡ Ok n)) (refusal_of (found_written g p room l))
    go (Ok f) t = told_if results _ 12 0 refl (told_accepted (_, refl))
    go (Err r) t = told_by results r (t.refused (λ e. let q = e.1 in let z : ◌≡◌ {A = ℕ} 0 1 = cc in omega arith))

-- beside a refusal the output is as it was
pub line_kept : (g : Group) (nodes : List ℤ) (p : Position) (out : List ℕ) → ((refusal_of (line_written g nodes p (length out))).number ≡ 0 → ⊥) → line_after g nodes p out ≡ out
unfolding line_after line_written
line_kept g nodes p out =
    let l = looked g nodes (point_at p) p.day in
    lent_kept (refusal_of (found_written g p (length out) l)) (put 0 (found_text g p l) out) out
