-- Order 6 of our own log writer: it never refuses by 11.
use Prim.Native.Nat.{ℕ}
use mathlib.Core.Path.{◌≡◌}
use mathlib.Core.List.{List}
use native.Mathlib.Omega.{arith}
use lib.IntN.{ℤ}
use Rattle.group.specs.declared.Group.{Group}
use Rattle.group.specs.declared.Position.{Position}
use Rattle.group.proofs.RefusalLaws.{chain_if}
use Rattle.lookup.specs.Lookup.{looked}
use Rattle.lookup.proofs.Order6.{no_lookup_by_11}
use Rattle.exercise.specs.Exercise.{point_at}
use Rattle.logs.specs.Writing.{found_written, line_written}
use Rattle.logs.specs.Order6.{NoLineBy11}
use Rattle.std.specs.Prelude.{Result, Ok, Err}
use Rattle.group.specs.declared.Refusal.{Refusal}
use Rattle.fix.specs.declared.Fix.{Fix}
use Rattle.group.specs.Refusals.{refusal_of}

-- the writer hands a lookup's refusal on, and else knows 12 alone
by_lookup : (g : Group) (p : Position) (room : ℕ) (found : Result Fix Refusal) → ((refusal_of found).number ≡ 11 → ⊥)
    → (refusal_of (found_written g p room found)).number ≡ 11 → ⊥
by_lookup g p room (Err r) h = h
by_lookup g p room (Ok f) h =
    chain_if Err (λ (w : Result ℕ Refusal). (refusal_of w).number ≡ 11 → ⊥) _ 12 0 _ (λ e. omega arith) (λ e. omega arith)

pub no_line_by_11 : (g : Group) (nodes : List ℤ) (p : Position) (room : ℕ) → NoLineBy11 g nodes p room
unfolding line_written
no_line_by_11 g nodes p room h = by_lookup g p room (looked g nodes (point_at p) p.day) (no_lookup_by_11 g nodes (point_at p) p.day h)
