-- The numbers of a fault tell it: 0 and 0 are none, and each kind has its own.
use Prim.Native.Nat.{ℕ, suc}
use mathlib.Core.Path.{◌≡◌, refl, ap}
use native.Mathlib.Omega.{arith}
use Rattle.std.specs.Prelude.{Option, Some, None}
use Rattle.logs.specs.declared.Fault.{Fault}
use Rattle.logs.specs.declared.Kind.{Kind}
use Rattle.logs.specs.declared.Kind.TheVariants as K
use Rattle.logs.specs.Kinds.{Failed, passes, kind_number, failed_number}
use Rattle.logs.specs.Log.{bad_line, FaultNumbers, fault, no_fault, fault_told}

pub kind_some : (k : Kind) → kind_number k ≡ 0 → ⊥
kind_some K.Form e = omega arith
kind_some K.Lookup e = omega arith
kind_some K.Grid e = omega arith
kind_some K.Shift e = omega arith

-- ---- of a line

pub failed_none : (o : Failed) → failed_number o ≡ 0 → o ≡ passes
failed_none None e = refl
failed_none (Some k) e = absurd (kind_some k e)

pub failed_some : (o : Failed) (n : ℕ) → failed_number o ≡ n → (n ≡ 0 → ⊥) → (k : Kind) × (o ≡ Some k) × (kind_number k ≡ n)
failed_some None n e z = absurd (z (omega arith))
failed_some (Some k) n e z = (k, refl, e)

-- ---- of a log

pub told_none : (o : Option Fault) → fault_told o ≡ no_fault → o ≡ None
told_none None e = refl
told_none (Some f) e = absurd (kind_some f.kind (ap (λ (x : FaultNumbers). x.kind) e))

pub told_some : (o : Option Fault) (n m : ℕ) → fault_told o ≡ fault (suc n) m → (k : Kind) × (o ≡ bad_line (suc n) k) × (kind_number k ≡ m)
told_some None n m e = absurd (let q = ap (λ (x : FaultNumbers). x.line) e in omega arith)
told_some (Some f) n m e = (f.kind, (λ i. bad_line (ap (λ (x : FaultNumbers). x.line) e i) f.kind), ap (λ (x : FaultNumbers). x.kind) e)
