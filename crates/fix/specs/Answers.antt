-- Document 01's numbers of a lookup's answer: its refusal, the grid's number and the results, which are 0 beside a refusal.
use Rattle.std.specs.Prelude.{ℕ, zero, suc, ℤ, pos, Result, Ok, Err}
use Rattle.group.specs.declared.Refusal.{Refusal}
use Rattle.group.specs.Refusals.{no_refusal}
use Rattle.fix.specs.declared.Fix.{Fix}

abbrev pub lookup_grid : Result Fix Refusal → ℕ
lookup_grid (Ok f) = f.grid
lookup_grid (Err r) = 0

-- result p of a fix, from 0
abbrev pub result_in : Fix → ℕ → ℤ
result_in f zero = f.first
result_in f (suc zero) = f.second
result_in f (suc (suc zero)) = f.third
result_in f (suc (suc (suc p))) = pos 0

abbrev pub results_of : Result Fix Refusal → ℕ → ℤ
results_of (Ok f) p = result_in f p
results_of (Err r) p = pos 0
