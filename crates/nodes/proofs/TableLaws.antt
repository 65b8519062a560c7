-- Loading tells 0 exactly where it is done, else a number of the table of refusals.
use Rattle.std.specs.Prelude.{Ok}
use Prim.Native.Nat.{ℕ}
use mathlib.Core.Path.{◌≡◌, refl}
use mathlib.Core.List.{List}
use lib.Ieee.{Float}
use Rattle.group.specs.Refusals.{refuse_first, Told, refusal_of}
use Rattle.group.proofs.RefusalLaws.{told_accepted, told_if, verdicts}
use Rattle.nodes.specs.Load.{loaded}

pub loaded_told : (q : ℕ) (flag : Float) (floats : List Float) (n : ℕ) → Told (loaded q flag floats n ≡ Ok tt) (refusal_of (loaded q flag floats n))
unfolding loaded refuse_first
loaded_told q flag floats n = told_if verdicts _ 2 0 refl (told_if verdicts _ 12 0 refl (told_if verdicts _ 11 _ refl (told_accepted refl)))
