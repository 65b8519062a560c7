-- `line::put_numbers` meets its contract.
use mathlib.Core.List.{List, map}
use Prim.Native.Nat.{ℕ}
use lib.IntN.{ℤ}
use lib.ListN.{drop}
use Rattle.text.specs.Parts.{led}
use Rattle.text.specs.Decimal.{int_text}
use Rattle.text.proofs.PutLaws.{Left}
use Rattle.line.proofs.put_numbers.Given as goal

-- numbers as text, each behind its tab
abbrev pub text : List ℤ → List ℕ
text zs = led 9 (map int_text zs)

abbrev pub invariant-loop-z : goal.invariant-loop-z
invariant-loop-z l = Left l.at (text l.z-items) l.initial.out (text (drop l.z-index l.z-items)) l.next l.out
