-- `text::lacks` meets its contract.
use Prim.Native.Nat.{ℕ, ◌+◌}
use mathlib.Core.Path.{◌≡◌, sym, ap, ◌∙◌}
use mathlib.Core.Bool.{Bool, true, not, ◌&&◌}
use mathlib.Core.List.{List}
use native.Mathlib.Omega.{arith}
use lib.Dec.{eqb}
use lib.ListN.{get_or}
use borrow.Author.Tests.{eq-eqb}
use Rattle.numbers.proofs.Bools.{and_left, and_right, true_false}
use Rattle.numbers.proofs.Nearest.{three_ways}
use Rattle.text.specs.Parts.{Lacks}
use Rattle.text.proofs.lacks.Goals as goal

-- one byte more
more : (c : ℕ) (s : List ℕ) (a i : ℕ) (none : Bool) → (none ≡ true → Lacks c s a i) → (none && not (eqb (get_or s i 0) c)) ≡ true → Lacks c s a (i + 1)
more c s a i none f t k h l e =
    three_ways k i (λ m. f (and_left none _ t) k h m e)
    (λ m. true_false (and_right none _ t) (ap not (eq-eqb (get_or s i 0) c (ap (λ (j : ℕ). get_or s j 0) (sym m) ∙ e))))
    (λ m. omega arith)

pub loop-k-init : goal.loop-k-init
loop-k-init c = λ t k h l. absurd (omega arith)

pub loop-k-preserved : goal.loop-k-preserved
loop-k-preserved c =
    let a = c.args in
    more a.c a.s.now a.a c.loop-k.k c.loop-k.none c.loop-k.invariant
