-- `columns_agree` meets its contract.
use Prim.Native.Nat.{ℕ, ◌*◌, ◌/◌, ◌%◌}
use mathlib.Core.Path.{◌≡◌, ap}
use mathlib.Core.Bool.{Bool, ◌&&◌}
use native.Mathlib.Omega.{arith}
use borrow.Author.Tests.{eqb-true, eq-eqb}
use lib.Dec.{eqb}
use Rattle.numbers.proofs.Bools.{and_left, and_right, both, same_test}
use Rattle.exercise.specs.Exercise.{answer_words, columns_agree}
use Rattle.exercise.proofs.columns_agree.Goals as goal

-- six times a number, by the quotient and the remainder
sixfold : (m n : ℕ) → (eqb (m / answer_words) n && eqb (m % answer_words) 0) ≡ eqb m (n * answer_words)
sixfold m n =
    same_test (eqb (m / answer_words) n && eqb (m % answer_words) 0) (eqb m (n * answer_words))
    (λ e.
    let q = eqb-true (m / answer_words) n (and_left (eqb (m / answer_words) n) (eqb (m % answer_words) 0) e) in
    let r = eqb-true (m % answer_words) 0 (and_right (eqb (m / answer_words) n) (eqb (m % answer_words) 0) e) in
    eq-eqb m (n * answer_words) (omega arith))
    (λ e.
    let q = eqb-true m (n * answer_words) e in
    both (eq-eqb (m / answer_words) n (omega arith)) (eq-eqb (m % answer_words) 0 (omega arith)))

pub returns : goal.returns
unfolding columns_agree
returns c =
    let a = c.args in
    ap (λ (t : Bool). (eqb a.lats a.lons && eqb a.days a.lons) && t) (sixfold a.results a.lons)
