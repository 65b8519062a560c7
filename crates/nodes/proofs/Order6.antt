-- Order 6 of loading: which floats are refused, and that none rounds to the mark.
use Prim.Native.Nat.{ℕ, ◌<◌}
use mathlib.Core.Path.{◌≡◌, sym, ap, ◌∙◌}
use mathlib.Core.Bool.{true, not, ◌||◌}
use mathlib.Core.Logic.{inl, inr, ⊎_elim}
use native.Mathlib.Omega.{arith}
use borrow.Author.Tests.{lt-leb, leb-false, not-true}
use lib.IntN.{nat_abs}
use lib.Ieee.{Float}
use Rattle.numbers.proofs.Bools.{and_left, and_right, both, or_cases, or_left, or_right}
use Rattle.numbers.proofs.OrderLaws.{within_test}
use Rattle.group.specs.Numbers.{value_most, mark, value_fits}
use Rattle.nodes.specs.Load.{marks, steps, infinite, refused_float}
use Rattle.nodes.specs.Order6.{FloatsRefused, NeverTheMark}

module _ (q : ℕ) (flag x : Float) where
  beyond : not (value_fits (steps q x)) ≡ true → value_most < nat_abs (steps q x)
  beyond e = leb-false (nat_abs (steps q x)) value_most (sym (within_test value_most (steps q x)) ∙ not-true (value_fits (steps q x)) e)

  by_size : value_most < nat_abs (steps q x) → not (value_fits (steps q x)) ≡ true
  by_size h = ap not (within_test value_most (steps q x) ∙ lt-leb (nat_abs (steps q x)) value_most h)

  pub floats_refused : FloatsRefused q flag x
  unfolding refused_float
  floats_refused =
      let m = not (marks flag x) in let i = infinite x in let b = not (value_fits (steps q x)) in (
        λ e. (not-true (marks flag x) (and_left m (i || b) e), ⊎_elim inl (λ t. inr (beyond t)) (or_cases i b (and_right m (i || b) e))),
        λ s. both (ap not s.0) (⊎_elim (λ t. or_left b t) (λ h. or_right i (by_size h)) s.1),
      )

  pub never_the_mark : NeverTheMark q flag x
  never_the_mark h e =
      let s : nat_abs (steps q x) ≡ nat_abs mark = ap nat_abs e in
      floats_refused.1 (h, inr (omega arith))
