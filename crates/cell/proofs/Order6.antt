-- Order 6 of a cell's corners: each holds the mark or a node value.
use Prim.Native.Nat.{suc, ◌<◌}
use mathlib.Core.Path.{◌≡◌, refl, sym, ap, ◌∙◌}
use mathlib.Core.Bool.{true, not, ◌&&◌, ◌||◌, and-false}
use native.Mathlib.Decide.{dec_lt}
use native.Mathlib.Omega.{arith}
use borrow.Author.Tests.{leb-true, le-leb, lt-leb}
use lib.Dec.{leb}
use lib.IntN.{ℤ, pos, negsuc}
use lib.Signed.{le_z}
use mir.Syntax.{w32}
use mir.Val.{SFits}
use Rattle.numbers.proofs.Bools.{and_left}
use Rattle.numbers.proofs.OrderLaws.{within_test}
use Rattle.group.specs.Numbers.{value_most, mark, is_mark}
use Rattle.cell.specs.declared.Weights.{Weights}
use Rattle.cell.specs.declared.Corners.{Corners}
use Rattle.cell.specs.Cell.{used, is_beyond, used_some}
use Rattle.cell.specs.Order6.{in_word, MarkOrValue}

pub mark_or_value : (v : ℤ) → MarkOrValue v
mark_or_value (pos n) h = rw h refl
mark_or_value (negsuc n) h = go (dec_lt n value_most)
  where
    go : Dec (n < value_most) → is_mark (negsuc n) ≡ is_beyond (negsuc n)
    go (yes l) =
        rw (lt-leb value_most n l) (and-false (le_z mark (negsuc n)))
        ∙ sym (ap not (within_test value_most (negsuc n) ∙ le-leb (suc n) value_most (omega arith)))
    go (no l) =
        let m = leb-true n value_most (and_left (leb n value_most) true h) in
        rw (le-leb n value_most m, le-leb value_most n (omega arith)) refl
        ∙ sym (ap not (within_test value_most (negsuc n) ∙ lt-leb (suc n) value_most (omega arith)))

-- what an i32 holds
pub in_word_lem : (v : ℤ) → SFits w32 v → in_word v ≡ true
in_word_lem (pos n) h = let m = h.sfits in le-leb n value_most (omega arith)
in_word_lem (negsuc n) h = let m = h.sfits in rw (le-leb n value_most (omega arith)) refl

pub used_either : (w : Weights) (v : Corners) → in_word v.v00 ≡ true → in_word v.v10 ≡ true → in_word v.v01 ≡ true → in_word v.v11 ≡ true
    → used_some is_mark w v ≡ used_some is_beyond w v
unfolding used_some
used_either w v a b c d i =
    (used w.w00 && mark_or_value v.v00 a i) || (used w.w10 && mark_or_value v.v10 b i)
    || (used w.w01 && mark_or_value v.v01 c i) || (used w.w11 && mark_or_value v.v11 d i)
