-- A float's steps by its sign and its size.
use mathlib.Core.Path.{◌≡◌, ap, ◌∙◌, subst}
use mathlib.Core.Bool.{false, not}
use Prim.Native.Nat.{ℕ, suc, ◌*◌, ◌^◌, ◌≤◌, ◌<◌, min}
use native.Mathlib.Nat.{min-eq_left, le-min}
use native.Mathlib.Omega.{arith}
use lib.Dec.{T, leb, ltb, lit≤}
use lib.IntN.{nat_abs}
use lib.Ieee.{Float, nan, inf, fin, is_nan, up, down}
use borrow.Author.Tests.{lt-ltb, le-ltb, le-leb, lt-leb, ltb-false}
use Rattle.numbers.proofs.Nearest.{three_ways}
use Rattle.numbers.proofs.OrderLaws.{within_test}
use Rattle.group.specs.Numbers.{value_most}
use Rattle.nodes.specs.Load.{signed, marks, steps, refused_float, node_of}
use Rattle.nodes.specs.Size.{size_of}
use Rattle.nodes.proofs.Signed.{round_signed, size_rounded}
use Rattle.nodes.proofs.Fields.{sign}

-- the limit does not see how far beyond it a size lies
cut : (n : ℕ) → ltb value_most (min n (2 ^ 31)) ≡ not (leb n value_most)
cut n = three_ways n (suc value_most)
    (λ h. let m : n ≤ 2 ^ 31 = omega arith in rw (min-eq_left m, le-ltb value_most n (omega arith), le-leb n value_most (omega arith)))
    (λ h. rw h)
    (λ h.
    let l : value_most < n = omega arith in
    let m : value_most < min n (2 ^ 31) = le-min l (lit≤ tt) in
    rw (lt-ltb value_most (min n (2 ^ 31)) m, lt-leb n value_most l))

pub uncut : (n : ℕ) → min n (2 ^ 31) ≤ value_most → min n (2 ^ 31) ≡ n
uncut n l = three_ways n (2 ^ 31) (λ h. min-eq_left (omega arith)) (λ h. min-eq_left (omega arith))
    (λ h. let m : 2 ^ 31 ≤ min n (2 ^ 31) = le-min (omega arith) (omega arith) in absurd (omega arith))

-- what is not marked is refused by its size
pub refused_size : (q : ℕ) (flag x : Float) → marks flag x ≡ false → ltb value_most (size_of q x) ≡ refused_float q flag x
unfolding refused_float size_of marks is_nan
refused_size q flag nan h = absurd (subst T h tt)
refused_size q flag (inf s) h = rw h
refused_size q flag (fin s m e) h = cut (nat_abs (steps q (fin s m e))) ∙ rw (h, within_test value_most)

pub size_limit : (q : ℕ) (flag x : Float) → marks flag x ≡ false → refused_float q flag x ≡ false → size_of q x ≤ value_most
size_limit q flag x h r = ltb-false value_most (size_of q x) (refused_size q flag x h ∙ r)

-- and otherwise loads as its sign and its size
pub node_size : (q : ℕ) (flag x : Float) → marks flag x ≡ false → refused_float q flag x ≡ false → signed (sign x) (size_of q x) ≡ node_of q flag x
unfolding node_of steps size_of marks is_nan
node_size q flag x h r = go x h (size_limit q flag x h r)
  where
    go : (x : Float) → marks flag x ≡ false → size_of q x ≤ value_most → signed (sign x) (size_of q x) ≡ node_of q flag x
    go nan h l = absurd (subst T h tt)
    go (inf s) h l = absurd (omega arith)
    go (fin s m e) h l =
        ap (signed s) (uncut (nat_abs (steps q (fin s m e))) l ∙ size_rounded s (m * up e * 2 ^ q) (down e)) ∙ rw (h, round_signed)
