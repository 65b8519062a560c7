-- `all_plain`: the floats before i are plain where `all` says so.
use mathlib.Core.Path.{◌≡◌, refl, sym, ◌∙◌, subst}
use mathlib.Core.List.{List}
use mathlib.Core.Bool.{Bool, true, ◌&&◌}
use Prim.Native.Nat.{ℕ, ◌+◌}
use native.Mathlib.Omega.{arith}
use lib.Ieee.{Float, nan}
use lib.ListN.{get_or}
use Rattle.numbers.proofs.Bools.{and_left, and_right}
use Rattle.numbers.proofs.Nearest.{three_ways}
use Rattle.nodes.specs.Plain.{plain_float, AllPlain}
use Rattle.nodes.proofs.all_plain.Goals as goal

-- one float more
more : (hi flag : Float) (l : List Float) (a i : ℕ) (all t : Bool) → (all ≡ true → AllPlain hi flag l a i) → t ≡ plain_float hi flag (get_or l i nan) → (all && t) ≡ true → AllPlain hi flag l a (i + 1)
more hi flag l a i all t f p e k h m =
    three_ways k i (f (and_left all t e) k h)
    (λ n. subst (λ (j : ℕ). plain_float hi flag (get_or l j nan) ≡ true) (sym n) (sym p ∙ and_right all t e))
    (λ n. absurd (omega arith))

pub loop-i-init : goal.loop-i-init
loop-i-init c = (omega arith, omega arith, λ t k h l. absurd (omega arith))

pub loop-i-preserved : goal.loop-i-preserved
unfolding plain_float
loop-i-preserved c =
    let a = c.args in
    (omega arith, omega arith, more c.greatest-hi.result a.flag a.floats.now a.a c.loop-i.i c.loop-i.all _ c.loop-i.invariant.2 refl)

pub returns : goal.returns
returns c =
    let a = c.args in
    λ t k h l. subst (λ (hi : Float). plain_float hi a.flag (get_or a.floats.now k nan) ≡ true) c.greatest-hi.ensures (c.loop-i.invariant.2 t k h (omega arith))
