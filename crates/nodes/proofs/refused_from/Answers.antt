-- `refused_from`: none from a up to j is refused.
use mathlib.Core.Path.{◌≡◌, refl, sym, ◌∙◌, subst}
use mathlib.Core.Bool.{false}
use Prim.Native.Nat.{ℕ}
use native.Mathlib.Omega.{arith}
use lib.Ieee.{nan}
use lib.ListN.{get_or}
use Rattle.numbers.proofs.Nearest.{three_ways}
use Rattle.nodes.specs.Load.{refused_float}
use Rattle.nodes.proofs.Plain.{plain_passes}
use Rattle.nodes.proofs.refused_from.Goals as goal

pub loop-j-init : goal.loop-j-init
loop-j-init c = (omega arith, omega arith, λ k h l. absurd (omega arith))

pub returns-then-all_plain : goal.returns-then-all_plain
returns-then-all_plain c =
    let a = c.args in
    let p = c.if-all_plain.ensures refl in
    record {
      from = c.requires.1;
      to = omega arith;
      clear = λ k h l. plain_passes a.q a.flag (get_or a.floats.now k nan) c.requires.0 (p k h l);
      found = λ l. absurd (omega arith);
    }

pub returns-then-refuses : goal.returns-then-refuses
returns-then-refuses c =
    let v = c.loop-j.invariant in
    record { from = v.0; to = v.1; clear = v.2; found = λ l. sym c.refuses.ensures ∙ c.if-refuses.true }

pub loop-j-preserved : goal.loop-j-preserved
loop-j-preserved c =
    let a = c.args in (
      omega arith,
      omega arith,
      λ k h m.
          three_ways k c.loop-j.j (c.loop-j.invariant.2 k h)
          (λ n. subst (λ (i : ℕ). refused_float a.q a.flag (get_or a.floats.now i nan) ≡ false) (sym n) (sym c.refuses.ensures ∙ c.if-refuses.false))
          (λ n. absurd (omega arith)),
    )

pub returns : goal.returns
returns c = let v = c.loop-j.invariant.2 in record { from = c.requires.1; to = omega arith; clear = λ k h l. v k h (omega arith); found = λ l. absurd (omega arith) }
