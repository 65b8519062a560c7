-- `fix_held` meets its contract: the rectangle's owner holds the point for its turn.
use Prim.Native.Nat.{ℕ, ◌+◌, ◌-◌, ◌≤◌}
use mathlib.Core.Path.{◌≡◌, sym, ap, ◌∙◌, subst}
use mathlib.Core.List.{List}
use native.Mathlib.Omega.{arith}
use native.Mathlib.Numerals.{add-one}
use lib.IntN.{ℤ, nat_abs}
use lib.ListN.{length}
use mir.Syntax.{w64}
use mir.ValLaws.{to_z-of_z}
use Rattle.std.specs.Prelude.{Option, Some}
use Rattle.group.specs.Numbers.{lon_turn, factor_most}
use Rattle.flat.specs.Frames.{frame_at}
use Rattle.choice.specs.declared.Holder.{Holder}
use Rattle.lookup.specs.Lookup.{fix_at}
use Rattle.lookup.specs.Flat.{offset_in, Chosen, fix_held, TurnChosen, HeldChosen}
use Rattle.lookup.proofs.fix_held.Goals as goal

-- what holds the point, taken apart
by_chosen : (frames : List ℕ) (np nodes x y : ℕ) {held : Option Holder} {h : Holder} → held ≡ Some h → HeldChosen frames held np nodes x y
    → TurnChosen frames h.owner h.shift np nodes x y
by_chosen frames np nodes x y e k = subst (λ (q : Option Holder). HeldChosen frames q np nodes x y) e k

pub overflow_add-at : goal.overflow_add-at
overflow_add-at c =
    let a = c.args in
    record { fits = (by_chosen a.frames.now a.np (length a.nodes.now) a.x a.y c.in-Some.is c.requires.0).most }

pub overflow_sub-at : goal.overflow_sub-at
overflow_sub-at c =
    let a = c.args in
    (by_chosen a.frames.now a.np (length a.nodes.now) a.x a.y c.in-Some.is c.requires.0).least

pub overflow_add-h : goal.overflow_add-h
overflow_add-h c =
    let a = c.args in
    let r = by_chosen a.frames.now a.np (length a.nodes.now) a.x a.y c.in-Some.is c.requires.0 in
    record { fits = omega (arith, r.chosen.number) }

pub fix_chosen-requires : goal.fix_chosen-requires
fix_chosen-requires c =
    let a = c.args in let r = by_chosen a.frames.now a.np (length a.nodes.now) a.x a.y c.in-Some.is c.requires.0 in (
      subst (λ (n : ℕ). Chosen a.frames.now n a.np (length a.nodes.now) (a.x + c.in-Some.h.shift - lon_turn) a.y) (sym (add-one c.in-Some.h.owner)) r.chosen,
      subst (λ (z : ℤ). nat_abs z ≤ factor_most) (sym (to_z-of_z w64 a.factor c.ranges.factor)) c.requires.1,
    )

pub returns-in-None : goal.returns-in-None
returns-in-None c =
    let a = c.args in
    ap (λ (q : Option Holder). fix_held a.frames.now q a.np a.nodes.now a.factor a.x a.y) (sym c.in-None.is)

pub returns-in-Some : goal.returns-in-Some
returns-in-Some c =
    let a = c.args in
    c.fix_chosen.ensures
    ∙ (λ i. fix_at (add-one c.in-Some.h.owner i) (λ k. offset_in (frame_at a.frames.now k) a.np (a.x + c.in-Some.h.shift - lon_turn) a.y) a.nodes.now (to_z-of_z w64 a.factor c.ranges.factor i))
    ∙ ap (λ (q : Option Holder). fix_held a.frames.now q a.np a.nodes.now a.factor a.x a.y) (sym c.in-Some.is)
