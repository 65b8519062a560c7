-- Order 7 of the lookup: a ramp2 that is the old ramp may be written as that ramp.
use Prim.Native.Nat.{ℕ}
use mathlib.Core.Path.{◌≡◌, refl, sym, ap, ◌∙◌}
use mathlib.Core.List.{List}
use lib.IntN.{ℤ}
use Rattle.group.specs.declared.Ramp2.{Ramp2}
use Rattle.group.specs.declared.Shape.{Shape}
use Rattle.group.specs.declared.Group.{Group}
use Rattle.group.specs.declared.Point.{Point}
use Rattle.group.specs.Record.{function_at}
use Rattle.judge.specs.Judge.{judged}
use Rattle.judge.specs.Order7.{WrittenAsRamp}
use Rattle.judge.proofs.Order7.{starts_below, by_function, as_ramp_accepted}
use Rattle.day.specs.Day.{shape_factor, function_factor, factor_of}
use Rattle.day.proofs.DayLaws.{factor_same}
use Rattle.day.proofs.Order7.{old_ramp}
use Rattle.ingroup.specs.InGroup.{chosen_in}
use Rattle.lookup.specs.Lookup.{looked_in}
use Rattle.lookup.specs.Order7.{OldRampLooked}
use Rattle.lookup.proofs.StageLaws.{looked_accepted}
use Rattle.std.specs.Prelude.{Ok}

module _ (g h : Group) (k : ℕ) (r : Ramp2) (e : judged g ≡ Ok tt) (w : WrittenAsRamp g h k r) where
  -- each function has the same factor
  factor_each : (t : ℤ) (j : ℕ) → function_factor (function_at h j) t ≡ function_factor (function_at g j) t
  factor_each t j = by_function g h k r e w (λ f. function_factor f t ≡ function_factor (function_at g j) t) j refl same
    where
      same : j ≡ k → function_factor (function_at h k) t ≡ function_factor (function_at g j) t
      same q =
          ap (λ (s : Shape). shape_factor s t) w.ramp ∙ sym (old_ramp r t (starts_below g h k r e w) w.early)
          ∙ sym (ap (λ (s : Shape). shape_factor s t) w.ramp2) ∙ sym (ap (λ (i : ℕ). function_factor (function_at g i) t) q)

  factor_all : (t : ℤ) → factor_of h.function h.functions t ≡ factor_of g.function g.functions t
  factor_all t = ap (λ (n : ℕ). factor_of h.function n t) w.functions ∙ factor_same h.function g.function g.functions t (λ j l. factor_each t j)

  looked_in_lem : (nodes : List ℤ) (p : Point) (t : ℤ) → looked_in h nodes p t ≡ looked_in g nodes p t
  unfolding looked_in chosen_in
  looked_in_lem nodes p t = rw (w.grid, w.grids, w.parameters, factor_all t)

pub old_ramp_looked : (g : Group) → OldRampLooked g
old_ramp_looked g e h k r w =
    record {
      accepted = as_ramp_accepted g h k r e w;
      answer = λ nodes p t.
          looked_accepted h nodes p t (as_ramp_accepted g h k r e w) ∙ looked_in_lem g h k r e w nodes p t ∙ sym (looked_accepted g nodes p t e);
    }
