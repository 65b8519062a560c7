-- Order 7 of document 02 in its own words, of the factor.
use Rattle.std.specs.Prelude.{ℕ, ◌≤◌, ◌<◌, ◌≡◌, true, List, ℤ, pos, neg_ℤ, ◌-ℤ◌, ◌*ℤ◌, nat_abs, get_or, ◌≤ℤ◌, ◌<ℤ◌}
use Rattle.numbers.specs.Round.{round_z}
use Rattle.group.specs.declared.Step.{Step}
use Rattle.group.specs.declared.Ramp2.{Ramp2}
use Rattle.group.specs.declared.Shape.TheVariants as S
use Rattle.group.specs.declared.Function.{Function}
use Rattle.group.specs.Limits.{function_fits}
use Rattle.group.specs.Blank.{blank_function}
use Rattle.day.specs.Day.{shape_factor, function_factor, factor_of}

-- a `ramp2` counted from another day
abbrev pub counted_from : Ramp2 → ℤ → Ramp2
counted_from r reference = record { start = r.start; end = r.end; reference = reference; mult = r.mult }

-- '0 before the event and 1 from it on', at the day less at REF: MULT where the day is at or after EVENT and REF before it, −MULT the other
-- way round, and 0 where both are at or after it or both before it
pub record StepFactors (s : Step) (t : ℤ) : Type 0 where
  pub leapt : s.event ≤ℤ t → s.reference <ℤ s.event → shape_factor (S.Step s) t ≡ s.mult
  pub yet_to_leap : t <ℤ s.event → s.event ≤ℤ s.reference → shape_factor (S.Step s) t ≡ neg_ℤ s.mult
  pub both_after : s.event ≤ℤ t → s.event ≤ℤ s.reference → shape_factor (S.Step s) t ≡ pos 0
  pub both_before : t <ℤ s.event → s.reference <ℤ s.event → shape_factor (S.Step s) t ≡ pos 0

-- 'less that at REF': every kind but `ramp` gives 0 on its REF
abbrev pub ZeroOnReference : Type 0
ZeroOnReference =
    ((s : Step) → shape_factor (S.Step s) s.reference ≡ pos 0)
    × ((r : Ramp2) → shape_factor (S.Ramp2 r) r.reference ≡ pos 0)

-- where MULT is not below 0, the factor of a later day is not less
abbrev pub NeverFalls : Type 0
NeverFalls =
    (t u : ℤ) → t ≤ℤ u
    → ((s : Step) → pos 0 ≤ℤ s.mult → shape_factor (S.Step s) t ≤ℤ shape_factor (S.Step s) u)
    × ((r : Ramp2) → r.start <ℤ r.end → pos 0 ≤ℤ r.mult → shape_factor (S.Ramp2 r) t ≤ℤ shape_factor (S.Ramp2 r) u)

-- '0 up to START and 1 from END on, linear between', at the day less at REF, 'rounded once': from START to END it is MULT·(day − REF) / (END − START); a
-- day, and a REF, before START or after END counts as that end
pub record Ramp2Factors (r : Ramp2) (t : ℤ) : Type 0 where
  pub between : r.start ≤ℤ t → t ≤ℤ r.end → r.start ≤ℤ r.reference → r.reference ≤ℤ r.end
      → shape_factor (S.Ramp2 r) t ≡ round_z (r.mult *ℤ (t -ℤ r.reference)) (nat_abs (r.end -ℤ r.start))
  pub day_before : t ≤ℤ r.start → shape_factor (S.Ramp2 r) t ≡ shape_factor (S.Ramp2 r) r.start
  pub day_after : r.end ≤ℤ t → shape_factor (S.Ramp2 r) t ≡ shape_factor (S.Ramp2 r) r.end
  pub reference_before : r.reference ≤ℤ r.start → shape_factor (S.Ramp2 r) t ≡ shape_factor (S.Ramp2 (counted_from r r.start)) t
  pub reference_after : r.end ≤ℤ r.reference → shape_factor (S.Ramp2 r) t ≡ shape_factor (S.Ramp2 (counted_from r r.end)) t

-- a `ramp2` with REF at or before START is on every day the `ramp` START 0 END MULT
abbrev pub OldRamp : Type 0
OldRamp =
    (r : Ramp2) (t : ℤ) → r.start <ℤ r.end → r.reference ≤ℤ r.start
    → shape_factor (S.Ramp2 r) t ≡ shape_factor (S.Ramp (record { a = r.start; s0 = pos 0; b = r.end; s1 = r.mult })) t

-- 'the rule for no ramps means none of them'
abbrev pub NoFunctions : Type 0
NoFunctions = (functions : List Function) (t : ℤ) → factor_of functions 0 t ≡ pos 1000000

-- 'Ranges of the sum .. are shown once over all kinds': of one function, and of up to eight
abbrev pub OneRange : Type 0
OneRange = (f : Function) (t : ℤ) → function_fits f ≡ true → nat_abs (function_factor f t) ≤ 10000000

abbrev pub SumRange : Type 0
SumRange =
    (functions : List Function) (n : ℕ) (t : ℤ) → n ≤ 8
    → ((i : ℕ) → i < n → function_fits (get_or functions i blank_function) ≡ true) → nat_abs (factor_of functions n t) ≤ 80000000
