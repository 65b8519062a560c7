-- Order 7 of document 02 in its own words, of what the judge refuses by 2.
use Rattle.std.specs.Prelude.{ℕ, ◌+◌, ◌<◌, ◌≤◌, ◌≡◌, Bool, true, false, ◌&&◌, ◌||◌, List, ℤ, pos, ◌≤ℤ◌, ◌<ℤ◌, Err}
use Rattle.group.specs.declared.Ramp2.{Ramp2}
use Rattle.group.specs.declared.Shape.TheVariants as S
use Rattle.group.specs.declared.Group.{Group}
use Rattle.group.specs.Record.{function_at}
use Rattle.group.specs.Blank.{blank_function}
use Rattle.group.specs.Numbers.{functions_most, grids_most, is_zero}
use Rattle.group.specs.Limits.{function_fits, head_fits}
use Rattle.group.specs.Refusals.{refusal}
use Rattle.abi.specs.Words.{function_index}
use Rattle.abi.specs.Abi.{is_kind, function_of, number_at, group_of_words}
use Rattle.judge.specs.Judge.{unused_function, unused_grid, judged}

-- line 1 and the functions before function k pass 2
pub record PassBefore (g : Group) (k : ℕ) : Type 0 where
  pub head : head_fits g ≡ true
  pub no_function : (j : ℕ) → j < functions_most → unused_function g j ≡ false
  pub no_grid : (j : ℕ) → j < grids_most → unused_grid g j ≡ false
  pub function : (j : ℕ) → j < k → function_fits (function_at g j) ≡ true

-- function k is refused by 2 at its line; where the lines before it don't pass, at the first of these: the least place counts
pub record RefusedBy2 (g : Group) (k : ℕ) : Type 0 where
  pub here : PassBefore g k → judged g ≡ Err (refusal 2 (k + 2))
  pub before : (place : ℕ) × (1 ≤ place) × (place ≤ k + 2) × (judged g ≡ Err (refusal 2 place))

-- 'START below END (else 2)'
abbrev pub StartBelowEnd : Group → Type 0
StartBelowEnd g = (k : ℕ) (r : Ramp2) → k < g.functions → (function_at g k).shape ≡ S.Ramp2 r → (r.start <ℤ r.end → ⊥) → RefusedBy2 g k

-- 'an unused entry is a ramp of zeros': all else there is 2 at line 1
abbrev pub UnusedIsBlank : Group → Type 0
UnusedIsBlank g = (k : ℕ) → k < functions_most → g.functions ≤ k → (function_at g k ≡ blank_function → ⊥) → judged g ≡ Err (refusal 2 1)

-- in C kind 0 is the `ramp` of the four numbers, 1 the `step` of three, whose fourth is 0, and 2 the `ramp2` of four
pub record KindsInC (a b c d : ℤ) : Type 0 where
  pub ramp : (function_of (pos 0) a b c d).shape ≡ S.Ramp (record { a = a; s0 = b; b = c; s1 = d })
  pub step : (function_of (pos 1) a b c (pos 0)).shape ≡ S.Step (record { event = a; reference = b; mult = c })
  pub ramp2 : (function_of (pos 2) a b c d).shape ≡ S.Ramp2 (record { start = a; end = b; reference = c; mult = d })

-- these are the kinds, and a step has no fourth number
abbrev pub of_kind : (kind fourth : ℤ) → Bool
of_kind kind fourth = is_kind 0 kind || (is_kind 1 kind && is_zero fourth) || is_kind 2 kind

-- in a list of numbers: any other is 2 at its line, at 1 in an unused entry
abbrev pub NoOtherKind : List ℤ → Type 0
NoOtherKind ns = (k : ℕ) → k < functions_most → of_kind (number_at ns (function_index k 0)) (number_at ns (function_index k 4)) ≡ false
    → (k < (group_of_words ns).functions → RefusedBy2 (group_of_words ns) k)
    × ((group_of_words ns).functions ≤ k → judged (group_of_words ns) ≡ Err (refusal 2 1))

-- the group h is g, but for function k: a `ramp2` with REF at or before START in g, the old `ramp` START 0 END MULT in h
pub record WrittenAsRamp (g h : Group) (k : ℕ) (r : Ramp2) : Type 0 where
  pub among : k < g.functions
  pub ramp2 : (function_at g k).shape ≡ S.Ramp2 r
  pub early : r.reference ≤ℤ r.start
  pub ramp : (function_at h k).shape ≡ S.Ramp (record { a = r.start; s0 = pos 0; b = r.end; s1 = r.mult })
  pub others : (j : ℕ) → (j ≡ k → ⊥) → function_at h j ≡ function_at g j
  pub name : h.name ≡ g.name
  pub unit : h.unit ≡ g.unit
  pub quantum : h.quantum ≡ g.quantum
  pub parameters : h.parameters ≡ g.parameters
  pub functions : h.functions ≡ g.functions
  pub grids : h.grids ≡ g.grids
  pub grid : h.grid ≡ g.grid
