-- What the pass over the grids may rely on, and what it finds and leaves.
use Rattle.std.specs.Prelude.{ℕ, ◌*◌, ◌<◌, ◌≤◌, ◌≡◌, true, not, List, length, Result, Ok, Err, ⊤}
use Rattle.numbers.specs.First.{first}
use Rattle.group.specs.declared.Group.{Group}
use Rattle.group.specs.Record.{grid_at}
use Rattle.group.specs.Refusals.{refuse_first}
use Rattle.group.specs.Numbers.{parameters_most, functions_most, grids_most}
use Rattle.group.specs.Limits.{grid_fits}
use Rattle.extent.specs.Extent.{inside}
use Rattle.flat.specs.Lists.{Flat}
use Rattle.judge.specs.Judge.{bad_grid, judged_grids, judged_ranks}
use Rattle.judge.specs.Keys.{name_keys, KeysListed}
use Rattle.group.specs.declared.Refusal.{Refusal}

-- 2 of the grid lines, of which the first is line `from`, then 3 to 5
unfoldable pub judged_from : ℕ → Group → Result ⊤ Refusal
judged_from from g = refuse_first Err (bad_grid g) g.grids 2 from (judged_grids g (judged_ranks g (Ok tt)))

-- what a group line within its limits says of the loops behind it
pub record HeadLimits (g : Group) : Type 0 where
  pub functions : g.functions ≤ functions_most
  pub grids : g.grids ≤ grids_most
  pub parameters : g.parameters ≤ parameters_most

-- each grid line is within its limits
pub record GridLimits (g : Group) : Type 0 where
  pub fits : (k : ℕ) → k < g.grids → grid_fits (grid_at g k) ≡ true

-- room for the keys of n grids
pub record KeyRoom (fours keys : List ℕ) (n : ℕ) : Type 0 where
  pub fours_room : n * 4 ≤ length fours
  pub keys_room : n ≤ length keys

-- what one pass over n grids, each within its limits, finds and leaves
pub record Scanned (g : Group) (np n edge : ℕ) (fours keys sides ranks frames : List ℕ) : Type 0 where
  pub fits : (k : ℕ) → k < n → grid_fits (grid_at g k) ≡ true
  pub first_outside : edge ≡ first (λ k. not (inside np (grid_at g k))) n
  pub names : KeysListed (λ k. name_keys (grid_at g k).name) n fours keys
  pub flat : Flat g n sides ranks frames

-- what the judge leaves in the lent lists: those of an accepted group's grids
abbrev pub Left : Result ⊤ Refusal → Group → (sides ranks frames : List ℕ) → Type 0
Left v g sides ranks frames = v ≡ Ok tt → Flat g g.grids sides ranks frames
