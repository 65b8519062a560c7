-- Order 5 of document 02 in its own words, of what the judge refuses by 5: grids of one rank that hold an admitted point in common.
use Rattle.std.specs.Prelude.{ℕ, ◌<◌, ◌≡◌, true, ◌↔◌, Ok}
use Rattle.group.specs.declared.Grid.{Grid}
use Rattle.group.specs.declared.Group.{Group}
use Rattle.group.specs.Record.{grid_at}
use Rattle.extent.specs.Extent.{inside}
use Rattle.extent.specs.Order5.{Common}
use Rattle.judge.specs.Judge.{ranked_earlier, judged}
use Rattle.judge.specs.Rules.{GridLimits}

-- two grids have one rank, and hold an admitted point in common
abbrev pub Share : Grid → Grid → Type 0
Share f g = (f.rank ≡ g.rank) × Common f g

-- in an accepted group no two grids do
abbrev pub NoSharedPoint : Group → Type 0
NoSharedPoint g = judged g ≡ Ok tt → (i j : ℕ) → i < j → j < g.grids → Share (grid_at g i) (grid_at g j) → ⊥

-- each grid passes 2 and 4
abbrev pub GridsPass : Group → Type 0
GridsPass g = GridLimits g × ((k : ℕ) → k < g.grids → inside g.parameters (grid_at g k) ≡ true)

-- 'refusal 5's shared coordinate is now an admitted point that both hold': where all pass, 5 reads exactly of the grids that share one with an
-- earlier grid of their rank
abbrev pub RankClash : Group → Type 0
RankClash g = GridsPass g → (k : ℕ) → k < g.grids → (ranked_earlier g k ≡ true) ↔ ((j : ℕ) × (j < k) × Share (grid_at g j) (grid_at g k))
