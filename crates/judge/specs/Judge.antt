-- Refusals 2 to 5 of a group that is handed over as a record.
use Rattle.std.specs.Prelude.{ℕ, ◌+◌, ◌<◌, ◌≡◌, Bool, true, false, not, ◌&&◌, leb, eqb, get_or, Result, Ok, Err, ⊤}
use Rattle.numbers.specs.First.{some, every}
use Rattle.group.specs.declared.Name.{Name}
use Rattle.group.specs.declared.Grid.{Grid}
use Rattle.group.specs.declared.Group.{Group}
use Rattle.group.specs.Record.{function_at, grid_at}
use Rattle.group.specs.Refusals.{refuse_if, refuse_first}
use Rattle.group.specs.Numbers.{name_most, functions_most, grids_most}
use Rattle.group.specs.Limits.{function_fits, function_blank, grid_fits, grid_blank, head_fits}
use Rattle.extent.specs.Extent.{meet, inside}
use Rattle.group.specs.declared.Refusal.{Refusal}

-- 2: an entry behind its count is not an unused one: a ramp of zeros, or a grid of zeros without a name
abbrev pub unused_function : Group → ℕ → Bool
unused_function g k = leb g.functions k && not (function_blank (function_at g k))

abbrev pub unused_grid : Group → ℕ → Bool
unused_grid g k = leb g.grids k && not (grid_blank (grid_at g k))

-- 2: a number of a function or grid line is outside its limit, A is above B, START is not below END, or the name is malformed
abbrev pub bad_function : Group → ℕ → Bool
bad_function g k = not (function_fits (function_at g k))

abbrev pub bad_grid : Group → ℕ → Bool
bad_grid g k = not (grid_fits (grid_at g k))

-- 3: the grid's name stands earlier
abbrev pub same_byte : Name → Name → ℕ → Bool
same_byte m n k = eqb (get_or m.bytes k 0) (get_or n.bytes k 0)

unfoldable pub same_name : Name → Name → Bool
same_name m n = eqb m.len n.len && every (same_byte m n) name_most

abbrev pub named_earlier : Group → ℕ → Bool
named_earlier g k = some (λ j. same_name (grid_at g j).name (grid_at g k).name) k

-- 4: a far edge is outside the limits, the grid is wider than a turn, or the node range ends too late
abbrev pub outside : Group → ℕ → Bool
outside g k = not (inside g.parameters (grid_at g k))

-- 5: the grid shares a coordinate and its rank with an earlier grid
unfoldable pub same_rank : Grid → Grid → Bool
same_rank f g = eqb f.rank g.rank && meet f g

abbrev pub ranked_earlier : Group → ℕ → Bool
ranked_earlier g k = some (λ j. same_rank (grid_at g j) (grid_at g k)) k

-- 2 of the function and grid lines: places are lines; the first function's is 2
unfoldable pub judged_lines : Group → Result ⊤ Refusal → Result ⊤ Refusal
judged_lines g next =
    refuse_first Err (bad_function g) g.functions 2 2
    (refuse_first Err (bad_grid g) g.grids 2 (g.functions + 2)
    next)

-- 2: at line 1 the group line and every entry behind its count, then the lines behind it
unfoldable pub judged_limits : Group → Result ⊤ Refusal → Result ⊤ Refusal
judged_limits g next =
    refuse_if Err (not (head_fits g)) 2 1
    (refuse_if Err (some (unused_function g) functions_most) 2 1
    (refuse_if Err (some (unused_grid g) grids_most) 2 1
    (judged_lines g next)))

-- 3 and 4: places are grids, from 1
unfoldable pub judged_grids : Group → Result ⊤ Refusal → Result ⊤ Refusal
judged_grids g next =
    refuse_first Err (named_earlier g) g.grids 3 1
    (refuse_first Err (outside g) g.grids 4 1
    next)

-- 5: places are grids, from 1
unfoldable pub judged_ranks : Group → Result ⊤ Refusal → Result ⊤ Refusal
judged_ranks g next = refuse_first Err (ranked_earlier g) g.grids 5 1 next

-- 2 to 5 in that order
unfoldable pub judged : Group → Result ⊤ Refusal
judged g = judged_limits g (judged_grids g (judged_ranks g (Ok tt)))

-- what an accepted group is known to be
pub record Sound (g : Group) : Type 0 where
  pub head : head_fits g ≡ true
  pub function : (k : ℕ) → k < g.functions → function_fits (function_at g k) ≡ true
  pub grid : (k : ℕ) → k < g.grids → grid_fits (grid_at g k) ≡ true
  pub no_function : (k : ℕ) → k < functions_most → unused_function g k ≡ false
  pub no_grid : (k : ℕ) → k < grids_most → unused_grid g k ≡ false
  pub edges : (k : ℕ) → k < g.grids → inside g.parameters (grid_at g k) ≡ true
  pub names : (i k : ℕ) → i < g.grids → k < i → same_name (grid_at g k).name (grid_at g i).name ≡ false
  pub ranks : (i k : ℕ) → i < g.grids → k < i → same_rank (grid_at g k) (grid_at g i) ≡ false
