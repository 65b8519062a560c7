-- A group is accepted exactly where it is sound; and what that says of it in sizes.
use Prim.Native.Nat.{ℕ, ◌+◌, ◌<◌}
use mathlib.Core.Path.{◌≡◌, sym, ◌∙◌, ap}
use mathlib.Core.Bool.{Bool, false, not}
use mathlib.Core.Logic.{◌↔◌}
use native.Mathlib.Omega.{arith}
use borrow.Author.Tests.{not-false}
use Rattle.numbers.specs.First.{some}
use Rattle.numbers.proofs.FirstLaws.{none_by, passed_some}
use Rattle.group.specs.declared.Group.{Group}
use Rattle.group.specs.Record.{function_at, grid_at}
use Rattle.group.specs.Numbers.{functions_most, grids_most}
use Rattle.group.specs.Limits.{function_fits, grid_fits, head_fits}
use Rattle.group.proofs.RefusalLaws.{no_acceptance, if_past, first_past, passed_if, passed_first}
use Rattle.extent.specs.Extent.{inside}
use Rattle.extent.specs.Sizes.{Sized}
use Rattle.extent.specs.Sides.{Edges}
use Rattle.judge.specs.Judge.{unused_function, unused_grid, bad_function, bad_grid, same_name, named_earlier, outside, same_rank, ranked_earlier, judged_lines, judged_limits, judged_grids, judged_ranks, judged, Sound}
use Rattle.judge.specs.Rules.{HeadLimits}
use Rattle.judge.proofs.LimitLaws.{head_sized, grid_sized, grid_edges}
use Rattle.std.specs.Prelude.{Ok, Err}

-- a test that no entry passes
pub some_none : (p : ℕ → Bool) (n : ℕ) → ((k : ℕ) → k < n → p k ≡ false) → some p n ≡ false
some_none p n h = sym (passed_some p n n (record { bound = omega arith; clear = h }) (omega arith))

-- what no stage refuses is accepted
pub sound_accepted : (g : Group) → Sound g → judged g ≡ Ok tt
unfolding judged judged_limits judged_lines judged_grids judged_ranks
sound_accepted g s =
    if_past Err (not (head_fits g)) 2 1 _ (ap not s.head)
    ∙ if_past Err (some (unused_function g) functions_most) 2 1 _ (some_none (unused_function g) functions_most s.no_function)
    ∙ if_past Err (some (unused_grid g) grids_most) 2 1 _ (some_none (unused_grid g) grids_most s.no_grid)
    ∙ first_past Err (bad_function g) g.functions 2 2 _ (some_none (bad_function g) g.functions (λ k l. ap not (s.function k l)))
    ∙ first_past Err (bad_grid g) g.grids 2 (g.functions + 2) _ (some_none (bad_grid g) g.grids (λ k l. ap not (s.grid k l)))
    ∙ first_past Err (named_earlier g) g.grids 3 1 _ (some_none (named_earlier g) g.grids (λ i l. some_none _ i (λ k m. s.names i k l m)))
    ∙ first_past Err (outside g) g.grids 4 1 _ (some_none (outside g) g.grids (λ k l. ap not (s.edges k l)))
    ∙ first_past Err (ranked_earlier g) g.grids 5 1 _ (some_none (ranked_earlier g) g.grids (λ i l. some_none _ i (λ k m. s.ranks i k l m)))

-- what is accepted no stage refuses
module _ (g : Group) (e : judged g ≡ Ok tt) where
  tests : (not (head_fits g) ≡ false) × (some (unused_function g) functions_most ≡ false) × (some (unused_grid g) grids_most ≡ false)
      × (some (bad_function g) g.functions ≡ false) × (some (bad_grid g) g.grids ≡ false)
      × (some (named_earlier g) g.grids ≡ false) × (some (outside g) g.grids ≡ false) × (some (ranked_earlier g) g.grids ≡ false)
  unfolding judged judged_limits judged_lines judged_grids judged_ranks
  tests =
      let a = passed_if Err (Ok tt) no_acceptance (not (head_fits g)) 2 1 _ e in
      let b = passed_if Err (Ok tt) no_acceptance (some (unused_function g) functions_most) 2 1 _ a.1 in
      let c = passed_if Err (Ok tt) no_acceptance (some (unused_grid g) grids_most) 2 1 _ b.1 in
      let d = passed_first Err (Ok tt) no_acceptance (bad_function g) g.functions 2 2 _ c.1 in
      let f = passed_first Err (Ok tt) no_acceptance (bad_grid g) g.grids 2 (g.functions + 2) _ d.1 in
      let h = passed_first Err (Ok tt) no_acceptance (named_earlier g) g.grids 3 1 _ f.1 in
      let i = passed_first Err (Ok tt) no_acceptance (outside g) g.grids 4 1 _ h.1 in
      (a.0, b.0, c.0, d.0, f.0, h.0, i.0, (passed_first Err (Ok tt) no_acceptance (ranked_earlier g) g.grids 5 1 _ i.1).0)

  pub accepted : Sound g
  accepted =
      record {
        head = not-false (head_fits g) tests.0;
        function = λ k l. not-false (function_fits (function_at g k)) (none_by (bad_function g) g.functions k tests.3 l);
        grid = λ k l. not-false (grid_fits (grid_at g k)) (none_by (bad_grid g) g.grids k tests.4 l);
        no_function = λ k l. none_by (unused_function g) functions_most k tests.1 l;
        no_grid = λ k l. none_by (unused_grid g) grids_most k tests.2 l;
        edges = λ k l. not-false (inside g.parameters (grid_at g k)) (none_by (outside g) g.grids k tests.6 l);
        names = λ i k l m. none_by (λ j. same_name (grid_at g j).name (grid_at g i).name) i k (none_by (named_earlier g) g.grids i tests.5 l) m;
        ranks = λ i k l m. none_by (λ j. same_rank (grid_at g j) (grid_at g i)) i k (none_by (ranked_earlier g) g.grids i tests.7 l) m;
      }

-- a group is accepted exactly where it is sound
pub accepted_exactly : (g : Group) → (judged g ≡ Ok tt) ↔ Sound g
accepted_exactly g = (accepted g, sound_accepted g)

module _ (g : Group) (e : judged g ≡ Ok tt) where
  -- what is accepted, in sizes
  pub accepted_head : HeadLimits g
  accepted_head = head_sized g (accepted g e).head

  pub accepted_sized : (k : ℕ) → k < g.grids → Sized (grid_at g k)
  accepted_sized k l = grid_sized (grid_at g k) ((accepted g e).grid k l)

  pub accepted_edges : (k : ℕ) → k < g.grids → Edges (grid_at g k)
  accepted_edges k l = grid_edges (grid_at g k) ((accepted g e).grid k l) g.parameters ((accepted g e).edges k l)
