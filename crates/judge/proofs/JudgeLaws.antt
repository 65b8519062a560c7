-- What the judge's loops rely on and show; and the flat comparison of grids as the comparison that document 01 asks for.
use Prim.Native.Nat.{ℕ, ◌<◌, ◌≤◌}
use mathlib.Core.Path.{◌≡◌, refl, sym, ◌∙◌, ap}
use mathlib.Core.Bool.{Bool, true, false, cond, not, ◌&&◌}
use mathlib.Core.List.{List}
use native.Mathlib.Omega.{arith}
use borrow.Author.Tests.{lt-ltb, le-ltb, ltb-false, not-false}
use native.Mathlib.Decide.{dec_lt}
use Rattle.std.specs.Prelude.{Result, Ok, Err, ⊤}
use Rattle.group.specs.declared.Refusal.{Refusal}
use Rattle.group.specs.Refusals.{refusal, refuse_if}
use Rattle.group.proofs.RefusalLaws.{no_acceptance, if_here, if_past, passed_if}
use lib.Dec.{ltb, leb}
use lib.IntN.{ℤ}
use Rattle.numbers.specs.First.{first, some}
use Rattle.numbers.proofs.FirstLaws.{none_at, first_same, some_same}
use Rattle.group.specs.declared.Function.{Function}
use Rattle.group.specs.declared.Group.{Group}
use Rattle.group.specs.Record.{grid_at}
use Rattle.group.specs.Numbers.{functions_most, grids_most}
use Rattle.group.specs.Limits.{function_fits, function_blank, grid_blank}
use Rattle.abi.specs.Abi.{function_of_words, grid_of_words, group_of_words}
use Rattle.abi.proofs.EntryLaws.{function_of_words_lem, grid_of_words_lem}
use Rattle.extent.specs.Extent.{inside}
use Rattle.flat.specs.Lists.{Sided}
use Rattle.judge.specs.Judge.{unused_function, unused_grid, bad_function, outside, same_name, same_rank, ranked_earlier}
use Rattle.judge.specs.Rules.{GridLimits}
use Rattle.judge.specs.Keys.{keys_of, KeysListed, some_reaches, rank_rule, clash, shares_earlier, Comparable}
use Rattle.judge.specs.declared.Shared.{Shared}
use Rattle.judge.specs.declared.Shared.TheVariants as S
use Rattle.judge.proofs.LimitLaws.{name_good, name_bytes, grid_edges}
use Rattle.judge.proofs.KeyLaws.{sided_listed, none_reaches, clash_name, clash_rank, clash_turn}

-- the entries of a group that a list of numbers stands for: what the loops over that list found is what is judged
module _ (ns : List ℤ) where
  pub unused_functions : {m : ℕ} → m ≡ (group_of_words ns).functions
      → some (λ k. leb m k && not (function_blank (function_of_words ns k))) functions_most ≡ some (unused_function (group_of_words ns)) functions_most
  unused_functions e =
      some_same _ _ functions_most (λ k l. let r = sym (function_of_words_lem ns k l) in λ j. leb (e j) k && not (function_blank (r j)))

  pub unused_grids : {n : ℕ} → n ≡ (group_of_words ns).grids
      → some (λ k. leb n k && not (grid_blank (grid_of_words ns k))) grids_most ≡ some (unused_grid (group_of_words ns)) grids_most
  unused_grids e =
      some_same _ _ grids_most (λ k l. let d = sym (grid_of_words_lem ns k l) in λ j. leb (e j) k && not (grid_blank (d j)))

  pub bad_functions : {m i : ℕ} → m ≡ (group_of_words ns).functions → m ≤ functions_most → i ≡ first (λ k. not (function_fits (function_of_words ns k))) m
      → i ≡ first (bad_function (group_of_words ns)) (group_of_words ns).functions
  bad_functions {m} e h f =
      f ∙ first_same _ (bad_function (group_of_words ns)) m (λ k l. ap (λ (r : Function). not (function_fits r)) (sym (function_of_words_lem ns k (omega arith))))
      ∙ ap (first (bad_function (group_of_words ns))) e

-- what a refusal says of the first index i of n that a test named: where it refuses, where it does not, and in both cases
module _ (number place i n : ℕ) where
  abbrev stage : Result ⊤ Refusal
  stage = refuse_if Err (ltb i n) number place (Ok tt)

  pub stage_here : i < n → stage ≡ Err (refusal number place)
  stage_here l = if_here Err (ltb i n) number place (Ok tt) (lt-ltb i n l)

  pub stage_past : n ≤ i → stage ≡ Ok tt
  stage_past l = if_past Err (ltb i n) number place (Ok tt) (le-ltb i n l)

  pub refused_at : {r : Refusal} {v : Result ⊤ Refusal} → Err r ≡ stage → (i < n → Err (refusal number place) ≡ v) → Err r ≡ v
  refused_at {r} e f =
      elim (dec_lt i n) [
        | yes l ↦ e ∙ stage_here l ∙ f l
        | no l ↦ absurd (no_acceptance r (e ∙ stage_past (omega arith)))
      ]

  pub passed_at : Ok tt ≡ stage → n ≤ i
  passed_at e = ltb-false i n (passed_if Err (Ok tt) no_acceptance (ltb i n) number place (Ok tt) (sym e)).0

  pub last_at : {v : Result ⊤ Refusal} → (i < n → Err (refusal number place) ≡ v) → (n ≤ i → Ok tt ≡ v) → stage ≡ v
  last_at f g =
      elim (dec_lt i n) [
        | yes l ↦ stage_here l ∙ f l
        | no l ↦ stage_past (omega arith) ∙ g (omega arith)
      ]

-- where no grid is outside the limits, the sides are true distances
pub comparable : (g : Group) → GridLimits g → (i : ℕ) → i ≡ first (outside g) g.grids → g.grids ≤ i → Comparable S.Turn g
comparable g f i e h k l =
    grid_edges (grid_at g k) (f.fits k l) g.parameters
    (not-false (inside g.parameters (grid_at g k)) (none_at (outside g) g.grids k (omega arith) l))

-- comparing keys is comparing grids
module _ (g : Group) (f : GridLimits g) (fours keys : List ℕ) where
  same_sharing : (s : Shared) → Comparable s g → KeysListed (λ k. keys_of s (grid_at g k)) g.grids fours keys
      → first (λ k. some (clash s fours keys k) k) g.grids ≡ first (shares_earlier s g) g.grids
  same_sharing S.Name u m =
      first_same _ _ g.grids
      (λ k l. some_same _ (λ j. same_name (grid_at g j).name (grid_at g k).name) k
      (λ j a. clash_name g g.grids fours keys j k (omega arith) l m
      (λ i b x y. name_bytes (grid_at g i).name (name_good (grid_at g i) (f.fits i x)) b y)))
  same_sharing S.Rank u m =
      first_same _ _ g.grids
      (λ k l. some_same _ (λ j. same_rank (grid_at g j) (grid_at g k)) k
      (λ j a. clash_rank g g.grids fours keys j k (omega arith) l (u j (omega arith)).0 (u k l).0 m (u j (omega arith)).1 (u k l).1))
  same_sharing S.Turn u m =
      first_same _ _ g.grids
      (λ k l. some_same _ (λ j. same_rank (grid_at g j) (grid_at g k)) k
      (λ j a. clash_turn g g.grids fours keys j k (omega arith) l (u j (omega arith)) (u k l) m))

  pub sharing : (s : Shared) (r : ℕ) → Comparable s g → KeysListed (λ k. keys_of s (grid_at g k)) g.grids fours keys
      → r ≡ first (λ k. some (clash s fours keys k) k) g.grids → r ≡ first (shares_earlier s g) g.grids
  sharing s r u m e = e ∙ same_sharing s u m

-- ranks, by the rule that the list of sides gives
pub ranks_sharing : (g : Group) → GridLimits g → (sides ranks : List ℕ) → Comparable S.Turn g → Sided g g.grids sides ranks
    → (s : Shared) (r : ℕ) → s ≡ rank_rule sides g.grids
    → r ≡ first (λ k. some (clash s sides ranks k) k) g.grids → r ≡ first (ranked_earlier g) g.grids
ranks_sharing g f sides ranks u m s r e h =
    go (some_reaches sides g.grids) refl (h ∙ ap (λ (t : Shared). first (λ k. some (clash t sides ranks k) k) g.grids) e)
  where
    listed : KeysListed (λ k. keys_of S.Rank (grid_at g k)) g.grids sides ranks
    listed = sided_listed g g.grids sides ranks m

    go : (b : Bool) → some_reaches sides g.grids ≡ b → r ≡ first (λ k. some (clash (cond b S.Turn S.Rank) sides ranks k) k) g.grids
        → r ≡ first (ranked_earlier g) g.grids
    go true d h = sharing g f sides ranks S.Turn r u listed h
    go false d h = sharing g f sides ranks S.Rank r (λ k l. (u k l, none_reaches g g.grids sides ranks m d k l)) listed h
