-- The grid lines and what follows them, stage by stage: what the one pass over the grids and the two comparisons found is what is judged.
use Prim.Native.Nat.{ℕ, ◌+◌, ◌<◌, ◌≤◌}
use mathlib.Core.Path.{◌≡◌, sym, ap, ◌∙◌}
use mathlib.Core.List.{List}
use native.Mathlib.Omega.{arith}
use Rattle.numbers.specs.First.{first, some}
use Rattle.group.specs.declared.Group.{Group}
use Rattle.group.specs.Refusals.{refusal}
use Rattle.group.proofs.RefusalLaws.{at_here, at_past}
use Rattle.flat.specs.Lists.{Flat}
use Rattle.judge.specs.declared.Shared.{Shared}
use Rattle.judge.specs.declared.Shared.TheVariants as S
use Rattle.judge.specs.Judge.{bad_grid, outside, named_earlier, ranked_earlier, judged_grids, judged_ranks}
use Rattle.judge.specs.Keys.{rank_rule, clash}
use Rattle.judge.specs.Rules.{judged_from, GridLimits, Scanned}
use Rattle.judge.proofs.JudgeLaws.{comparable, sharing, ranks_sharing}
use Rattle.std.specs.Prelude.{Ok, Err}

module _ (g : Group) (from : ℕ) {n np bad : ℕ} (en : n ≡ g.grids) (ep : np ≡ g.parameters)
    (eb : bad ≡ first (bad_grid g) n) where
  bad_is : bad ≡ first (bad_grid g) g.grids
  bad_is = eb ∙ ap (first (bad_grid g)) en

  pub line_here : bad < n → Err (refusal 2 (bad + from)) ≡ judged_from from g
  unfolding judged_from
  line_here l = at_here Err (bad_grid g) g.grids 2 from _ bad bad_is (omega arith)

  -- no line is outside its limits
  module _ {edge : ℕ} {fours keys sides ranks frames : List ℕ} (past : n ≤ bad) (sc : n ≤ bad → Scanned g np n edge fours keys sides ranks frames) where
    scanned : Scanned g g.parameters g.grids edge fours keys sides ranks frames
    scanned = rw (en, ep) at (sc past)

    limits : GridLimits g
    limits = record { fits = scanned.fits }

    lines_past : judged_from from g ≡ judged_grids g (judged_ranks g (Ok tt))
    unfolding judged_from
    lines_past = at_past Err (bad_grid g) g.grids 2 from _ bad bad_is (omega arith)

    module _ {name : ℕ} (e : name ≡ first (λ k. some (clash S.Name fours keys k) k) n) where
      name_is : name ≡ first (named_earlier g) g.grids
      name_is = sharing g limits fours keys S.Name name tt scanned.names (rw en at e)

      pub name_here : name < n → Err (refusal 3 (name + 1)) ≡ judged_from from g
      unfolding judged_grids
      name_here l = at_here Err (named_earlier g) g.grids 3 1 _ name name_is (omega arith) ∙ sym lines_past

      module _ (named : n ≤ name) where
        pub edge_here : edge < n → Err (refusal 4 (edge + 1)) ≡ judged_from from g
        unfolding judged_grids
        edge_here l =
            at_here Err (outside g) g.grids 4 1 _ edge scanned.first_outside (omega arith)
            ∙ sym (lines_past ∙ at_past Err (named_earlier g) g.grids 3 1 _ name name_is (omega arith))

        module _ (edged : n ≤ edge) {rule : Shared} (r : rule ≡ rank_rule sides n) {rank : ℕ}
            (f : rank ≡ first (λ k. some (clash rule sides ranks k) k) n) where
          rank_is : rank ≡ first (ranked_earlier g) g.grids
          rank_is =
              ranks_sharing g limits sides ranks (comparable g limits edge scanned.first_outside (omega arith)) scanned.flat.sided
              rule rank (rw en at r) (rw en at f)

          edges_past : judged_from from g ≡ judged_ranks g (Ok tt)
          unfolding judged_grids
          edges_past =
              lines_past ∙ at_past Err (named_earlier g) g.grids 3 1 _ name name_is (omega arith)
              ∙ at_past Err (outside g) g.grids 4 1 _ edge scanned.first_outside (omega arith)

          pub rank_here : rank < n → Err (refusal 5 (rank + 1)) ≡ judged_from from g
          unfolding judged_ranks
          rank_here l = at_here Err (ranked_earlier g) g.grids 5 1 _ rank rank_is (omega arith) ∙ sym edges_past

          pub all_past : n ≤ rank → Ok tt ≡ judged_from from g
          unfolding judged_ranks
          all_past l = sym (edges_past ∙ at_past Err (ranked_earlier g) g.grids 5 1 _ rank rank_is (omega arith))

    pub grids_flat : Flat g g.grids sides ranks frames
    grids_flat = scanned.flat
