-- `judge_grids` meets its contract, stage by stage.
use Prim.Native.Nat.{◌≤◌}
use mathlib.Core.Path.{◌∙◌}
use Rattle.std.proofs.lemmas.Result.{err_from_is_err_and}
use Rattle.group.proofs.RefusalLaws.{no_acceptance}
use Rattle.judge.proofs.JudgeLaws.{refused_at, passed_at, last_at}
use Rattle.judge.proofs.GridStages.{line_here, name_here, edge_here, rank_here, all_past, grids_flat}
use Rattle.judge.proofs.judge_grids.Goals as goal
use Rattle.judge.proofs.judge_grids.Goals.{In_ok-refuse_at, In_ok-refuse_at-2, In_ok-refuse_at-3}

-- what each stage has passed
past_lines : (c : In_ok-refuse_at) → c.grid_count-n.result ≤ c.scan_grids-found.result.bad
past_lines c = passed_at _ _ _ _ c.in_ok-refuse_at.ensures

past_names : (c : In_ok-refuse_at-2) → c.grid_count-n.result ≤ c.first_clash.result
past_names c = passed_at _ _ _ _ c.in_ok-refuse_at-2.ensures

past_edges : (c : In_ok-refuse_at-3) → c.grid_count-n.result ≤ c.scan_grids-found.result.edge
past_edges c = passed_at _ _ _ _ c.in_ok-refuse_at-3.ensures

pub returns-in_err-refuse_at : goal.returns-in_err-refuse_at
returns-in_err-refuse_at c =
    let p = err_from_is_err_and c.from_residual.result c.from_residual.ensures.1 in
    let s = c.scan_grids-found.ensures in
    rw (p.1, p.2)
    (refused_at _ _ _ _ c.in_err-refuse_at.ensures (line_here _ _ c.grid_count-n.ensures c.parameter_count-np.ensures s.0), λ e. absurd (no_acceptance _ e))

pub returns-in_err-refuse_at-2 : goal.returns-in_err-refuse_at-2
returns-in_err-refuse_at-2 c =
    let p = err_from_is_err_and c.from_residual-in_err-refuse_at-2.result c.from_residual-in_err-refuse_at-2.ensures.1 in
    let q = goal.at.returns-in_err-refuse_at-2 c in let s = c.scan_grids-found.ensures in
    rw (p.1, p.2) (
      refused_at _ _ _ _ c.in_err-refuse_at-2.ensures
          (name_here _ _ c.grid_count-n.ensures c.parameter_count-np.ensures s.0 (past_lines q.In_ok-refuse_at) s.1 c.first_clash.ensures),
      λ e. absurd (no_acceptance _ e),
    )

pub returns-in_err-refuse_at-3 : goal.returns-in_err-refuse_at-3
returns-in_err-refuse_at-3 c =
    let p = err_from_is_err_and c.from_residual-in_err-refuse_at-3.result c.from_residual-in_err-refuse_at-3.ensures.1 in
    let q = goal.at.returns-in_err-refuse_at-3 c in let s = c.scan_grids-found.ensures in
    rw (p.1, p.2) (
      refused_at _ _ _ _ c.in_err-refuse_at-3.ensures
          (edge_here _ _ c.grid_count-n.ensures c.parameter_count-np.ensures s.0 (past_lines q.In_ok-refuse_at) s.1 c.first_clash.ensures
          (past_names q.In_ok-refuse_at-2)),
      λ e. absurd (no_acceptance _ e),
    )

pub returns : goal.returns
returns c =
    let q = goal.at.returns c in let s = c.scan_grids-found.ensures in
    let lines = past_lines q.In_ok-refuse_at in let names = past_names q.In_ok-refuse_at-2 in let edges = past_edges q.In_ok-refuse_at-3 in (
      c.refuse_at-4.ensures
          ∙ last_at _ _ _ _
          (rank_here _ _ c.grid_count-n.ensures c.parameter_count-np.ensures s.0 lines s.1 c.first_clash.ensures names edges c.rank_rule-rule.ensures c.first_clash-2.ensures)
          (all_past _ _ c.grid_count-n.ensures c.parameter_count-np.ensures s.0 lines s.1 c.first_clash.ensures names edges c.rank_rule-rule.ensures c.first_clash-2.ensures),
      λ e. grids_flat _ c.args.from c.grid_count-n.ensures c.parameter_count-np.ensures s.0 lines s.1,
    )
