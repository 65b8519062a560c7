-- `store_entries` meets its contract.
use mathlib.Core.Path.{◌≡◌, refl, ◌∙◌}
use mathlib.Core.List.{[], ◌∷◌}
use native.Mathlib.Omega.{arith}
use borrow.Author.Rules.{rules}
use lib.ListN.{get_or}
use mir.Syntax.{w64}
use mir.Val.{to_z, of_z}
use Rattle.group.specs.Numbers.{grids_most}
use Rattle.inforce.specs.InForce.{blank_entry}
use Rattle.abi.proofs.ListLaws.{run_none, run_length, run_more, run_all}
use Rattle.capi.specs.InForce.{entries_from, entry_words}
use Rattle.capi.proofs.store_entries.Goals as goal

pub loop-i-init : goal.loop-i-init
loop-i-init c = run_none _ grids_most _ entries_from

pub store_numbers-requires : goal.store_numbers-requires
store_numbers-requires c =
    let e = run_length _ grids_most _ entries_from _ _ c.loop-i.invariant in
    omega (arith, c.requires)

pub loop-i-preserved : goal.loop-i-preserved
loop-i-preserved c =
    let e = get_or c.args.entries c.loop-i.i blank_entry in
    let n = c.as_stored.result in
    let grid : to_z w64 (of_z w64 n) ≡ n = search rules in
    let lon : to_z w64 (of_z w64 e.lon.0) ≡ e.lon.0 = search rules in
    let lat : to_z w64 (of_z w64 e.lat.0) ≡ e.lat.0 = search rules in
    run_more _ entry_words grids_most _ entries_from _ _ _ _ (λ k. refl) c.loop-i.invariant c.loop-i-test.true c.store_numbers.ensures
    (λ i. (grid ∙ c.as_stored.ensures) i ∷ lon i ∷ lat i ∷ [])

pub shape_of-out : goal.shape_of-out
shape_of-out c = run_length _ grids_most _ entries_from _ _ c.loop-i.invariant

pub returns : goal.returns
returns c = run_all _ grids_most _ entries_from _ _ c.loop-i.invariant c.loop-i-test.false
