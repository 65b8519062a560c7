-- `clashes_earlier` meets its contract, by the loop of FirstLaws.
use mathlib.Core.Path.{◌∙◌, sym}
use Rattle.numbers.proofs.FirstLaws.{passed_some, found_some}
use Rattle.judge.proofs.clashes_earlier.Goals as goal

pub returns-then-grids_clash : goal.returns-then-grids_clash
returns-then-grids_clash c =
    found_some _ _ _ c.loop-j.invariant c.loop-j-test.true
    (sym c.grids_clash.ensures ∙ c.if-grids_clash.true)

pub returns : goal.returns
returns c = passed_some _ _ _ c.loop-j.invariant c.loop-j-test.false
