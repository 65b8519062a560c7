-- `bytes_fit` meets its contract: all 24 bytes are tested, with no early answer.
use mathlib.Core.Bool.{Bool, ◌&&◌}
use mathlib.Core.Path.{sym, ap₂, ◌∙◌}
use Rattle.numbers.proofs.FirstLaws.{every_more}
use Rattle.group.specs.Limits.{byte_fits}
use Rattle.group.proofs.bytes_fit.Goals as goal

pub loop-i-preserved : goal.loop-i-preserved
unfolding byte_fits
loop-i-preserved c =
    let fits = byte_fits c.args.name in
    ap₂ (λ (x y : Bool). x && y) c.loop-i.invariant c.byte_fits-fit.ensures ∙ sym (every_more fits c.loop-i.i)
