-- `grid_clear` meets its contract.
use mathlib.Core.Path.{◌∙◌}
use mathlib.Core.Bool.{◌&&◌}
use Rattle.abi.proofs.ClearLaws.{clear_blank}
use Rattle.abi.proofs.grid_clear.Goals as goal

pub returns : goal.returns
returns c =
    let x = c.four_clear in let y = c.four_clear-2 in let z = c.four_clear-3 in
    (λ i. x.ensures.clear i && y.ensures.clear i && z.ensures.clear i) ∙ clear_blank c.args.numbers.now c.args.k x.ensures.sizes
