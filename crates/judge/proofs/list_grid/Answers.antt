-- `list_grid` meets its contract.
use Rattle.judge.proofs.LimitLaws.{grid_sized}
use Rattle.judge.proofs.list_grid.Goals as goal

pub flatten-requires : goal.flatten-requires
flatten-requires c = (grid_sized c.args.g c.requires.0, c.requires.3)

pub grid_inside-requires : goal.grid_inside-requires
grid_inside-requires c = (c.requires.1, grid_sized c.args.g c.requires.0)
