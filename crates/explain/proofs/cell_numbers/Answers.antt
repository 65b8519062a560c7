-- `cell_numbers` meets its contract: each number fits.
use native.Mathlib.Omega.{arith}
use Rattle.numbers.proofs.OrderLaws.{size_fits}
use Rattle.explain.proofs.CellLaws.{Sized, sized, cell_told, in_distances, in_grid}
use Rattle.explain.proofs.cell_numbers.Goals as goal
use Rattle.explain.proofs.cell_numbers.Goals.{After-position-low}

sizes : (c : After-position-low) → let x = c.cell_along-x.result in let y = c.cell_along-y.result in
    Sized c.requires.0 c.requires.1 x.index y.index x.rest y.rest c.weights_at-w.result c.position-low.result
sizes c = sized c.requires.0 c.requires.1 c.cell_along-x.ensures c.cell_along-y.ensures c.weights_at-w.ensures c.position-low.ensures

pub weights_at-w-requires : goal.weights_at-w-requires
weights_at-w-requires c = in_distances c.requires.0 c.cell_along-x.ensures c.cell_along-y.ensures

pub position-low-requires : goal.position-low-requires
position-low-requires c =
    let p = c.requires in let g = in_grid p.0 c.cell_along-x.ensures c.cell_along-y.ensures in
    (p.0, g.0, g.1, p.1)

pub overflow_mul-high : goal.overflow_mul-high
overflow_mul-high c = omega (arith, sizes (goal.at.overflow_mul-high c).After-position-low)

pub overflow_add-high : goal.overflow_add-high
overflow_add-high c = omega (arith, sizes (goal.at.overflow_add-high c).After-position-low)

pub overflow_cast-result-2 : goal.overflow_cast-result-2
overflow_cast-result-2 c = size_fits _ (omega (arith, sizes (goal.at.overflow_cast-result-2 c).After-position-low))

pub overflow_cast-result-3 : goal.overflow_cast-result-3
overflow_cast-result-3 c = size_fits _ (omega (arith, sizes (goal.at.overflow_cast-result-3 c).After-position-low))

pub overflow_cast-result-4 : goal.overflow_cast-result-4
overflow_cast-result-4 c = size_fits _ (omega (arith, sizes (goal.at.overflow_cast-result-4 c).After-position-low))

pub overflow_cast-result-5 : goal.overflow_cast-result-5
overflow_cast-result-5 c = size_fits _ (omega (arith, sizes (goal.at.overflow_cast-result-5 c).After-position-low))

pub overflow_cast-result-8 : goal.overflow_cast-result-8
overflow_cast-result-8 c = size_fits _ (omega (arith, sizes (goal.at.overflow_cast-result-8 c).After-position-low))

pub overflow_cast-result-9 : goal.overflow_cast-result-9
overflow_cast-result-9 c = size_fits _ (omega (arith, sizes (goal.at.overflow_cast-result-9 c).After-position-low))

pub overflow_cast-result-10 : goal.overflow_cast-result-10
overflow_cast-result-10 c = size_fits _ (omega (arith, sizes (goal.at.overflow_cast-result-10 c).After-position-low))

pub overflow_cast-result-11 : goal.overflow_cast-result-11
overflow_cast-result-11 c = size_fits _ (omega (arith, sizes (goal.at.overflow_cast-result-11 c).After-position-low))

pub overflow_cast-result-12 : goal.overflow_cast-result-12
overflow_cast-result-12 c = size_fits _ (omega (arith, sizes (goal.at.overflow_cast-result-12 c).After-position-low))

pub overflow_cast-result-13 : goal.overflow_cast-result-13
overflow_cast-result-13 c = size_fits _ (omega (arith, sizes (goal.at.overflow_cast-result-13 c).After-position-low))

pub overflow_add-result : goal.overflow_add-result
overflow_add-result c = omega (arith, sizes (goal.at.overflow_add-result c).After-position-low)

pub overflow_cast-result-14 : goal.overflow_cast-result-14
overflow_cast-result-14 c = size_fits _ (omega (arith, sizes (goal.at.overflow_cast-result-14 c).After-position-low))

pub overflow_cast-result-15 : goal.overflow_cast-result-15
overflow_cast-result-15 c = size_fits _ (omega (arith, sizes (goal.at.overflow_cast-result-15 c).After-position-low))

pub overflow_add-result-2 : goal.overflow_add-result-2
overflow_add-result-2 c = omega (arith, sizes (goal.at.overflow_add-result-2 c).After-position-low)

pub overflow_cast-result-16 : goal.overflow_cast-result-16
overflow_cast-result-16 c = size_fits _ (omega (arith, sizes (goal.at.overflow_cast-result-16 c).After-position-low))

pub returns : goal.returns
returns c =
    cell_told c.requires.0 c.requires.1 c.cell_along-x.ensures c.cell_along-y.ensures c.weights_at-w.ensures c.position-low.ensures c.requires.2
    c.ranges.lon c.ranges.factor
