-- Document 01's marked cases M1 to M12 hold, by computation.
use mathlib.Core.Path.{refl}
use Rattle.numbers.specs.First.{first}
use Rattle.numbers.specs.Round.{gain, nearest, round_z}
use Rattle.group.specs.Limits.{byte_fits, name_fits, name_blank, head_fits, grid_fits, grid_blank}
use Rattle.group.specs.Refusals.{refuse_if, refuse_first}
use Rattle.extent.specs.Extent.{far_edge, span_of, lon_span, lat_span, holds, meet, inside, lon_holds, lon_used, lon_inward, lon_meet}
use Rattle.judge.specs.Judge.{same_name, same_rank, judged_lines, judged_limits, judged_grids, judged_ranks, judged}
use Rattle.choice.specs.Choice.{better_of, chosen}
use Rattle.ingroup.specs.InGroup.{chosen_in}
use Rattle.cell.specs.Cell.{cell_index, cell_along, weights_of, used_some, value_of}
use Rattle.day.specs.Day.{ramp_factor, shape_factor, sum_of, factor_of, result_of}
use Rattle.fix.specs.Fix as F
use Rattle.lookup.specs.Lookup.{offset_of, fix_at, looked_in, looked}
use Rattle.region.specs.First.{first_in_row, first_in_rows, first_in}
use Rattle.flat.specs.Order.{of_rank, by_rank}
use Rattle.coverage.specs.InForce.{entries_of}
use Rattle.inforce.specs.Area.{area_fits, area_judged}
use Rattle.inforce.specs.InForce.{in_force_of}
use Rattle.marked.specs.Marked.{CaseHolds, AllHold, table}

pub all_marked : AllHold table
unfolding AllHold CaseHolds table first gain nearest round_z byte_fits name_fits name_blank head_fits grid_fits grid_blank
    far_edge span_of lon_span lat_span holds meet inside same_name same_rank refuse_if refuse_first judged_lines judged_limits judged_grids judged_ranks judged
    better_of chosen cell_index cell_along weights_of used_some value_of ramp_factor shape_factor sum_of factor_of result_of
    F.cell_of F.corners_at F.corners_of F.corner_some F.value_in F.result_at F.fix_in
    lon_holds lon_used lon_inward lon_meet chosen_in offset_of fix_at looked_in looked first_in_row first_in_rows first_in of_rank by_rank entries_of area_fits area_judged in_force_of
all_marked = (refl, (refl, (refl, (refl, (refl, (refl, (refl, (refl, (refl, (refl, (refl, (refl, (refl, (refl, tt))))))))))))))
