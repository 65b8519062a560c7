-- The group handed back beside a refusal: all numbers 0, names empty, the unit arc-second, every function a ramp.
use Rattle.std.specs.Prelude.{pos, replicate}
use Rattle.group.specs.Numbers.{name_most, functions_most, grids_most}
use Rattle.group.specs.declared.Name.{Name}
use Rattle.group.specs.declared.Shape.TheVariants as S
use Rattle.group.specs.declared.Function.{Function}
use Rattle.group.specs.declared.Grid.{Grid}
use Rattle.group.specs.declared.Group.{Group}
use Rattle.group.specs.declared.Unit.TheVariants.{ArcSecond}

abbrev pub blank_name : Name
blank_name = record { bytes = replicate name_most 0; len = 0 }

abbrev pub blank_function : Function
blank_function = record { shape = S.Ramp (record { a = pos 0; s0 = pos 0; b = pos 0; s1 = pos 0 }) }

abbrev pub blank_grid : Grid
blank_grid =
    record {
      name = blank_name;
      lon = record { 0 = pos 0 };
      lat = record { 0 = pos 0 };
      dlon = pos 0;
      dlat = pos 0;
      ni = 0;
      nj = 0;
      rank = 0;
      start = 0;
    }

abbrev pub blank_group : Group
blank_group =
    record {
      name = blank_name;
      unit = ArcSecond;
      quantum = 0;
      parameters = 0;
      functions = 0;
      grids = 0;
      function = replicate functions_most blank_function;
      grid = replicate grids_most blank_grid;
    }
