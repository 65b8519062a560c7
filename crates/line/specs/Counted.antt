-- As a record's unsigned number, a number below zero is beyond every limit: what inner functions make of a line's numbers.
use Rattle.std.specs.Prelude.{ℤ}
use Rattle.numbers.specs.Order.{count_of}
use Rattle.group.specs.declared.Name.{Name}
use Rattle.group.specs.declared.Unit as U
use Rattle.group.specs.declared.Grid.{Grid}
use Rattle.line.specs.declared.Head.{Head}

abbrev pub counted_head : Name → U.Unit → ℤ → ℤ → ℤ → ℤ → Head
counted_head n u a b c d =
    record { name = n; unit = u; quantum = count_of a; parameters = count_of b; functions = count_of c; grids = count_of d }

abbrev pub counted_grid : Name → ℤ → ℤ → ℤ → ℤ → ℤ → ℤ → ℤ → ℤ → Grid
counted_grid n a b c d e f g h =
    record {
      name = n;
      lon = record { 0 = a };
      lat = record { 0 = b };
      dlon = c;
      dlat = d;
      ni = count_of e;
      nj = count_of f;
      rank = count_of g;
      start = count_of h;
    }
