-- `names_grid`: the name is the grid's where the rest of it is the rest of the grid's.
use mathlib.Core.Path.{◌≡◌}
use lib.ListN.{drop}
use Rattle.text.specs.Fields.{same}
use Rattle.line.specs.Names.{name_text}
use Rattle.abi.specs.Abi.{grid_of_words}
use Rattle.logs.proofs.names_grid.Given as goal

abbrev pub invariant-loop-i : goal.invariant-loop-i
invariant-loop-i l =
    same (drop l.i l.name) (drop l.i (name_text (grid_of_words l.words l.k).name)) ≡ same l.name (name_text (grid_of_words l.words l.k).name)
