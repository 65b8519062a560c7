-- The functions and grids of a group that a list of numbers stands for, one by one.
use Prim.Native.Nat.{ℕ, ◌<◌}
use mathlib.Core.Path.{◌≡◌}
use mathlib.Core.List.{List}
use lib.IntN.{ℤ}
use Rattle.group.specs.Numbers.{functions_most, grids_most}
use Rattle.group.specs.Blank.{blank_function}
use Rattle.group.specs.Record.{no_grid, function_at, grid_at}
use Rattle.abi.specs.Abi.{function_of_words, grid_of_words, group_of_words}
use Rattle.abi.proofs.ListLaws.{get_or_list_of}

pub function_of_words_lem : (ns : List ℤ) (k : ℕ) → k < functions_most → function_at (group_of_words ns) k ≡ function_of_words ns k
unfolding group_of_words
function_of_words_lem ns k l = get_or_list_of (function_of_words ns) functions_most k blank_function l

pub grid_of_words_lem : (ns : List ℤ) (k : ℕ) → k < grids_most → grid_at (group_of_words ns) k ≡ grid_of_words ns k
unfolding group_of_words
grid_of_words_lem ns k l = get_or_list_of (grid_of_words ns) grids_most k no_grid l
