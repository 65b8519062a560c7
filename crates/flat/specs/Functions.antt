-- Functions in a flat list of signed numbers, as they stand among those of a group: kind and four numbers for each.
use Rattle.std.specs.Prelude.{ℕ, ◌+◌, ◌*◌, List, ℤ, pos, get_or}
use Rattle.group.specs.declared.Function.{Function}
use Rattle.abi.specs.Words.{function_words}
use Rattle.abi.specs.Abi.{function_of}

-- the number at i, from 0
abbrev pub signed_at : List ℤ → ℕ → ℤ
signed_at functions i = get_or functions i (pos 0)

-- function k, from 0
unfoldable pub function_in : List ℤ → ℕ → Function
function_in functions k =
    let at = k * function_words in
    function_of (signed_at functions at) (signed_at functions (at + 1)) (signed_at functions (at + 2)) (signed_at functions (at + 3)) (signed_at functions (at + 4))
