-- `grid_name_byte` meets its contract.
use Prim.Native.Nat.{ℕ, ◌+◌, ◌*◌, ◌/◌, ◌%◌}
use mathlib.Core.Path.{◌≡◌, sym, ap, ◌∙◌}
use native.Mathlib.Omega.{arith}
use Rattle.group.specs.Numbers.{name_most}
use Rattle.abi.specs.Words.{grid_words, grids_from, grid_index}
use Rattle.abi.specs.Abi.{count_at, byte_of, name_of_words, grid_of_words}
use Rattle.abi.proofs.ListLaws.{get_or_list_of}
use Rattle.abi.proofs.grid_name_byte.Goals as goal

pub returns : goal.returns
unfolding name_of_words grid_of_words
returns c =
    let ns = c.args.numbers.now in let k = c.args.k in let i = c.args.i in
    let at : k * grid_words + grids_from + i / 8 ≡ grid_index k 0 + i / 8 = omega arith in
    c.byte_of.ensures
    ∙ ap (λ (w : ℕ). byte_of w (i % 8)) (c.count_at.ensures ∙ ap (count_at ns) at)
    ∙ sym (get_or_list_of (λ j. byte_of (count_at ns (grid_index k 0 + j / 8)) (j % 8)) name_most i 0 c.requires.1)
