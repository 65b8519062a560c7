-- `store_answer` meets its contract.
use mathlib.Core.Path.{◌≡◌, ap, ◌∙◌}
use Prim.Native.Nat.{◌*◌}
use mathlib.Core.List.{[], ◌∷◌}
use borrow.Author.Rules.{rules}
use lib.Seq.{sets}
use mir.Syntax.{w64}
use mir.Val.{to_z, of_z}
use mir.ValLaws.{to_z-of_z}
use Rattle.abi.proofs.NumberLaws.{told}
use Rattle.exercise.specs.Exercise.{answer_words}
use Rattle.exercise.proofs.store_answer.Goals as goal

pub returns : goal.returns
returns c =
    let a = c.args.a in
    let number = told c.as_stored.type_inv c.as_stored.ensures in
    let place = told c.as_stored-2.type_inv c.as_stored-2.ensures in
    let grid : to_z w64 (of_z w64 a.grid) ≡ a.grid = to_z-of_z w64 a.grid (search rules) in
    let first : to_z w64 (of_z w64 a.first) ≡ a.first = to_z-of_z w64 a.first (search rules) in
    let second : to_z w64 (of_z w64 a.second) ≡ a.second = to_z-of_z w64 a.second (search rules) in
    let third : to_z w64 (of_z w64 a.third) ≡ a.third = to_z-of_z w64 a.third (search rules) in
    c.store_numbers.ensures
    ∙ ap (sets c.args.results.now (c.args.k * answer_words)) (λ i. number i ∷ place i ∷ grid i ∷ first i ∷ second i ∷ third i ∷ [])
