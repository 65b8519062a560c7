-- `name_of_words` meets its contract.
use Prim.Native.Nat.{ℕ, ◌+◌, ◌/◌, ◌%◌}
use mathlib.Core.Path.{◌≡◌, sym, ap, ◌∙◌}
use mathlib.Core.List.{[], ◌∷◌}
use native.Mathlib.Omega.{arith}
use lib.ListN.{get_or}
use Rattle.group.specs.Numbers.{name_most}
use Rattle.abi.specs.Abi.{count_at, byte_of, name_of_words}
use Rattle.abi.proofs.ListLaws.{list_of_same, get_or_three}
use Rattle.abi.proofs.name_of_words.Goals as goal

pub returns : goal.returns
unfolding name_of_words
returns c =
    let ns = c.args.numbers.now in let k = c.args.k in
    let x = c.count_at in let y = c.count_at-2 in let z = c.count_at-3 in
    let from : k + 0 ≡ k = omega arith in
    let words = get_or_three x.result y.result z.result 0 (λ q. count_at ns (k + q)) (ap (count_at ns) from ∙ sym x.ensures) (sym y.ensures) (sym z.ensures) in
    let bytes = c.bytes_of-bytes.ensures
    ∙ list_of_same (λ j. byte_of (get_or (x.result ∷ y.result ∷ z.result ∷ []) (j / 8) 0) (j % 8)) (λ j. byte_of (count_at ns (k + j / 8)) (j % 8)) name_most
    (λ j b. ap (λ (w : ℕ). byte_of w (j % 8)) (words (j / 8) (omega arith))) in
    λ i. record { bytes = bytes i; len = c.args.len }
