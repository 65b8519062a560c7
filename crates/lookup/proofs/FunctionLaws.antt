-- The functions among a group's numbers are those of the group.
use Prim.Native.Nat.{ℕ, ◌+◌, ◌-◌, ◌*◌, ◌≤◌, ◌<◌}
use mathlib.Core.Path.{◌≡◌, sym, ap, ◌∙◌}
use mathlib.Core.List.{List}
use native.Mathlib.Omega.{arith}
use lib.IntN.{ℤ, pos}
use lib.ListN.{get_or, drop}
use lib.Seq.{get_or-take, get_or-drop}
use Rattle.group.specs.Numbers.{functions_most}
use Rattle.group.specs.Record.{function_at}
use Rattle.group.specs.Limits.{function_fits}
use Rattle.abi.specs.Words.{head_words, function_words, grids_from, function_index}
use Rattle.abi.specs.Abi.{function_of, function_of_words, group_of_words}
use Rattle.abi.proofs.EntryLaws.{function_of_words_lem}
use Rattle.flat.specs.Functions.{signed_at, function_in}
use Rattle.judge.specs.Judge.{judged}
use Rattle.judge.proofs.Accepted.{accepted, accepted_head}
use Rattle.day.specs.Day.{factor_of}
use Rattle.day.specs.Flat.{factor_in}
use Rattle.day.proofs.DayLaws.{flat_factor}
use Rattle.lookup.specs.Flat.{function_rows, FunctionsFit}
use Rattle.std.specs.Prelude.{Ok}

module _ (ns : List ℤ) where
  number : (k j i : ℕ) → k < functions_most → j < function_words → i ≡ k * function_words + j → signed_at (function_rows ns) i ≡ get_or ns (function_index k j) (pos 0)
  number k j i l m e =
      get_or-take (grids_from - head_words) (drop head_words ns) i (pos 0) (omega arith) ∙ get_or-drop head_words ns i (pos 0)
      ∙ ap (λ (n : ℕ). get_or ns n (pos 0)) (omega arith)

  row : (k : ℕ) → k < functions_most → function_in (function_rows ns) k ≡ function_at (group_of_words ns) k
  unfolding function_in function_of_words
  row k l =
      let kind = number k 0 (k * function_words) l (omega arith) (omega arith) in
      let a = number k 1 (k * function_words + 1) l (omega arith) (omega arith) in
      let b = number k 2 (k * function_words + 2) l (omega arith) (omega arith) in
      let c = number k 3 (k * function_words + 3) l (omega arith) (omega arith) in
      let d = number k 4 (k * function_words + 4) l (omega arith) (omega arith) in
      (λ i. function_of (kind i) (a i) (b i) (c i) (d i)) ∙ sym (function_of_words_lem ns k l)

  module _ (e : judged (group_of_words ns) ≡ Ok tt) where
    few : (group_of_words ns).functions ≤ functions_most
    few = (accepted_head (group_of_words ns) e).functions

    pub rows_fit : FunctionsFit ns (group_of_words ns).functions
    rows_fit k l = ap function_fits (row k (omega (arith, few))) ∙ (accepted (group_of_words ns) e).function k l

    pub rows_factor : (t : ℤ) → factor_in (function_rows ns) (group_of_words ns).functions t ≡ factor_of (group_of_words ns).function (group_of_words ns).functions t
    rows_factor t = flat_factor (function_rows ns) (group_of_words ns).function (group_of_words ns).functions t (λ i l. row i (omega (arith, few)))
