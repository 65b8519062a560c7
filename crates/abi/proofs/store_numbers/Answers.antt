-- `store_numbers` meets its contract.
use mathlib.Core.Path.{refl, sym, ap, ◌∙◌}
use mathlib.Core.List.{List, ◌++◌}
use native.Mathlib.Omega.{arith}
use lib.IntN.{ℤ}
use lib.ListN.{length, take, drop}
use lib.Seq.{sets-eq, take_all}
use Prim.Native.Nat.{◌+◌, ◌-◌}
use Rattle.std.proofs.lemmas.Slice.{put_mid-paste}
use Rattle.abi.proofs.store_numbers.Goals as goal

pub returns : goal.returns
returns c =
    let out = c.args.out.now in let k = c.args.k in let ns = c.args.numbers.now in
    put_mid-paste k (k + length ns - k) out c.copy_from_slice.new.self ns (length ns) c.copy_from_slice.ensures.after (omega arith) refl
    ∙ ap (λ (xs : List ℤ). take k out ++ xs ++ drop (k + length ns) out) (take_all (length ns) ns (omega arith))
    ∙ sym (sets-eq ns out k c.requires)
