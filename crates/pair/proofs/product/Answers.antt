-- `product`: its high word and its low one.
use Prim.Native.Nat.{◌*◌, ◌^◌}
use native.Mathlib.Nat.{div-add-mod'}
use Rattle.pair.specs.Pair.{pair_value}
use Rattle.pair.proofs.product.Goals as goal

pub returns : goal.returns
unfolding pair_value
returns c = rw (c.from.ensures, c.from-2.ensures) (div-add-mod' (c.args.a * c.args.p) (2 ^ 64))
