-- `text::put_bytes` meets its contract.
use Prim.Native.Nat.{◌+◌, ◌-◌}
use mathlib.Core.Path.{◌≡◌, refl}
use native.Mathlib.Omega.{arith}
use lib.ListN.{length}
use lib.Seq.{drop-drop}
use Rattle.text.specs.Put.{put}
use Rattle.text.proofs.put_bytes.Goals as goal

pub returns : goal.returns
unfolding put
returns c =
    let a = c.args in
    let k : a.at + length a.s.now - a.at ≡ length a.s.now = omega arith in
    record { place = refl; holds = rw (c.copy_from_slice.ensures.after, k, drop-drop) }
