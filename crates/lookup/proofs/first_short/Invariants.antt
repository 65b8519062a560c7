-- `first_short` meets its contract, by the loop of FirstLaws.
use Prim.Native.Nat.{ℕ}
use mathlib.Core.Bool.{Bool}
use mathlib.Core.List.{List}
use lib.Dec.{ltb}
use Rattle.numbers.proofs.FirstLaws.{Passed}
use Rattle.flat.specs.Frames.{frame_at, frame_end}
use Rattle.lookup.proofs.first_short.Given as goal

abbrev pub late : List ℕ → ℕ → ℕ → ℕ → Bool
late frames np count k = ltb count (frame_end np (frame_at frames k))

abbrev pub invariant-loop-i : goal.invariant-loop-i
invariant-loop-i l = Passed (late l.frames l.np l.count) l.n l.i
