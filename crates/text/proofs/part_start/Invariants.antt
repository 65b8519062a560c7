-- `text::part_start` meets its contract.
use Prim.Native.Nat.{◌≤◌, ◌+◌, ◌-◌}
use mathlib.Core.Path.{◌≡◌}
use lib.ListN.{length, drop}
use Rattle.text.specs.Parts.{start_of}
use Rattle.text.proofs.part_start.Given as goal

abbrev pub invariant-loop : goal.invariant-loop
invariant-loop l = (l.i ≤ length l.s) × (l.i + start_of l.c (drop l.i l.s) (l.k - l.counter) ≡ start_of l.c l.s l.k)
