-- Demand 2 of loading in its own words, of what the call answers and leaves in the lent nodes.
use Rattle.std.specs.Prelude.{ℕ, ◌*◌, ◌^◌, ◌≤◌, ◌<◌, ◌≡◌, Bool, true, false, List, ℤ, pos, nat_abs, length, get_or, Float, Result, ⊤}
use Rattle.std.specs.Float.{nan}
use Rattle.std.specs.Float.Ieee.Exact.{HasValue}
use Rattle.numbers.specs.Round.{nearest}
use Rattle.group.specs.Numbers.{mark, value_most}
use Rattle.group.specs.declared.Refusal.{Refusal}
use Rattle.nodes.specs.Load.{signed, marks}
use Rattle.group.specs.Refusals.{refusal_of}

-- v is the node of the float x
pub record IsNode (q : ℕ) (flag x : Float) (v : ℤ) : Type 0 where
  -- a NaN, or bits equal to the flag's, becomes the mark, and nothing else does
  pub marked : marks flag x ≡ true → v ≡ mark
  pub only : v ≡ mark → marks flag x ≡ true
  -- any other float, whose exact value is a / c, below zero where s is true, becomes the nearest whole number to it times 2 to the power q,
  -- a tie the even one
  pub rounded : marks flag x ≡ false → (s : Bool) (a c : ℕ) → 0 < c → HasValue x s a c → v ≡ signed s (nearest (a * 2 ^ q) c)
  -- within the limit of node values
  pub small : marks flag x ≡ false → nat_abs v ≤ value_most

-- l answers the loading of floats into `nodes`, which are `after` then
pub record NodesLoaded (q : ℕ) (flag : Float) (floats : List Float) (nodes : List ℤ) (l : Result ⊤ Refusal) (after : List ℤ) : Type 0 where
  -- accepted: as many nodes as floats, and each is its float's
  pub lent : (refusal_of l).number ≡ 0 → length floats ≡ length nodes
  pub count : (refusal_of l).number ≡ 0 → length after ≡ length floats
  pub each : (refusal_of l).number ≡ 0 → (i : ℕ) → i < length floats → IsNode q flag (get_or floats i nan) (get_or after i (pos 0))
  -- after a refusal the nodes are as they were
  pub kept : ((refusal_of l).number ≡ 0 → ⊥) → after ≡ nodes
