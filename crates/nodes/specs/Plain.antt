-- What the loader's inner functions answer: plain floats, which are told by their value alone, and floats taken block by block.
use Rattle.std.specs.Prelude.{ℕ, ◌-◌, ◌*◌, ◌≤◌, ◌<◌, ◌≡◌, Bool, true, false, ◌&&◌, List, map, ℤ, length, take, get_or, Float}
use Rattle.std.specs.Float.{nan, binary32}
use Rattle.std.specs.Float.Ieee.{of_bits, le, ne, neg}
use Rattle.nodes.specs.Load.{refused_float, node_of}

-- the bits of the greatest float that is no more than the limit of node values when rounded: 2,147,483,520
abbrev pub greatest_bits : ℕ
greatest_bits = 1325400063

-- that float over 2 to the power q: the greatest that is loaded
unfoldable pub greatest : ℕ → Float
greatest q = of_bits binary32 (greatest_bits - q * 8388608)

-- no farther from 0 than hi, and another value than the flag's
unfoldable pub plain_float : Float → Float → Float → Bool
plain_float hi flag x = (le (neg hi) x && le x hi) && ne x flag

-- the floats from a up to e are plain
abbrev pub AllPlain : Float → Float → List Float → ℕ → ℕ → Type 0
AllPlain hi flag floats a e = (k : ℕ) → a ≤ k → k < e → plain_float hi flag (get_or floats k nan) ≡ true

-- k is the first index from a on, and before e, of a float that is refused, or e where none is
pub record FirstFrom (q : ℕ) (flag : Float) (floats : List Float) (a e k : ℕ) : Type 0 where
  pub from : a ≤ k
  pub to : k ≤ e
  pub clear : (j : ℕ) → a ≤ j → j < k → refused_float q flag (get_or floats j nan) ≡ false
  pub found : k < e → refused_float q flag (get_or floats k nan) ≡ true

-- there are as many nodes as floats, and the first k are those of the first k floats
pub record Filled (q : ℕ) (flag : Float) (floats : List Float) (k : ℕ) (nodes : List ℤ) : Type 0 where
  pub many : length nodes ≡ length floats
  pub front : take k nodes ≡ map (node_of q flag) (take k floats)
