-- What loading floats into nodes means: document 01, 'Loading and showing' and refusals 2, 12 and 11.
use Rattle.std.specs.Prelude.{ℕ, ◌*◌, ◌^◌, Bool, true, false, not, cond, ◌&&◌, ◌||◌, List, map, ltb, eqb, ℤ, pos, neg_ℤ, length, get_or, Float, Result, Ok, Err, ⊤}
use Rattle.std.specs.Float.{nan, inf, fin, binary32}
use Rattle.std.specs.Float.Ieee.{is_nan, to_bits, up, down}
use Rattle.numbers.specs.Round.{round_z}
use Rattle.numbers.specs.First.{first}
use Rattle.group.specs.declared.Refusal.{Refusal}
use Rattle.group.specs.Numbers.{quantum_most, mark, value_fits}
use Rattle.group.specs.Refusals.{refuse_if, refuse_first, lent_after, refusal_of}

-- n, below zero where s is true
abbrev pub signed : Bool → ℕ → ℤ
signed false n = pos n
signed true n = neg_ℤ (pos n)

-- x becomes the mark: a NaN, or bits equal to the flag's; a NaN as the flag adds nothing
unfoldable pub marks : Float → Float → Bool
marks flag x = is_nan x || (not (is_nan flag) && eqb (to_bits binary32 x) (to_bits binary32 flag))

-- the exact float, ±m · 2^e with 2^e = up e / down e, times 2 to the power q, rounded to nearest, ties to even; 0 for what is no number
unfoldable pub steps : ℕ → Float → ℤ
steps q nan = pos 0
steps q (inf s) = pos 0
steps q (fin s m e) = round_z (signed s (m * up e * 2 ^ q)) (down e)

abbrev pub infinite : Float → Bool
infinite nan = false
infinite (inf s) = true
infinite (fin s m e) = false

-- refusal 11: not loaded as the mark, and infinite or rounded beyond the limit of node values
unfoldable pub refused_float : ℕ → Float → Float → Bool
refused_float q flag x = not (marks flag x) && (infinite x || not (value_fits (steps q x)))

-- the node of a float that is not refused
unfoldable pub node_of : ℕ → Float → Float → ℤ
node_of q flag x = cond (marks flag x) mark (steps q x)

-- the index of the first float that is refused, and the count where none is
unfoldable pub first_refused : ℕ → Float → List Float → ℕ
first_refused q flag floats = first (λ i. refused_float q flag (get_or floats i nan)) (length floats)

-- what loading answers where n nodes are lent: Q by 2, then 12, then 11 at the first position, from 1
unfoldable pub loaded : ℕ → Float → List Float → ℕ → Result ⊤ Refusal
loaded q flag floats n =
    refuse_if Err (ltb quantum_most q) 2 0
    (refuse_if Err (not (eqb (length floats) n)) 12 0
    (refuse_first Err (λ i. refused_float q flag (get_or floats i nan)) (length floats) 11 1
    (Ok tt)))

-- the lent nodes afterwards: the node of each float; after a refusal as they were
unfoldable pub nodes_after : ℕ → Float → List Float → List ℤ → List ℤ
nodes_after q flag floats nodes = lent_after (refusal_of (loaded q flag floats (length nodes))) (map (node_of q flag) floats) nodes
