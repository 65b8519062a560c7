-- Where a line is cut into its fields: what the inner functions keep that walk it once.
use Rattle.std.specs.Prelude.{ℕ, ◌+◌, ◌<◌, ◌≡◌, List, length, get_or}
use Rattle.text.specs.Parts.{split, start_of, end_of}

-- as many fields are kept
abbrev pub fields_most : ℕ
fields_most = 10

-- entry k is where field k starts, and the next one stands behind its end
pub record Cut (line cuts : List ℕ) (k : ℕ) : Type 0 where
  pub starts : get_or cuts k 0 ≡ start_of 9 line k
  pub ends : get_or cuts (k + 1) 0 ≡ end_of 9 line k + 1

-- so for every field that is kept
abbrev pub Cuts : List ℕ → List ℕ → Type 0
Cuts line cuts = (k : ℕ) → k < length (split 9 line) → k < fields_most → Cut line cuts k
