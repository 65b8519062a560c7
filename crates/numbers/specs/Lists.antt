-- Lists of numbers: what stands at an index, what a list begins with, and what of it stays.
use Rattle.std.specs.Prelude.{ℕ, ◌≤◌, ◌<◌, ◌≡◌, List, length, get_or, take}

-- the number at i, from 0
abbrev pub at : List ℕ → ℕ → ℕ
at ns i = get_or ns i 0

-- each of the first n numbers is its own index
abbrev pub Indices : ℕ → List ℕ → Type 0
Indices n ns = (k : ℕ) → k < n → at ns k ≡ k

-- the first numbers of the list, as many as the count, are these
pub record Begins (ns list : List ℕ) (count : ℕ) : Type 0 where
  pub many : count ≡ length ns
  pub same : take count list ≡ ns

-- the list is as long as it was, and what stood from n on still stands there
pub record Kept (n : ℕ) (before after : List ℕ) : Type 0 where
  pub long : length after ≡ length before
  pub same : (j : ℕ) → n ≤ j → at after j ≡ at before j
