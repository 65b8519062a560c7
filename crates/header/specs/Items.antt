-- Several records, one to a line.
use Rattle.std.specs.Prelude.{ℕ, zero, suc, ◌-◌, ◌≤◌, ◌≡◌, length, drop, replicate, List, [], ◌∷◌, ◌++◌, Result, Ok, Err, MatchResult}
use Rattle.text.specs.Parts.{split}
use Rattle.group.specs.declared.Refusal.{Refusal}
use Rattle.group.specs.Refusals.{refusal}

-- some lines read as records: the first refusal, or the records and the parts behind them
pub data Items (A : Type 0) : Type 0 where
  refused : Refusal → Items A
  items : List A → List (List ℕ) → Items A

module _ {A : Type 0} where
  abbrev pub on_line : Result A Refusal → Items A → Items A
  on_line (Err r) is = refused r
  on_line (Ok a) (refused r) = refused r
  on_line (Ok a) (items xs ls) = items (a ∷ xs) ls

  -- k records from line n on. The parts of a text at its line feeds are its closed lines and what stands behind the last line
  -- feed, which is no line
  abbrev pub read_items : (ℕ → List ℕ → Result A Refusal) → ℕ → ℕ → List (List ℕ) → Items A
  read_items read zero n ls = items [] ls
  read_items read (suc k) n [] = refused (refusal 1 n)
  read_items read (suc k) n (l ∷ []) = refused (refusal 1 n)
  read_items read (suc k) n (l ∷ m ∷ ls) = on_line (read n l) (read_items read k (suc n) (m ∷ ls))

  -- each line closed by a line feed
  abbrev pub closed : (A → List ℕ) → List A → List ℕ
  closed text [] = []
  closed text (a ∷ xs) = text a ++ 10 ∷ closed text xs

  -- the entries of an array of n: the records, and z in the unused ones
  abbrev pub entries : ℕ → A → List A → List A
  entries n z xs = xs ++ replicate (n - length xs) z

  -- the lines of a text read as records, of which `is` says which they are: the records, and the place behind the last line, or the first refusal
  abbrev pub Are : (text : List ℕ) → Items A → List A → Result ℕ Refusal → Type 0
  Are text is xs r = MatchResult r (λ next. (is ≡ items xs (split 10 (drop next text))) × (next ≤ length text)) (λ q. is ≡ refused q)
