-- A text put into a list of bytes.
use Rattle.std.specs.Prelude.{ℕ, ◌+◌, List, ◌++◌, length, take, drop}

-- the list with the text from index at on, and all else as it was
unfoldable pub put : ℕ → List ℕ → List ℕ → List ℕ
put at text out = take at out ++ (text ++ drop (at + length text) out)
