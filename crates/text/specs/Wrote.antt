-- What the inner functions that write a text leave.
use Rattle.std.specs.Prelude.{ℕ, ◌+◌, ◌≡◌, List, length}
use Rattle.text.specs.Put.{put}

-- what a writer leaves: the place behind the text, and the bytes with the text put in
pub record Wrote (at : ℕ) (text out : List ℕ) (next : ℕ) (after : List ℕ) : Type 0 where
  pub place : next ≡ at + length text
  pub holds : after ≡ put at text out
