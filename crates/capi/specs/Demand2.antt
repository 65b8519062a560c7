-- Demand 2's same bytes through the C structs: the struct that an accepted reading fills is handed on as the group that was read, and writing
-- it into enough bytes gives the text, with all behind it as it was.
use Rattle.std.specs.Prelude.{ℕ, ◌≤◌, ◌≡◌, List, ℤ, length, Ok}
use Rattle.group.specs.Refusals.{no_refusal}
use Rattle.header.specs.Header.{read_header}
use Rattle.header.specs.Demand2.{InFront}
use Rattle.abi.specs.Abi.{group_of_words}
use Rattle.capi.specs.Answers.{Answer, Text, read_answer, write_answer}

-- the text is written back
pub record WrittenBack (text out : List ℕ) (a : Answer Text) : Type 0 where
  pub accepted : a.refusal ≡ no_refusal
  pub count : a.lent.count ≡ length text
  pub bytes : InFront text out a.lent.bytes

-- of an accepted reading
pub record ReadBack (text : List ℕ) (group : List ℤ) : Type 0 where
  pub same_group : read_header text ≡ Ok (group_of_words (read_answer text group).lent)
  pub same_bytes : (out : List ℕ) → length text ≤ length out → WrittenBack text out (write_answer (read_answer text group).lent out)
