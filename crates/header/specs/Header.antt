-- Reading and writing a header: document 01's 'Header text', refusals 1 to 5 and 12.
use Rattle.std.specs.Prelude.{ℕ, List, ltb, length, Result, Ok, Err, ⊤}
use Rattle.text.specs.Put.{put}
use Rattle.group.specs.declared.Function.{Function}
use Rattle.group.specs.declared.Grid.{Grid}
use Rattle.group.specs.declared.Group.{Group}
use Rattle.judge.specs.Judge.{judged}
use Rattle.group.specs.declared.Refusal.{Refusal}
use Rattle.group.specs.Refusals.{refuse_if, unless_refused, lent_after, refusal_of}
use Rattle.header.specs.Whole.{Header, stopped, header, read_lines, group_of_lines, header_text}

-- a group that was read: its judge's refusal, else the group
abbrev pub verdict_reading : Group → Result ⊤ Refusal → Result Group Refusal
verdict_reading g v = unless_refused Err v (Ok g)

-- the lines that were read: their refusal, else the group that they make, judged
abbrev pub judged_reading : Header Function Grid → Result Group Refusal
judged_reading (stopped r) = Err r
judged_reading (header h rs ds) = verdict_reading (group_of_lines h rs ds) (judged (group_of_lines h rs ds))

-- reading goes line by line, 1 before 2 on one line, then 3, 4, 5
unfoldable pub read_header : List ℕ → Result Group Refusal
read_header text = judged_reading (read_lines text)

-- what writing answers: 2 to 5, then 12, else the count of bytes
unfoldable pub written : Group → ℕ → Result ℕ Refusal
written g room =
    unless_refused Err (judged g)
    (refuse_if Err (ltb room (length (header_text g))) 12 0
    (Ok (length (header_text g))))

-- the count that writing hands back, 0 beside a refusal
abbrev pub written_count : Result ℕ Refusal → ℕ
written_count (Ok n) = n
written_count (Err r) = 0

-- what the lent bytes are then: the text from the first on, and all behind it as it was; after a refusal all is as it was
unfoldable pub bytes_after : Group → List ℕ → List ℕ
bytes_after g out = lent_after (refusal_of (written g (length out))) (put 0 (header_text g) out) out
