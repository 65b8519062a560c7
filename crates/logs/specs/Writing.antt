-- Document 02's order 4, our own writer: the one line of a position, refused as the lookup is, then by 12.
use Rattle.std.specs.Prelude.{ℕ, List, [], ◌∷◌, ◌++◌, ltb, ℤ, length, Result, Ok, Err}
use Rattle.text.specs.Put.{put}
use Rattle.group.specs.declared.Group.{Group}
use Rattle.group.specs.declared.Position.{Position}
use Rattle.group.specs.Refusals.{refuse_if, lent_after, refusal_of}
use Rattle.abi.specs.Abi.{list_of}
use Rattle.fix.specs.declared.Fix.{Fix}
use Rattle.fix.specs.Answers.{result_in}
use Rattle.lookup.specs.Lookup.{looked}
use Rattle.exercise.specs.Exercise.{point_at}
use Rattle.logs.specs.Line.{Entry, entry_text, grid_name}
use Rattle.group.specs.declared.Refusal.{Refusal}

-- what the lookup says of a position
abbrev pub entry_found : Group → Position → Fix → Entry
entry_found g p f = record { position = p; name = grid_name g f.grid; shifts = list_of (result_in f) g.parameters }

-- its line, with the line feed
unfoldable pub line_text : Group → Position → Fix → List ℕ
line_text g p f = entry_text (entry_found g p f) ++ (10 ∷ [])

-- it has at most so many bytes
abbrev pub line_most : ℕ
line_most = 102

-- the bytes of a lookup's line, none beside a refusal
abbrev pub found_text : Group → Position → Result Fix Refusal → List ℕ
found_text g p (Ok f) = line_text g p f
found_text g p (Err r) = []

-- the lookup's refusal, then 12, else the count of bytes
abbrev pub found_written : Group → Position → (room : ℕ) → Result Fix Refusal → Result ℕ Refusal
found_written g p room (Err r) = Err r
found_written g p room (Ok f) = refuse_if Err (ltb room (length (line_text g p f))) 12 0 (Ok (length (line_text g p f)))

-- what the lent bytes are then: the line from the first on, and all behind it as it was; after a refusal all is as it was
abbrev pub found_after : Group → Position → Result Fix Refusal → List ℕ → List ℕ
found_after g p found out = lent_after (refusal_of (found_written g p (length out) found)) (put 0 (found_text g p found) out) out

-- of the lookup of the position on its day
unfoldable pub line_written : Group → List ℤ → Position → (room : ℕ) → Result ℕ Refusal
line_written g nodes p room = found_written g p room (looked g nodes (point_at p) p.day)

unfoldable pub line_after : Group → List ℤ → Position → List ℕ → List ℕ
line_after g nodes p out = found_after g p (looked g nodes (point_at p) p.day) out
