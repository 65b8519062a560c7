-- Order 6 of document 02 in its own words, of our own log writer.
use Rattle.std.specs.Prelude.{ℕ, ◌≡◌, List, ℤ}
use Rattle.group.specs.declared.Group.{Group}
use Rattle.group.specs.declared.Position.{Position}
use Rattle.lookup.specs.Order6.{WordNodes}
use Rattle.logs.specs.Writing.{line_written}
use Rattle.group.specs.Refusals.{refusal_of}

-- 'so no lookup refuses by 11': nor does the writer, into output of any length
abbrev pub NoLineBy11 : Group → List ℤ → Position → ℕ → Type 0
NoLineBy11 g nodes p room = WordNodes nodes → (refusal_of (line_written g nodes p room)).number ≡ 11 → ⊥
