-- Order 6 of document 02 in its own words, of what a corner holds.
use Rattle.std.specs.Prelude.{◌≡◌, Bool, true, ℤ, pos}
use Rattle.numbers.specs.Order.{between}
use Rattle.group.specs.Numbers.{value_most, mark, is_mark}
use Rattle.cell.specs.Cell.{is_beyond}

-- a 32-bit number
abbrev pub in_word : ℤ → Bool
in_word v = between mark (pos value_most) v

-- 'node values to ±2,147,483,647; the mark stays': of the 32-bit numbers the mark, and only that, is beyond the limit of node values
abbrev pub MarkOrValue : ℤ → Type 0
MarkOrValue v = in_word v ≡ true → is_mark v ≡ is_beyond v
