-- What the inner function that rounds asks of the size of its quotients.
use Rattle.std.specs.Prelude.{ℕ, ◌%◌, ◌≡◌}

abbrev pub Even : ℕ → Type 0
Even n = n % 2 ≡ 0
