-- The number that two words say.
use Rattle.std.specs.Prelude.{ℕ, ◌+◌, ◌*◌, ◌^◌}
use Rattle.pair.specs.declared.Pair.{Pair}

unfoldable pub pair_value : Pair → ℕ
pair_value n = n.high * 2 ^ 64 + n.low
