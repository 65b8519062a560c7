-- What a division leaves. Inner functions cite it.
use Rattle.std.specs.Prelude.{ℕ, ◌+◌, ◌*◌, ◌<◌, ◌≡◌}
use Rattle.pair.specs.declared.Part.{Part}

-- n over d: the whole quotient, and the rest, which lies below the divisor
pub record Parts (n d : ℕ) (p : Part) : Type 0 where
  pub whole : p.quotient * d + p.rest ≡ n
  pub below : p.rest < d
