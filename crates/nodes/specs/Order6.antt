-- Order 6 of document 02 in its own words, of loading.
use Rattle.std.specs.Prelude.{ℕ, ◌<◌, ◌≡◌, true, false, ◌⊎◌, ◌↔◌, nat_abs, Float}
use Rattle.group.specs.Numbers.{mark}
use Rattle.nodes.specs.Load.{marks, steps, infinite, refused_float}

-- 'Refusals .. 11 read the new limits': a float is refused exactly where it isn't loaded as the mark, and is infinite or rounds beyond the limit
abbrev pub FloatsRefused : ℕ → (flag x : Float) → Type 0
FloatsRefused q flag x = (refused_float q flag x ≡ true) ↔ ((marks flag x ≡ false) × ((infinite x ≡ true) ⊎ (2147483647 < nat_abs (steps q x))))

-- 'the mark stays': what rounds to -2,147,483,648 is refused, and never the mark
abbrev pub NeverTheMark : ℕ → (flag x : Float) → Type 0
NeverTheMark q flag x = marks flag x ≡ false → steps q x ≡ mark → refused_float q flag x ≡ true
