-- Order 6 of document 02 in its own words, of the limits.
use Rattle.std.specs.Prelude.{◌≤◌, ◌≡◌, true, ◌↔◌, ℤ, nat_abs}
use Rattle.group.specs.Numbers.{value_fits}
use Rattle.group.specs.Limits.{spacing_fits}

-- 'Spacing sizes now go to 36,000,000': the spacings that 2 lets pass, and only those
abbrev pub SpacingSizes : ℤ → Type 0
SpacingSizes d = (spacing_fits d ≡ true) ↔ ((1 ≤ nat_abs d) × (nat_abs d ≤ 36000000))

-- 'and node values to ±2,147,483,647'
abbrev pub ValueSizes : ℤ → Type 0
ValueSizes v = (value_fits v ≡ true) ↔ (nat_abs v ≤ 2147483647)
