-- What the inner functions that search a row answer.
use Rattle.std.specs.Prelude.{◌≡◌, true, false, List, ℕ, ◌≤◌, ◌<◌}
use Rattle.region.specs.declared.Row.{Row}
use Rattle.region.specs.declared.Row.TheVariants.{Open, Shut}
use Rattle.region.specs.Free.{free}

-- a row's answer: the westmost longitude that no rectangle holds, or a row up to which rectangles hold all of each row from this one on
abbrev pub RowAnswer : List ℕ → ℕ → ℕ → ℕ → ℕ → Row → Type 0
RowAnswer rs y west east north (Open x) = (west ≤ x) × (x ≤ east) × ((i : ℕ) → west ≤ i → i < x → free rs i y ≡ false) × (free rs x y ≡ true)
RowAnswer rs y west east north (Shut top) =
    (y ≤ top) × ((i j : ℕ) → west ≤ i → i ≤ east → y ≤ j → j ≤ top → free rs i j ≡ false)
