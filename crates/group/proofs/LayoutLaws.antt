-- The words of a position in memory, as C has them: longitude, latitude, day.
use mathlib.Core.Path.{◌≡◌, refl}
use Rattle.group.specs.declared.Position.{Position}
use Rattle.group.specs.contracts.Position as position

pub position_words : (p : Position) → (position.the_type).to p ≡ ((p.lon.0, tt), ((p.lat.0, tt), (p.day, tt)))
position_words p = refl
