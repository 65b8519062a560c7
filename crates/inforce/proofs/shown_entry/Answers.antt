-- `shown_entry` meets its contract: the coordinate is in mas.
use mathlib.Core.Path.{refl}
use Rattle.inforce.proofs.shown_entry.Goals as goal

pub returns : goal.returns
returns c = rw (c.lon_at.ensures, c.lat_at.ensures) refl
