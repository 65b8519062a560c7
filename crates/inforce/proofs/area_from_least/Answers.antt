-- `area_from_least` meets its contract.
use Rattle.inforce.proofs.area_from_least.Goals as goal

pub returns : goal.returns
returns c =
    rw (
      c.lon_from_least.ensures,
      c.lon_from_least-2.ensures,
      c.lat_from_least.ensures,
      c.lat_from_least-2.ensures,
    )
