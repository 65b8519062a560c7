-- `text::put_byte` meets its contract.
use mathlib.Core.Path.{refl}
use Rattle.text.proofs.PutLaws.{put_one}
use Rattle.text.proofs.put_byte.Goals as goal

pub returns : goal.returns
returns c = record { place = refl; holds = put_one c.args.at c.args.b c.args.out.now c.requires }
