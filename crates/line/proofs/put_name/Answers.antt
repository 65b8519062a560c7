-- `line::put_name` meets its contract.
use mathlib.Core.List.{[], ◌∷◌}
use Rattle.text.proofs.PutLaws.{wrote_both}
use Rattle.line.specs.Names.{name_text}
use Rattle.line.proofs.put_name.Goals as goal

pub returns : goal.returns
returns c =
    let a = c.args in
    wrote_both a.at (9 ∷ []) (name_text a.name) a.out.now _ _ _ _ c.put_byte-p.ensures c.put_front.ensures c.requires.1
