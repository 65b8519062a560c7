-- `text::put_count` meets its contract.
use mathlib.Core.List.{[], ◌∷◌}
use Rattle.text.specs.Decimal.{decimal}
use Rattle.text.proofs.PutLaws.{wrote_both}
use Rattle.text.proofs.put_count.Goals as goal

pub returns : goal.returns
returns c =
    let a = c.args in
    wrote_both a.at (9 ∷ []) (decimal a.n) a.out.now _ _ _ _ c.put_byte-p.ensures c.put_digits.ensures c.requires
