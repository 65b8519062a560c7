-- `line::is_name` meets its contract.
use mathlib.Core.Path.{◌≡◌, sym, ap, ◌∙◌}
use mathlib.Core.Bool.{Bool, ◌&&◌}
use mathlib.Core.Logic.{◌↔◌}
use borrow.Author.Rules.{rules}
use lib.Dec.{leb}
use lib.ListN.{length}
use Rattle.std.specs.Prelude.{IsTrue, All}
use Rattle.numbers.proofs.Bools.{same_test}
use Rattle.group.specs.Numbers.{name_most}
use Rattle.group.specs.Limits.{name_byte}
use Rattle.line.specs.Names.{all_name_bytes, is_name}
use Rattle.line.proofs.NameLaws.{bytes_at, bytes_all}
use Rattle.line.proofs.is_name.Goals as goal

pub returns-then-contains : goal.returns-then-contains
unfolding is_name
returns-then-contains c =
    let s = c.args.s.now in
    let each : IsTrue c.all.result ↔ All (λ b. IsTrue (name_byte b)) s = search rules in
    let sized : c.contains.result ≡ (leb 1 (length s) && leb (length s) name_most) = search rules in
    same_test c.all.result (all_name_bytes s) (λ t. bytes_all s (λ k l. each.0 t k 0 l)) (λ t. each.1 (λ k d l. bytes_at s k d t l))
    ∙ ap (λ (t : Bool). t && all_name_bytes s) (sym c.if-contains.true ∙ sized)

pub returns-else-contains : goal.returns-else-contains
unfolding is_name
returns-else-contains c =
    let s = c.args.s.now in
    let sized : c.contains.result ≡ (leb 1 (length s) && leb (length s) name_most) = search rules in
    c.if-contains.false ∙ ap (λ (t : Bool). t && all_name_bytes s) (sym c.if-contains.false ∙ sized)
