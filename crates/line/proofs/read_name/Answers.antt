-- `line::read_name` meets its contract.
use mathlib.Core.Path.{sym, ◌∙◌}
use Rattle.line.proofs.NameLaws.{name_length}
use Rattle.line.proofs.read_name.Goals as goal

pub name_of-requires : goal.name_of-requires
name_of-requires c = (name_length c.args.s.now (sym c.is_name.ensures ∙ c.if-is_name.true)).1
