-- `node`: the mark, or the node by the bits.
use mathlib.Core.Path.{sym, ◌∙◌}
use mir.Syntax.{w32}
use mir.ValLaws.{to_z-of_z}
use Rattle.nodes.specs.Load.{node_of}
use Rattle.nodes.proofs.High.{ByBits, by_bits}
use Rattle.nodes.proofs.node.Goals as goal

pub returns-then-marked : goal.returns-then-marked
unfolding node_of
returns-then-marked c = rw (← c.marked.ensures, c.if-marked.true)

pub float_to_bits-x : goal.float_to_bits-x
float_to_bits-x c =
    let bits : ByBits c.args.q c.args.flag c.args.x =
    by_bits c.args.q c.args.flag c.args.x c.well_formed.0.1 (sym c.marked.ensures ∙ c.if-marked.false) c.requires.1 in
    (bits).read.number

pub bits_node-requires : goal.bits_node-requires
bits_node-requires c =
    let bits : ByBits c.args.q c.args.flag c.args.x =
    by_bits c.args.q c.args.flag c.args.x c.well_formed.0.1 (sym c.marked.ensures ∙ c.if-marked.false) c.requires.1 in
    (c.requires.0, (bits).number, (bits).small)

pub returns : goal.returns
returns c =
    let bits : ByBits c.args.q c.args.flag c.args.x =
    by_bits c.args.q c.args.flag c.args.x c.well_formed.0.1 (sym c.marked.ensures ∙ c.if-marked.false) c.requires.1 in
    to_z-of_z w32 _ (record { sfits = c.bits_node.type_inv }) ∙ c.bits_node.ensures ∙ (bits).node
