-- `fill_block`: node by node, or, where all floats are plain, by their bits.
use mathlib.Core.Path.{◌≡◌, refl, ◌∙◌}
use mathlib.Core.Bool.{true}
use mathlib.Core.List.{List}
use Prim.Native.Nat.{ℕ, ◌≤◌, ◌<◌}
use native.Mathlib.Omega.{arith}
use lib.Dec.{T}
use lib.Ieee.{Float, nan, binary32, fits}
use lib.Ieee.Bits.{is_true}
use lib.ListN.{length, get_or}
use mir.Syntax.{w32}
use mir.ValLaws.{to_z-of_z}
use Rattle.group.specs.Numbers.{quantum_most}
use Rattle.nodes.specs.Load.{first_refused}
use Rattle.nodes.specs.Plain.{AllPlain, greatest}
use Rattle.nodes.proofs.High.{ByBits, by_bits}
use Rattle.nodes.proofs.Plain.{plain_unmarked}
use Rattle.nodes.proofs.Blocks.{none_refused, filled_more}
use Rattle.nodes.proofs.fill_block.Goals as goal
use Rattle.nodes.proofs.fill_block.Goals.{Then-plain, then-plain, else-plain}

-- the float at k, of those from a to e, which are all plain, by its bits
at_bits : (q : ℕ) (flag : Float) (l : List Float) (a e k : ℕ) → (q ≤ quantum_most) × (a ≤ e) × (e ≤ length l)
    → fits binary32 flag ≡ true → T (fits binary32 (get_or l k nan)) → AllPlain (greatest q) flag l a e → first_refused q flag l ≡ length l → a ≤ k → k < e
    → ByBits q flag (get_or l k nan)
at_bits q flag l a e k r f x p n b t =
    by_bits q flag (get_or l k nan) (is_true _ x)
    (plain_unmarked q flag (get_or l k nan) r.0 (is_true _ x) f (p k b t))
    (none_refused q flag l k n (omega arith))

bits : (c : Then-plain) → ByBits c.args.q c.args.flag (get_or c.args.floats.now c.loop-k.k nan)
bits c = at_bits _ _ _ c.args.a c.args.e _ c.requires.limits c.well_formed.1.1.1.0.1 (c.type_inv.floats _) (c.if-plain.ensures refl) c.requires.filled.1 c.loop-k.invariant.0 c.loop-k-test.true

pub float_to_bits-x : goal.float_to_bits-x
float_to_bits-x c = (bits c).read.number

pub bits_node-requires : goal.bits_node-requires
bits_node-requires c = (c.requires.limits.0, (bits c).number, (bits c).small)

pub node-requires : goal.node-requires
node-requires c =
    let p = c.requires.limits in
    (p.0, none_refused c.args.q c.args.flag c.args.floats.now c.loop-k.k c.requires.filled.1 (omega arith))

pub loop-k-preserved : goal.loop-k-preserved
loop-k-preserved c =
    let a = c.args in (
      omega arith,
      omega arith,
      filled_more a.q a.flag a.floats.now c.loop-k.nodes c.loop-k.k _ c.loop-k.invariant.2 (omega arith)
          (elim c.if-plain.branch [
            | then-plain w ↦ w.nodes-is ∙ to_z-of_z w32 _ (record { sfits = w.bits_node.type_inv }) ∙ w.bits_node.ensures
                ∙ (at_bits _ _ _ a.a a.e _ c.requires.limits c.well_formed.1.1.1.0.1 (c.type_inv.floats _) (w.if-plain.ensures refl) c.requires.filled.1 c.loop-k.invariant.0 c.loop-k-test.true).node
            | else-plain w ↦ w.nodes-is ∙ to_z-of_z w32 _ (record { sfits = w.node.type_inv }) ∙ w.node.ensures
          ]),
    )
