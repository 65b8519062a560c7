-- `load_nodes`: the three refusals in their order, then the nodes.
use Rattle.std.specs.Prelude.{Result, Ok, Err, ⊤}
use mathlib.Core.Path.{◌≡◌, sym, ap, ◌∙◌}
use mathlib.Core.Bool.{not}
use mathlib.Core.List.{List, map}
use Prim.Native.Nat.{ℕ, ◌+◌, ◌≤◌, ◌<◌}
use native.Mathlib.Omega.{arith}
use lib.Dec.{ltb, eqb}
use lib.IntN.{ℤ}
use lib.Ieee.{Float, nan}
use lib.ListN.{length, get_or}
use borrow.Author.Tests.{lt-ltb, le-ltb, eq-eqb, ne_eqb}
use Rattle.numbers.proofs.FirstLaws.{first_le}
use Rattle.group.specs.declared.Refusal.{Refusal}
use Rattle.group.specs.Refusals.{refusal, refuse_first, lent_after, refusal_of}
use Rattle.group.proofs.RefusalLaws.{if_here, if_past, at_here, at_past}
use Rattle.group.specs.Numbers.{quantum_most}
use Rattle.nodes.specs.Load.{refused_float, node_of, first_refused, loaded, nodes_after}
use Rattle.nodes.proofs.load_nodes.Goals as goal

module _ (q : ℕ) (flag : Float) (floats : List Float) (nodes : List ℤ) where
  -- r is the answer, and with it the nodes afterwards
  answered : (r : Result ⊤ Refusal) → r ≡ loaded q flag floats (length nodes) → (r ≡ loaded q flag floats (length nodes)) × (lent_after (refusal_of r) (map (node_of q flag) floats) nodes ≡ nodes_after q flag floats nodes)
  unfolding nodes_after
  answered r e = (e, ap (λ (l : Result ⊤ Refusal). lent_after (refusal_of l) (map (node_of q flag) floats) nodes) e)

  by_quantum : quantum_most < q → Err (refusal 2 0) ≡ loaded q flag floats (length nodes)
  unfolding loaded
  by_quantum h = sym (if_here Err (ltb quantum_most q) 2 0 _ (lt-ltb quantum_most q h))

  module _ (h : q ≤ quantum_most) where
    by_count : (length floats ≡ length nodes → ⊥) → Err (refusal 12 0) ≡ loaded q flag floats (length nodes)
    unfolding loaded
    by_count n =
        sym (if_past Err (ltb quantum_most q) 2 0 _ (le-ltb quantum_most q h)
        ∙ if_here Err (not (eqb (length floats) (length nodes))) 12 0 _ (ap not (ne_eqb (length floats) (length nodes) n)))

    module _ (e : length floats ≡ length nodes) (i : ℕ) (f : i ≡ first_refused q flag floats) where
      fitted : loaded q flag floats (length nodes) ≡ refuse_first Err (λ k. refused_float q flag (get_or floats k nan)) (length floats) 11 1 (Ok tt)
      unfolding loaded
      fitted =
          if_past Err (ltb quantum_most q) 2 0 _ (le-ltb quantum_most q h)
          ∙ if_past Err (not (eqb (length floats) (length nodes))) 12 0 _ (ap not (eq-eqb (length floats) (length nodes) e))

      by_float : i < length floats → Err (refusal 11 (i + 1)) ≡ loaded q flag floats (length nodes)
      unfolding first_refused
      by_float l = at_here Err (λ k. refused_float q flag (get_or floats k nan)) (length floats) 11 1 (Ok tt) i f l ∙ sym fitted

      by_none : length floats ≤ i → Ok tt ≡ loaded q flag floats (length nodes)
      unfolding first_refused
      by_none l = sym (fitted ∙ at_past Err (λ k. refused_float q flag (get_or floats k nan)) (length floats) 11 1 (Ok tt) i f l)

-- where no index is found, all floats are passed
all_passed : (q : ℕ) (flag : Float) (floats : List Float) (i : ℕ) → i ≡ first_refused q flag floats → length floats ≤ i → first_refused q flag floats ≡ length floats
unfolding first_refused
all_passed q flag floats i f h = omega (arith, first_le (λ k. refused_float q flag (get_or floats k nan)) (length floats))

pub returns-then-quantum-gt-QUANTUM_MOST : goal.returns-then-quantum-gt-QUANTUM_MOST
unfolding lent_after
returns-then-quantum-gt-QUANTUM_MOST c =
    let a = c.args in
    let e = answered a.quantum a.flag a.floats.now a.nodes.now (Err (refusal 2 0))
    (by_quantum a.quantum a.flag a.floats.now a.nodes.now c.if-quantum-gt-QUANTUM_MOST.true) in
    record { value = e.0; nodes_after = e.1 }

pub returns-then-floats-nodes : goal.returns-then-floats-nodes
unfolding lent_after
returns-then-floats-nodes c =
    let a = c.args in
    let e = answered a.quantum a.flag a.floats.now a.nodes.now (Err (refusal 12 0))
    (by_count a.quantum a.flag a.floats.now a.nodes.now c.if-quantum-gt-QUANTUM_MOST.false c.if-floats-nodes.true) in
    record { value = e.0; nodes_after = e.1 }

pub first_refused-i-requires : goal.first_refused-i-requires
first_refused-i-requires c = c.if-quantum-gt-QUANTUM_MOST.false

pub returns-then-i-floats : goal.returns-then-i-floats
unfolding lent_after
returns-then-i-floats c =
    let a = c.args in
    let e = answered a.quantum a.flag a.floats.now a.nodes.now (Err (refusal 11 (c.first_refused-i.result + 1)))
    (by_float a.quantum a.flag a.floats.now a.nodes.now c.if-quantum-gt-QUANTUM_MOST.false c.if-floats-nodes.false c.first_refused-i.result c.first_refused-i.ensures c.if-i-floats.true) in
    record { value = e.0; nodes_after = e.1 }

pub fill-requires : goal.fill-requires
fill-requires c =
    let a = c.args in
    record {
      limits = (c.if-quantum-gt-QUANTUM_MOST.false, c.if-floats-nodes.false);
      none_refused = all_passed a.quantum a.flag a.floats.now c.first_refused-i.result c.first_refused-i.ensures c.if-i-floats.false;
    }

pub returns : goal.returns
unfolding lent_after
returns c =
    let a = c.args in
    let e = answered a.quantum a.flag a.floats.now a.nodes.now (Ok tt)
    (by_none a.quantum a.flag a.floats.now a.nodes.now c.if-quantum-gt-QUANTUM_MOST.false c.if-floats-nodes.false c.first_refused-i.result c.first_refused-i.ensures c.if-i-floats.false) in
    record { value = e.0; nodes_after = c.fill.ensures ∙ e.1 }
