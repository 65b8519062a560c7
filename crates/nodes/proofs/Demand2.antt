-- Demand 2 of loading, proved of what the call answers and leaves.
use Rattle.std.specs.Prelude.{Ok, Err}
use Prim.Native.Nat.{ℕ, ◌<◌, ◌≤◌}
use mathlib.Core.Path.{◌≡◌, refl, sym, ap, subst, ◌∙◌}
use mathlib.Core.Bool.{false, not}
use mathlib.Core.List.{List, map}
use borrow.Author.Tests.{eqb-true, ltb-false, not-false}
use lib.Dec.{ltb, eqb}
use lib.IntN.{ℤ, pos, nat_abs}
use lib.ListN.{length, get_or, length-map}
use lib.Ieee.{Float, nan}
use Rattle.numbers.specs.First.{some}
use Rattle.numbers.proofs.FirstLaws.{none_at}
use Rattle.numbers.proofs.Lists.{map_at}
use Rattle.group.specs.Numbers.{quantum_most, value_most}
use Rattle.group.proofs.RefusalLaws.{passed_if, passed_first, lent_new, lent_kept, no_acceptance}
use Rattle.nodes.specs.Load.{marks, steps, refused_float, node_of, loaded, nodes_after}
use Rattle.nodes.specs.Size.{size_of}
use Rattle.nodes.specs.Demand2.{IsNode, NodesLoaded}
use Rattle.nodes.proofs.Fields.{sign}
use Rattle.nodes.proofs.Signed.{size_signed}
use Rattle.nodes.proofs.Steps.{size_limit, node_size}
use Rattle.nodes.proofs.LoadLaws.{steps_nearest, marked_node, only_marked}
use Rattle.nodes.proofs.TableLaws.{loaded_told}
use Rattle.group.specs.Refusals.{refusal_of}

stepped : (q : ℕ) (flag x : Float) → marks flag x ≡ false → node_of q flag x ≡ steps q x
unfolding node_of
stepped q flag x h = rw h refl

pub is_node : (q : ℕ) (flag x : Float) → refused_float q flag x ≡ false → IsNode q flag x (node_of q flag x)
is_node q flag x r =
    record {
      marked = marked_node q flag x;
      only = only_marked q flag x r;
      rounded = λ h s a c p v. stepped q flag x h ∙ steps_nearest x s a c q p v;
      small = λ h.
          subst (λ (z : ℤ). nat_abs z ≤ value_most) (node_size q flag x h r)
          (subst (λ (n : ℕ). n ≤ value_most) (sym (size_signed (sign x) (size_of q x))) (size_limit q flag x h r));
    }

module _ (q : ℕ) (flag : Float) (floats : List Float) (nodes : List ℤ) where
  -- an accepted loading: equal lengths, and no float is refused
  passed : loaded q flag floats (length nodes) ≡ Ok tt
      → (length floats ≡ length nodes) × (some (λ i. refused_float q flag (get_or floats i nan)) (length floats) ≡ false)
  unfolding loaded
  passed e =
      let a = passed_if Err (Ok tt) no_acceptance (ltb quantum_most q) 2 0 _ e in
      let b = passed_if Err (Ok tt) no_acceptance (not (eqb (length floats) (length nodes))) 12 0 _ a.1 in
      let c = passed_first Err (Ok tt) no_acceptance (λ i. refused_float q flag (get_or floats i nan)) (length floats) 11 1 (Ok tt) b.1 in
      (eqb-true (length floats) (length nodes) (not-false _ b.0), c.0)

  module _ (z : (refusal_of (loaded q flag floats (length nodes))).number ≡ 0) where
    done : loaded q flag floats (length nodes) ≡ Ok tt
    done = (loaded_told q flag floats (length nodes)).zero z

    mapped : nodes_after q flag floats nodes ≡ map (node_of q flag) floats
    unfolding nodes_after
    mapped = lent_new (refusal_of (loaded q flag floats (length nodes))) (map (node_of q flag) floats) nodes z

    each : (i : ℕ) → i < length floats → IsNode q flag (get_or floats i nan) (get_or (nodes_after q flag floats nodes) i (pos 0))
    each i l =
        subst (IsNode q flag (get_or floats i nan))
        (sym (ap (λ (ns : List ℤ). get_or ns i (pos 0)) mapped ∙ map_at (node_of q flag) nan (pos 0) floats i l))
        (is_node q flag (get_or floats i nan)
        (none_at (λ k. refused_float q flag (get_or floats k nan)) (length floats) i (ltb-false _ (length floats) (passed done).1) l))

pub nodes_loaded : (q : ℕ) (flag : Float) (floats : List Float) (nodes : List ℤ)
    → NodesLoaded q flag floats nodes (loaded q flag floats (length nodes)) (nodes_after q flag floats nodes)
unfolding nodes_after
nodes_loaded q flag floats nodes =
    record {
      lent = λ z. (passed q flag floats nodes (done q flag floats nodes z)).0;
      count = λ z. ap length (mapped q flag floats nodes z) ∙ length-map floats (node_of q flag);
      each = each q flag floats nodes;
      kept = lent_kept (refusal_of (loaded q flag floats (length nodes))) (map (node_of q flag) floats) nodes;
    }
