-- Floats taken block by block: none refused so far, and nodes filled from the front.
use mathlib.Core.Path.{◌≡◌, refl, sym, ap, ◌∙◌}
use mathlib.Core.Bool.{Bool, false}
use mathlib.Core.List.{List, [], ◌∷◌, ◌++◌, map, map-append}
use Prim.Native.Nat.{ℕ, ◌+◌, ◌≤◌, ◌<◌, min}
use native.Mathlib.Nat.{le_of_eq}
use native.Mathlib.Decide.{dec_lt}
use native.Mathlib.Numerals.{add-one}
use native.Mathlib.Omega.{arith}
use lib.IntN.{ℤ}
use lib.Ieee.{Float, nan}
use lib.ListN.{length, take, set, get_or, length-set}
use lib.Seq.{take-suc, take-suc-set, take_all}
use Rattle.numbers.proofs.FirstLaws.{Passed, none_at}
use Rattle.nodes.specs.Load.{refused_float, node_of, first_refused}
use Rattle.nodes.specs.Plain.{Filled}

-- one block further
pub passed_to : (p : ℕ → Bool) (n a e : ℕ) → Passed p n (min a n) → a < n → e ≤ n → ((k : ℕ) → a ≤ k → k < e → p k ≡ false) → Passed p n e
passed_to p n a e s b h f = record { bound = h; clear = λ k l. elim (dec_lt k a) [ yes m ↦ s.clear k (omega arith) | no m ↦ f k (omega arith) l ] }

-- where none is refused, this one isn't
pub none_refused : (q : ℕ) (flag : Float) (l : List Float) (k : ℕ) → first_refused q flag l ≡ length l → k < length l → refused_float q flag (get_or l k nan) ≡ false
unfolding first_refused
none_refused q flag l k e h = none_at (λ i. refused_float q flag (get_or l i nan)) (length l) k (le_of_eq (sym e)) h

module _ (q : ℕ) (flag : Float) (l : List Float) where
  pub filled_none : (d : List ℤ) → length l ≡ length d → Filled q flag l 0 d
  filled_none d e = record { many = sym e; front = refl }

  -- one node more
  pub filled_more : (d : List ℤ) (i : ℕ) (v : ℤ) → Filled q flag l i d → i < length l → v ≡ node_of q flag (get_or l i nan) → Filled q flag l (i + 1) (set d i v)
  filled_more d i v s h e =
      let m = s.many in
      record {
        many = simp length-set s.many;
        front =
            ap (λ (n : ℕ). take n (set d i v)) (add-one i)
            ∙ take-suc-set d i v (omega arith)
            ∙ ap (λ (x : List ℤ). x ++ (v ∷ [])) s.front
            ∙ ap (λ (x : ℤ). map (node_of q flag) (take i l) ++ (x ∷ [])) e
            ∙ sym (map-append (node_of q flag) (take i l) (get_or l i nan ∷ []))
            ∙ ap (map (node_of q flag)) (sym (take-suc l i nan h))
            ∙ ap (λ (n : ℕ). map (node_of q flag) (take n l)) (sym (add-one i));
      }

  -- all nodes
  pub filled_all : (d : List ℤ) (k : ℕ) → Filled q flag l k d → length l ≤ k → d ≡ map (node_of q flag) l
  filled_all d k s h =
      let m = s.many in
      sym (take_all k d (omega arith)) ∙ s.front ∙ ap (map (node_of q flag)) (take_all k l h)
