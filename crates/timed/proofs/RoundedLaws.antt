-- Lists that are rounded one by one, as far as the shortest of some lists goes.
use Prim.Native.Nat.{ℕ, ◌+◌, ◌<◌, min}
use mathlib.Core.Path.{◌≡◌, ◌∙◌}
use mathlib.Core.List.{List}
use native.Mathlib.Nat.{min-le_left, min-le_right}
use native.Mathlib.Omega.{arith}
use borrow.Author.Count.{below_more, below_none}
use lib.ListN.{length, set}
use lib.Seq.{get_or-set_same, get_or-set_other}
use Rattle.numbers.specs.Lists.{at}
use Rattle.numbers.proofs.KeptLaws.{kept_all, kept_more, kept_set}
use Rattle.timed.specs.Timed.{Rounded}

-- what lies below the lesser of two lengths lies below both
pub below_both : {i n : ℕ} (a b : ℕ) → n ≡ min a b → i < n → (i < a) × (i < b)
below_both a b e l = let f = min-le_left a b in let g = min-le_right a b in (omega arith, omega arith)

module _ (f : ℕ → ℕ) where
  pub rounded_none : {list : List ℕ} → Rounded f 0 list list
  rounded_none {list} = record { each = below_none _; kept = kept_all }

  -- one more is rounded
  pub rounded_more : {i : ℕ} {before list : List ℕ} (v : ℕ) → Rounded f i before list → i < length before → v ≡ f i
      → Rounded f (i + 1) before (set list i v)
  rounded_more {i} {before} {list} v r l e =
      record {
        each = below_more (λ k. at (set list i v) k ≡ f k) i
            (λ k m. get_or-set_other list i k v 0 (omega arith) ∙ r.each k m)
            (get_or-set_same list i v 0 (omega (arith, r.kept.long)) ∙ e);
        kept = kept_set i v (kept_more r.kept (omega arith)) (omega arith);
      }
