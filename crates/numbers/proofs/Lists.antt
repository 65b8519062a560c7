-- Lists whose every element stands in a relation to every later one; elements by their index.
use mathlib.Core.Path.{◌≡◌, refl, sym, subst}
use mathlib.Core.List.Memᴰ
use mathlib.Core.List.{List, [], ◌∷◌, ◌++◌, map, Memᴰ}
use mathlib.Core.Logic.{⊎_elim}
use Prim.Native.Nat.{ℕ, zero, suc, ◌<◌}
use native.Mathlib.Omega.{arith}
use lib.ListN.{length, get_or}

-- an element of a mapped list, whatever stands past the two ends
pub map_at : {A B : Type 0} (f : A → B) (d : A) (e : B) (l : List A) (i : ℕ) → i < length l → get_or (map f l) i e ≡ f (get_or l i d)
map_at f d e [] i m = absurd (omega arith)
map_at f d e (a ∷ l) zero m = refl
map_at f d e (a ∷ l) (suc i) m = map_at f d e l i (omega arith)

module _ {A : Type 0} where
  pub at_mem : (d : A) (l : List A) (i : ℕ) → i < length l → Memᴰ (get_or l i d) l
  at_mem d [] i m = absurd (omega arith)
  at_mem d (a ∷ l) zero m = Memᴰ.head refl
  at_mem d (a ∷ l) (suc i) m = Memᴰ.tail (at_mem d l i (omega arith))

  pub mem_at : (d : A) {a : A} {l : List A} → Memᴰ a l → (i : ℕ) × (i < length l) × (get_or l i d ≡ a)
  mem_at d (Memᴰ.head p) = (0, omega arith, sym p)
  mem_at d (Memᴰ.tail m) = let r = mem_at d m in (suc r.0, omega (arith, r.1), r.2)

  module _ (R : A → A → Type 0) where
    abbrev pub Pairs : List A → Type 0
    Pairs [] = Unit {0}
    Pairs (a ∷ l) = ((b : A) → Memᴰ b l → R a b) × Pairs l

    pub pairs_one : (a : A) → Pairs (a ∷ [])
    pairs_one a = ((λ b m. absurd (Memᴰ.not-nil m)), tt)

    pub pairs_append : (k l : List A) → Pairs k → Pairs l → ((a b : A) → Memᴰ a k → Memᴰ b l → R a b) → Pairs (k ++ l)
    pairs_append [] l p q h = q
    pairs_append (a ∷ k) l p q h = (
      (λ b m. ⊎_elim (λ s. p.0 b s) (λ s. h a b (Memᴰ.head refl) s) (Memᴰ.append_cases k m)),
      pairs_append k l p.1 q (λ b c m n. h b c (Memᴰ.tail m) n),
    )

    pub pairs_at : (d : A) (l : List A) → Pairs l → (i j : ℕ) → i < j → j < length l → R (get_or l i d) (get_or l j d)
    pairs_at d [] p i j m n = absurd (omega arith)
    pairs_at d (a ∷ l) p zero zero m n = absurd (omega arith)
    pairs_at d (a ∷ l) p zero (suc j) m n = p.0 (get_or l j d) (at_mem d l j (omega arith))
    pairs_at d (a ∷ l) p (suc i) zero m n = absurd (omega arith)
    pairs_at d (a ∷ l) p (suc i) (suc j) m n = pairs_at d l p.1 i j (omega arith) (omega arith)

    pub pairs_by : (d : A) (l : List A) → ((i j : ℕ) → i < j → j < length l → R (get_or l i d) (get_or l j d)) → Pairs l
    pairs_by d [] h = tt
    pairs_by d (a ∷ l) h = (
      (λ b m. let k = mem_at d m in subst (λ (c : A). R a c) k.2 (h 0 (suc k.0) (omega arith) (omega (arith, k.1)))),
      pairs_by d l (λ i j m n. h (suc i) (suc j) (omega arith) (omega arith)),
    )
