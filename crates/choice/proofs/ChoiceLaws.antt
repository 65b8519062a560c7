-- The laws of the choice: the chosen grid holds the point with the lowest rank number, and it is the one that no blocker hides.
use mathlib.Core.Path.{◌≡◌, refl, sym, ◌∙◌, subst}
use mathlib.Core.Bool.{Bool, true, false, cond, ◌&&◌}
use Prim.Native.Nat.{ℕ, zero, suc, ◌≤◌, ◌<◌}
use native.Mathlib.Omega.{arith}
use native.Mathlib.Decide.{dec_lt}
use borrow.Author.Tests.{ltb-true, ltb-false, lt-ltb}
use Rattle.numbers.proofs.Bools.{true_false}
use Rattle.choice.specs.Choice.{better, better_of, chosen}
use Rattle.choice.specs.Blocks.{blocks}

-- of the first n grids that hold the point, i has the lowest rank number, and is the first that has it
pub record Best (held : ℕ → Bool) (rank : ℕ → ℕ) (n i : ℕ) : Type 0 where
  pub among : i < n
  pub inside : held i ≡ true
  pub lowest : (j : ℕ) → j < n → held j ≡ true → rank i ≤ rank j
  pub earliest : (j : ℕ) → j < i → held j ≡ true → rank i < rank j

-- no two grids that hold the point share a rank
abbrev pub Apart : (ℕ → Bool) → (ℕ → ℕ) → ℕ → Type 0
Apart held rank n = (i j : ℕ) → i < j → j < n → rank i ≡ rank j → held i ≡ true → held j ≡ true → ⊥

-- grid g holds the point, and none of its blockers does
pub record Unblocked (held : ℕ → Bool) (rank : ℕ → ℕ) (n g : ℕ) : Type 0 where
  pub among : g < n
  pub inside : held g ≡ true
  pub alone : (j : ℕ) → j < n → blocks rank j (suc g) ≡ true → held j ≡ true → ⊥

module _ (held : ℕ → Bool) (rank : ℕ → ℕ) where
  -- what the number c, 0 for none, says
  abbrev IsBest : ℕ → ℕ → Type 0
  IsBest n zero = (j : ℕ) → j < n → held j ≡ true → ⊥
  IsBest n (suc i) = Best held rank n i

  more_out : (n c : ℕ) → IsBest n c → (held n ≡ true → ⊥) → IsBest (suc n) c
  more_out n zero h out = λ j l k. elim (dec_lt j n) [ yes lt ↦ h j lt k | no ge ↦ out (subst (λ (m : ℕ). held m ≡ true) (omega arith) k) ]
  more_out n (suc i) h out = record {
    among = omega (arith, h.among);
    inside = h.inside;
    lowest = λ j l k. elim (dec_lt j n) [ yes lt ↦ h.lowest j lt k | no ge ↦ absurd (out (subst (λ (m : ℕ). held m ≡ true) (omega arith) k)) ];
    earliest = h.earliest;
  }

  more_in : (n c : ℕ) → IsBest n c → held n ≡ true → (b : Bool) → better rank n c ≡ b → IsBest (suc n) (cond b (suc n) c)
  more_in n zero h k true e = record {
    among = omega arith;
    inside = k;
    lowest = λ j l m. elim (dec_lt j n) [ yes lt ↦ absurd (h j lt m) | no ge ↦ let s : j ≡ n = omega arith in rw s (omega arith) ];
    earliest = λ j l m. absurd (h j l m);
  }
  more_in n zero h k false e = absurd (true_false refl e)
  more_in n (suc i) h k true e = record {
    among = omega arith;
    inside = k;
    lowest = λ j l m. elim (dec_lt j n) [ yes lt ↦ omega (arith, h.lowest j lt m, ltb-true (rank n) (rank i) e) | no ge ↦ let s : j ≡ n = omega arith in rw s (omega arith) ];
    earliest = λ j l m. omega (arith, h.lowest j l m, ltb-true (rank n) (rank i) e);
  }
  more_in n (suc i) h k false e = record {
    among = omega (arith, h.among);
    inside = h.inside;
    lowest = λ j l m. elim (dec_lt j n) [ yes lt ↦ h.lowest j lt m | no ge ↦ let s : j ≡ n = omega arith in rw s (omega (arith, ltb-false (rank n) (rank i) e)) ];
    earliest = h.earliest;
  }

  is_best : (n : ℕ) → IsBest n (chosen held rank n)
  unfolding chosen better_of
  is_best zero = λ j l k. omega arith
  is_best (suc n) = go (is_best n) (held n) refl
    where
      go : IsBest n (chosen held rank n) → (b : Bool) → held n ≡ b → IsBest (suc n) (cond (b && better rank n (chosen held rank n)) (suc n) (chosen held rank n))
      go h true e = more_in n (chosen held rank n) h e (better rank n (chosen held rank n)) refl
      go h false e = more_out n (chosen held rank n) h (λ k. true_false k e)

  one_best : (n c : ℕ) → IsBest n c → (i : ℕ) → Best held rank n i → c ≡ suc i
  one_best n zero h i b = absurd (h i b.among b.inside)
  one_best n (suc k) h i b =
      elim (dec_lt k i) [
        | yes lt ↦ absurd (omega (arith, b.earliest k lt h.inside, h.lowest i b.among b.inside))
        | no ge ↦
            elim (dec_lt i k) [
              | yes lt ↦ absurd (omega (arith, h.earliest i lt b.inside, b.lowest k h.among h.inside))
              | no ge₂ ↦ omega arith
            ]
      ]

-- every grid keeps the choice from none
pub any_blocks : (rank : ℕ → ℕ) (j : ℕ) → blocks rank j 0 ≡ true
unfolding blocks
any_blocks rank j = refl

module _ (held : ℕ → Bool) (rank : ℕ → ℕ) (n : ℕ) where
  -- the chosen grid is the best, and of equal ranks the first
  pub chosen_best : (g : ℕ) → chosen held rank n ≡ suc g → Best held rank n g
  chosen_best g e = subst (λ (c : ℕ). IsBest held rank n c) e (is_best held rank n)

  pub best_chosen : (g : ℕ) → Best held rank n g → chosen held rank n ≡ suc g
  best_chosen g b = one_best held rank n (chosen held rank n) (is_best held rank n) g b

  pub chosen≤ : chosen held rank n ≤ n
  chosen≤ = go (chosen held rank n) (is_best held rank n)
    where
      go : (c : ℕ) → IsBest held rank n c → c ≤ n
      go zero h = omega arith
      go (suc i) h = omega (arith, h.among)

  -- where no two share a rank: the one that holds the point and has the lowest rank number
  pub lowest_chosen : Apart held rank n → (g : ℕ) → g < n → held g ≡ true → ((j : ℕ) → j < n → held j ≡ true → rank g ≤ rank j) → chosen held rank n ≡ suc g
  lowest_chosen apart g among inside lowest = best_chosen g (record { among = among; inside = inside; lowest = lowest; earliest = first })
    where
      first : (j : ℕ) → j < g → held j ≡ true → rank g < rank j
      first j l h =
          let w = lowest j (omega arith) h in
          elim (dec_lt (rank g) (rank j)) [ yes lt ↦ lt | no ge ↦ absurd (apart j g l among (omega arith) h inside) ]

  -- the laws that coverage cites, beside `any_blocks`: a grid is chosen exactly where it holds the point and none of its blockers does, and none
  -- is chosen exactly where no grid holds it
  pub chosen_unblocked : (g : ℕ) → chosen held rank n ≡ suc g → Unblocked held rank n g
  unfolding blocks
  chosen_unblocked g e =
      let b = chosen_best g e in
      record { among = b.among; inside = b.inside; alone = λ j l t h. omega (arith, ltb-true (rank j) (rank g) t, b.lowest j l h) }

  pub unblocked_chosen : Apart held rank n → (g : ℕ) → Unblocked held rank n g → chosen held rank n ≡ suc g
  unfolding blocks
  unblocked_chosen apart g u = lowest_chosen apart g u.among u.inside low
    where
      low : (j : ℕ) → j < n → held j ≡ true → rank g ≤ rank j
      low j l h = elim (dec_lt (rank j) (rank g)) [ yes lt ↦ absurd (u.alone j l (lt-ltb (rank j) (rank g) lt) h) | no ge ↦ omega arith ]

  pub chosen_none : chosen held rank n ≡ 0 → (j : ℕ) → j < n → held j ≡ true → ⊥
  chosen_none e = subst (λ (c : ℕ). IsBest held rank n c) e (is_best held rank n)

  pub none_chosen : ((j : ℕ) → j < n → held j ≡ true → ⊥) → chosen held rank n ≡ 0
  none_chosen h = go (chosen held rank n) (is_best held rank n)
    where
      go : (c : ℕ) → IsBest held rank n c → c ≡ 0
      go zero k = refl
      go (suc i) k = absurd (h i k.among k.inside)

-- the choice depends on which grids hold the point and on their ranks, and on nothing else of them
module _ (held hold : ℕ → Bool) (rank rang : ℕ → ℕ) (n : ℕ) (h : (i : ℕ) → i < n → held i ≡ hold i) (r : (i : ℕ) → i < n → rank i ≡ rang i) where
  best : (g : ℕ) → Best held rank n g → Best hold rang n g
  best g b =
      record {
        among = b.among;
        inside = sym (h g b.among) ∙ b.inside;
        lowest = λ j l k. omega (arith, b.lowest j l (h j l ∙ k), r g b.among, r j l);
        earliest = λ j l k.
            let m : j < n = omega (arith, b.among) in
            omega (arith, b.earliest j l (h j m ∙ k), r g b.among, r j m);
      }

  pub chosen_agree : chosen held rank n ≡ chosen hold rang n
  chosen_agree = go (chosen held rank n) refl
    where
      go : (c : ℕ) → chosen held rank n ≡ c → chosen held rank n ≡ chosen hold rang n
      go zero e = e ∙ sym (none_chosen hold rang n (λ j l k. chosen_none held rank n e j l (h j l ∙ k)))
      go (suc g) e = e ∙ sym (best_chosen hold rang n g (best g (chosen_best held rank n g e)))
