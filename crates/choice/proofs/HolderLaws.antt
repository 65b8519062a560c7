-- The first rectangle that holds the point, in the order of ranks, is one of the chosen grid's, where no two grids that hold it share a rank.
use Prim.Native.Nat.{ℕ, ◌-◌, ◌≤◌, ◌<◌}
use mathlib.Core.Path.{◌≡◌, refl, sym, ◌∙◌, subst}
use mathlib.Core.Bool.{Bool, true}
use native.Mathlib.Omega.{arith}
use native.Mathlib.Decide.{dec_lt}
use borrow.Author.Tests.{lt-ltb, le-ltb}
use Rattle.std.specs.Prelude.{Some, None}
use Rattle.numbers.specs.First.{first}
use Rattle.numbers.proofs.Bools.{true_false}
use Rattle.numbers.proofs.FirstLaws.{first_before, first_hit, none_at}
use Rattle.choice.specs.Choice.{chosen}
use Rattle.choice.specs.Holder.{holder, held_by, Ranked, Owns}
use Rattle.choice.proofs.ChoiceLaws.{Apart, lowest_chosen, none_chosen}

module _ (held : ℕ → Bool) (owner : ℕ → ℕ) (n : ℕ) where
  -- what the loop answers
  pub holder_at : (i : ℕ) → i ≡ first held n → i < n → owner i ≡ holder held owner n
  unfolding holder
  holder_at i e l = rw (sym e, lt-ltb i n l) refl

  pub holder_none : (i : ℕ) → i ≡ first held n → n ≤ i → 0 ≡ holder held owner n
  unfolding holder
  holder_none i e l = rw (sym e, le-ltb i n l) refl

  -- the rectangle's owner and shift
  module _ (shift : ℕ → ℕ) where
    pub held_at : (i : ℕ) → i ≡ first held n → i < n → Some (record { owner = owner i; shift = shift i }) ≡ held_by held owner shift n
    unfolding held_by
    held_at i e l = rw (sym e, lt-ltb i n l) refl

    pub held_none : (i : ℕ) → i ≡ first held n → n ≤ i → None ≡ held_by held owner shift n
    unfolding held_by
    held_none i e l = rw (sym e, le-ltb i n l) refl

  module _ (rank : ℕ → ℕ) (inside : ℕ → Bool) (grids : ℕ) (k : Ranked rank owner n grids) (w : Owns held owner n inside grids) (apart : Apart inside rank grids) where
    abbrev r : ℕ
    r = first held n

    -- no grid that holds the point has a lower rank number than the owner of the first rectangle that does
    lowest : r < n → (j : ℕ) → j < grids → inside j ≡ true → rank (owner r - 1) ≤ rank j
    lowest l j m h =
        let q = w.rect j m h in
        elim (dec_lt q.0 r) [
          | yes lt ↦ absurd (true_false q.3 (first_before held n q.0 lt))
          | no ge ↦
              let e : owner q.0 - 1 ≡ j = omega (arith, q.2) in
              elim (dec_lt r q.0) [
                | yes lt ↦ subst (λ (i : ℕ). rank (owner r - 1) ≤ rank i) e (k.sorted r q.0 lt q.1)
                | no ge₂ ↦
                    let s : q.0 ≡ r = omega arith in
                    let t : owner r - 1 ≡ j = subst (λ (i : ℕ). owner i - 1 ≡ j) s e in
                    rw t (omega arith)
              ]
        ]

    pub holder_chosen : holder held owner n ≡ chosen inside rank grids
    holder_chosen =
        elim (dec_lt r n) [
          | yes lt ↦
              let o = k.owned r lt in
              sym (holder_at r refl lt)
              ∙ sym
              (lowest_chosen inside rank grids apart (owner r - 1) (omega (arith, o)) (w.grid r lt (first_hit held n lt)) (lowest lt)
              ∙ omega (arith, o))
          | no ge ↦
              sym (holder_none r refl (omega arith))
              ∙ sym (none_chosen inside rank grids (λ j l h. let q = w.rect j l h in true_false q.3 (none_at held n q.0 (omega arith) q.1)))
        ]
