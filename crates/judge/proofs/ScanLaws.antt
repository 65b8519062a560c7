-- One pass over the grids: each turn finds and leaves what document 01 asks of one grid more.
use Prim.Native.Nat.{ℕ, ◌+◌, ◌≤◌}
use mathlib.Core.Path.{◌≡◌, refl, sym, ap, ◌∙◌}
use mathlib.Core.Bool.{Bool, true, false, not, cond, ◌&&◌}
use mathlib.Core.List.{List}
use native.Mathlib.Omega.{arith}
use borrow.Author.Count.{below_more, below_none}
use lib.Dec.{eqb}
use lib.ListN.{set}
use Rattle.numbers.proofs.FirstLaws.{Passed, first_more, first_none}
use Rattle.group.specs.declared.Grid.{Grid}
use Rattle.group.specs.declared.Group.{Group}
use Rattle.group.specs.Record.{grid_at}
use Rattle.group.specs.Limits.{grid_fits}
use Rattle.extent.specs.Extent.{inside}
use Rattle.flat.specs.Lists.{FlatRoom, Flattened}
use Rattle.flat.proofs.FillLaws.{flat_none, flat_more}
use Rattle.judge.specs.Judge.{bad_grid}
use Rattle.judge.specs.Keys.{name_keys, put_four}
use Rattle.judge.specs.Rules.{KeyRoom, Scanned}
use Rattle.judge.proofs.KeyLaws.{listed_none, listed_more}

not_not : (b : Bool) → not (not b) ≡ b
not_not true = refl
not_not false = refl

-- no grid yet
pub scanned_none : {g : Group} {np : ℕ} {fours keys sides ranks frames : List ℕ} → Scanned g np 0 0 fours keys sides ranks frames
scanned_none {g} {np} {fours} {keys} {sides} {ranks} {frames} =
    record {
      fits = below_none _;
      first_outside = sym (first_none _ 0 (below_none _));
      names = listed_none _ _ _;
      flat = flat_none;
    }

-- so far no line outside its limits
pub scanned_passed : {g : Group} {np i edge : ℕ} {fours keys sides ranks frames : List ℕ} (n : ℕ) → i ≤ n → Scanned g np i edge fours keys sides ranks frames
    → Passed (bad_grid g) n i
scanned_passed {g} {np} {i} n l h = record { bound = l; clear = λ k m. ap not (h.fits k m) }

-- one more, whose line is within its limits
module _ (g : Group) (np i edge : ℕ) (fours keys sides ranks frames : List ℕ) (h : Scanned g np i edge fours keys sides ranks frames)
    (a : KeyRoom fours keys (i + 1)) (b : FlatRoom sides ranks frames (i + 1)) where
  pub scanned_more : {d : Grid} {t : Bool} {edge' : ℕ} {fours' keys' sides' ranks' frames' : List ℕ} → d ≡ grid_at g i → grid_fits d ≡ true → t ≡ inside np d
      → edge' ≡ cond (eqb edge i && t) (i + 1) edge → fours' ≡ put_four fours i (name_keys d.name) → keys' ≡ set keys i d.name.len
      → Flattened d i sides ranks frames sides' ranks' frames' → Scanned g np (i + 1) edge' fours' keys' sides' ranks' frames'
  scanned_more {d} {t} {edge'} e f w o p q r =
      let outside : ℕ → Bool = λ k. not (inside np (grid_at g k)) in
      let last : t ≡ not (outside i) = w ∙ ap (inside np) e ∙ sym (not_not (inside np (grid_at g i))) in
      record {
        fits = below_more (λ k. grid_fits (grid_at g k) ≡ true) i h.fits (ap grid_fits (sym e) ∙ f);
        first_outside =
            o ∙ (λ j. cond (eqb (h.first_outside j) i && last j) (i + 1) (h.first_outside j)) ∙ sym (first_more outside i);
        names = listed_more _ i fours keys _ _ (name_keys d.name) (let x = a.fours_room in omega arith) (let x = a.keys_room in omega arith) h.names (ap (λ (x : Grid). name_keys x.name) e) p q;
        flat = flat_more g i sides ranks frames b e h.flat r;
      }
