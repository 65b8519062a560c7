-- A fix from its parameters: where one has a fault the refusal, where none has the results.
use Prim.Native.Nat.{ℕ, zero, suc, ◌-◌, ◌≤◌, ◌<◌}
use mathlib.Core.Path.{◌≡◌, refl, sym, ap₂, ◌∙◌, subst}
use mathlib.Core.Bool.{Bool, true, false, ◌&&◌, and-false}
use mathlib.Core.List.{List}
use mathlib.Core.Logic.{inl, inr}
use native.Mathlib.Omega.{arith}
use borrow.Author.Tests.{le-ltb, lt-leb, lt-ltb}
use lib.IntN.{ℤ, pos, negsuc, nat_abs}
use lib.Signed.{le_z}
use mir.Syntax.{w64}
use mir.Val.{SFits, to_z, of_z}
use mir.ValLaws.{to_z-of_z}
use Rattle.numbers.specs.First.{first}
use Rattle.numbers.proofs.FirstLaws.{first_none, some_by}
use Rattle.cell.specs.declared.Corners.{Corners}
use Rattle.cell.specs.declared.Weights.{Weights}
use Rattle.group.specs.Numbers.{parameters_most, value_most, mark, is_mark, factor_most}
use Rattle.cell.specs.Cell.{used, is_beyond, used_some, value_of}
use Rattle.cell.specs.Sizes.{Weighed}
use Rattle.cell.specs.Used.{Unless, EachUsed}
use Rattle.cell.specs.Unsigned.{corners_near}
use Rattle.cell.proofs.ValueLaws.{each_map, none_beyond}
use Rattle.cell.proofs.NearLaws.{near_values}
use Rattle.fix.specs.declared.Offset.{Offset}
use Rattle.fix.specs.Fix.{cell_of, corners_of, corner_some, value_in, result_at, fix_in}
use Rattle.fix.specs.Inside.{InsideGrid}
use Rattle.fix.specs.Parts.{fault_at}
use Rattle.day.specs.Day.{result_of}
use Rattle.fix.proofs.OffsetLaws.{cell_weighed, part_most}
use Rattle.fix.proofs.FixLaws.{fix_marked, fix_found}
use Rattle.std.specs.Prelude.{Ok, Err}

-- ---- the mark is beyond the limit of node values

used_no : (w : ℕ) (t : Bool) → Unless w (t ≡ false) → (used w && t) ≡ false
used_no w t (inl e) = rw e refl
used_no w t (inr e) = rw e (and-false (used w))

used_none : (test : ℤ → Bool) (w : Weights) (v : Corners) → EachUsed (λ z. test z ≡ false) w v → used_some test w v ≡ false
unfolding used_some
used_none test w v a =
    rw (used_no w.w00 (test v.v00) a.at00, used_no w.w10 (test v.v10) a.at10, used_no w.w01 (test v.v01) a.at01, used_no w.w11 (test v.v11) a.at11) refl

no_mark : (z : ℤ) → nat_abs z ≤ value_most → is_mark z ≡ false
no_mark (pos n) h = refl
no_mark (negsuc n) h = rw (lt-leb (nat_abs mark - 1) n (omega arith)) (and-false (le_z mark (negsuc n)))

pub mark_beyond : (w : Weights) (v : Corners) → used_some is_beyond w v ≡ false → used_some is_mark w v ≡ false
mark_beyond w v e = used_none is_mark w v (each_map no_mark (none_beyond w v e))

-- ---- one parameter, as code reads it: w and v are the weights and the corners that it was handed

module _ (l : Offset) (nodes : List ℤ) (p : ℕ) where
  pub missing : l.np ≤ p → fault_at l nodes p ≡ false
  unfolding fault_at
  missing h = rw (le-ltb p l.np h) refl

  pub none : (factor : ℤ) → l.np ≤ p → pos 0 ≡ result_at l nodes factor p
  unfolding result_at
  none factor h = rw (le-ltb p l.np h) refl

  module _ {w : Weights} {v : Corners} (h : InsideGrid l) (e : w ≡ (cell_of l).weights) (f : v ≡ corners_of l nodes p) (k : p < l.np) where
    same : used_some is_beyond w v ≡ used_some is_beyond (cell_of l).weights (corners_of l nodes p)
    same i = used_some is_beyond (e i) (f i)

    pub tested : {t : Bool} (b : Bool) → t ≡ used_some is_beyond w v → t ≡ b → fault_at l nodes p ≡ b
    unfolding fault_at
    tested b g i = rw (lt-ltb p l.np k) (sym (g ∙ same) ∙ i)

    pub marked : {t : Bool} → t ≡ used_some is_mark w v → t ≡ true → used_some is_mark (cell_of l).weights (corners_of l nodes p) ≡ true
    marked g i = sym (λ j. used_some is_mark (e j) (f j)) ∙ sym g ∙ i

    pub weighed : Weighed w
    weighed = subst Weighed (sym e) (cell_weighed h)

    value : {z : ℤ} → SFits w64 z → z ≡ value_of w v → to_z w64 (of_z w64 z) ≡ value_in l nodes p
    unfolding value_in
    value {z} s g = to_z-of_z w64 z s ∙ g ∙ (λ i. value_of (e i) (f i))

    pub sized : (factor : ℤ) {t : Bool} {z : ℤ} → SFits w64 factor → nat_abs factor ≤ factor_most → t ≡ used_some is_beyond w v → t ≡ false
        → SFits w64 z → z ≡ value_of w v → (nat_abs (to_z w64 (of_z w64 z)) ≤ value_most) × (nat_abs (to_z w64 (of_z w64 factor)) ≤ factor_most)
    sized factor m n g i s j = (
      subst (λ (x : ℤ). nat_abs x ≤ value_most) (sym (value s j)) (part_most h nodes p (sym (g ∙ same) ∙ i)),
      subst (λ (x : ℤ). nat_abs x ≤ factor_most) (sym (to_z-of_z w64 factor m)) n,
    )

    -- corners near 0 hold node values
    module _ (n : corners_near v ≡ true) where
      near_none : false ≡ used_some is_beyond w v
      near_none = sym (used_none is_beyond w v (near_values w v n))

      pub near_sound : fault_at l nodes p ≡ false
      near_sound = tested false near_none refl

      pub near_sized : (factor : ℤ) {z : ℤ} → SFits w64 factor → nat_abs factor ≤ factor_most → SFits w64 z → z ≡ value_of w v
          → (nat_abs (to_z w64 (of_z w64 z)) ≤ value_most) × (nat_abs (to_z w64 (of_z w64 factor)) ≤ factor_most)
      near_sized factor m k s j = sized factor m k near_none refl s j

    pub result : (factor : ℤ) {z r : ℤ} → SFits w64 factor → SFits w64 z → z ≡ value_of w v → SFits w64 r
        → r ≡ result_of (to_z w64 (of_z w64 z)) (to_z w64 (of_z w64 factor)) → to_z w64 (of_z w64 r) ≡ result_at l nodes factor p
    unfolding result_at
    result factor {z} {r} m s j o g =
        rw (lt-ltb p l.np k) (to_z-of_z w64 r o ∙ g ∙ ap₂ result_of (value s j) (to_z-of_z w64 factor m))

-- ---- the fix

module _ (l : Offset) (nodes : List ℤ) (factor : ℤ) (grid : ℕ) where
  abbrev beyond_at : ℕ → Bool
  beyond_at p = used_some is_beyond (cell_of l).weights (corners_of l nodes p)

  abbrev mark_at : ℕ → Bool
  mark_at p = used_some is_mark (cell_of l).weights (corners_of l nodes p)

  pub fix_refused : (p : ℕ) → p < l.np → mark_at p ≡ true → Err (record { number = 8; place = 0 }) ≡ fix_in l nodes factor grid
  unfolding corner_some
  fix_refused p h e = sym (fix_marked l nodes factor grid (some_by mark_at l.np p h e))

  -- no parameter has a fault
  module _ (most : l.np ≤ parameters_most) (e0 : fault_at l nodes 0 ≡ false) (e1 : fault_at l nodes 1 ≡ false) (e2 : fault_at l nodes 2 ≡ false) where
    each : (k : ℕ) → k < l.np → beyond_at k ≡ false
    unfolding fault_at
    each zero h = rw (lt-ltb 0 l.np h) at e0
    each (suc zero) h = rw (lt-ltb 1 l.np h) at e1
    each (suc (suc zero)) h = rw (lt-ltb 2 l.np h) at e2
    each (suc (suc (suc k))) h = absurd (omega arith)

    pub fix_sound : fix_in l nodes factor grid
        ≡ Ok
        (record {
          grid = grid;
          first = result_at l nodes factor 0;
          second = result_at l nodes factor 1;
          third = result_at l nodes factor 2;
        })
    unfolding corner_some
    fix_sound =
        let m = first_none mark_at l.np (λ k h. mark_beyond (cell_of l).weights (corners_of l nodes k) (each k h)) in
        let b = first_none beyond_at l.np each in
        fix_found l nodes factor grid (le-ltb (first mark_at l.np) l.np (omega arith)) (le-ltb (first beyond_at l.np) l.np (omega arith))

    pub fix_results : {x y z : ℤ} → x ≡ result_at l nodes factor 0 → y ≡ result_at l nodes factor 1 → z ≡ result_at l nodes factor 2
        → Ok (record { grid = grid; first = x; second = y; third = z }) ≡ fix_in l nodes factor grid
    fix_results a b c = (λ k. Ok (record { grid = grid; first = a k; second = b k; third = c k })) ∙ sym fix_sound

  -- no parameter at all
  pub fix_none : l.np ≡ 0 → fix_in l nodes factor grid ≡ Ok (record { grid = grid; first = pos 0; second = pos 0; third = pos 0 })
  fix_none e =
      fix_sound (omega arith) (missing l nodes 0 (omega arith)) (missing l nodes 1 (omega arith)) (missing l nodes 2 (omega arith))
      ∙ sym
      (λ k. Ok
      (record {
        grid = grid;
        first = none l nodes 0 factor (omega arith) k;
        second = none l nodes 1 factor (omega arith) k;
        third = none l nodes 2 factor (omega arith) k;
      }))
