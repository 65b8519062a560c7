-- The three ways of a fix, what its two tests say of the used corners, and that it depends on nothing but what those hold.
use Prim.Native.Nat.{ℕ, ◌<◌}
use mathlib.Core.Path.{◌≡◌, refl, ◌∙◌, ap}
use mathlib.Core.Bool.{Bool, true, false, cond}
use mathlib.Core.List.{List}
use mathlib.Core.Logic.{◌↔◌}
use borrow.Author.Tests.{ltb-true}
use lib.Dec.{ltb}
use lib.IntN.{ℤ, pos}
use lib.ListN.{get_or}
use Rattle.numbers.proofs.FirstLaws.{first_same, some_by, by_some}
use Rattle.group.specs.Numbers.{is_mark}
use Rattle.group.specs.Refusals.{refuse_if}
use Rattle.group.proofs.RefusalLaws.{if_here, if_past}
use Rattle.cell.specs.Cell.{is_beyond, used_some, value_of}
use Rattle.cell.specs.Used.{SomeUsed}
use Rattle.cell.specs.Order6.{in_word}
use Rattle.cell.proofs.ValueLaws.{used_some_lem, some_used, some_same, value_same}
use Rattle.cell.proofs.Order6.{used_either}
use Rattle.day.specs.Day.{result_of}
use Rattle.fix.specs.declared.Offset.{Offset}
use Rattle.fix.specs.Fix.{cell_of, corners_at, corners_of, corner_some, value_in, result_at, fix_in, SameNodes}
use Rattle.std.specs.Prelude.{Ok, Err}

module _ (l : Offset) (nodes : List ℤ) (factor : ℤ) (grid : ℕ) where
  pub fix_marked : corner_some is_mark l nodes ≡ true → fix_in l nodes factor grid ≡ Err (record { number = 8; place = 0 })
  unfolding fix_in
  fix_marked e = if_here Err (corner_some is_mark l nodes) 8 0 _ e

  pub fix_found : corner_some is_mark l nodes ≡ false → corner_some is_beyond l nodes ≡ false
      → fix_in l nodes factor grid
      ≡ Ok
      (record {
        grid = grid;
        first = result_at l nodes factor 0;
        second = result_at l nodes factor 1;
        third = result_at l nodes factor 2;
      })
  unfolding fix_in
  fix_found e f = if_past Err (corner_some is_mark l nodes) 8 0 _ e ∙ if_past Err (corner_some is_beyond l nodes) 11 0 _ f

-- ---- a test of the corners is passed exactly where a used corner of some parameter has the property that it tests

module _ (test : ℤ → Bool) (P : ℤ → Type 0) (tests : (z : ℤ) → (test z ≡ true) ↔ P z) (l : Offset) (nodes : List ℤ) where
  pub corner_some_lem : corner_some test l nodes ≡ true → (q : ℕ) × (q < l.np) × SomeUsed P (cell_of l).weights (corners_of l nodes q)
  unfolding corner_some
  corner_some_lem e =
      let s = by_some (λ q. used_some test (cell_of l).weights (corners_of l nodes q)) l.np e in
      (s.0, s.1, used_some_lem test P tests (cell_of l).weights (corners_of l nodes s.0) s.2)

  pub some_corner : (q : ℕ) → q < l.np → SomeUsed P (cell_of l).weights (corners_of l nodes q) → corner_some test l nodes ≡ true
  unfolding corner_some
  some_corner q h u =
      some_by (λ q. used_some test (cell_of l).weights (corners_of l nodes q)) l.np q h
      (some_used test P tests (cell_of l).weights (corners_of l nodes q) u)

-- ---- where every node is a 32-bit number, a used corner is beyond the limit of node values only as the mark

module _ (l : Offset) (nodes : List ℤ) (words : (k : ℕ) → in_word (get_or nodes k (pos 0)) ≡ true) where
  pub corner_words : (q : ℕ) → used_some is_mark (cell_of l).weights (corners_of l nodes q) ≡ used_some is_beyond (cell_of l).weights (corners_of l nodes q)
  unfolding corners_of corners_at
  corner_words q = used_either (cell_of l).weights (corners_of l nodes q) (words _) (words _) (words _) (words _)

-- ---- what the used corners don't hold changes nothing

module _ (l : Offset) (nodes others : List ℤ) (same : SameNodes l nodes others) where
  corner_same : (test : ℤ → Bool) → corner_some test l nodes ≡ corner_some test l others
  unfolding corner_some
  corner_same test =
      ap (λ (n : ℕ). ltb n l.np)
      (first_same (λ q. used_some test (cell_of l).weights (corners_of l nodes q)) (λ q. used_some test (cell_of l).weights (corners_of l others q)) l.np
      (λ q h. some_same test (cell_of l).weights (corners_of l nodes q) (corners_of l others q) (same q h)))

  result_same : (factor : ℤ) (q : ℕ) → result_at l nodes factor q ≡ result_at l others factor q
  unfolding result_at value_in
  result_same factor q = pick (ltb q l.np) refl
    where
      pick : (b : Bool) → ltb q l.np ≡ b
          → cond b (result_of (value_of (cell_of l).weights (corners_of l nodes q)) factor) (pos 0)
          ≡ cond b (result_of (value_of (cell_of l).weights (corners_of l others q)) factor) (pos 0)
      pick true e =
          ap (λ (z : ℤ). result_of z factor)
          (value_same (cell_of l).weights (corners_of l nodes q) (corners_of l others q) (same q (ltb-true q l.np e)))
      pick false e = refl

  pub fix_same : (factor : ℤ) (grid : ℕ) → fix_in l nodes factor grid ≡ fix_in l others factor grid
  unfolding fix_in
  fix_same factor grid i =
      refuse_if Err (corner_same is_mark i) 8 0
      (refuse_if Err (corner_same is_beyond i) 11 0
      (Ok
      (record {
        grid = grid;
        first = result_same factor 0 i;
        second = result_same factor 1 i;
        third = result_same factor 2 i;
      })))
