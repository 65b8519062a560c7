-- Order 6 of the lookup: no lookup over 32-bit nodes refuses by 11, and how large its results are.
use Prim.Native.Nat.{ℕ, zero, suc, ◌≤◌, ◌<◌}
use mathlib.Core.Path.{◌≡◌, refl, sym, ap, ◌∙◌, subst}
use mathlib.Core.Bool.{true}
use mathlib.Core.List.{List, [], ◌∷◌}
use mathlib.Core.Logic.{inl, inr, ◌↔◌}
use native.Mathlib.Decide.{dec_lt}
use native.Mathlib.Omega.{arith}
use lib.IntN.{ℤ, pos, nat_abs}
use lib.ListN.{get_or}
use Rattle.group.specs.declared.Group.{Group}
use Rattle.group.specs.declared.Point.{Point}
use Rattle.group.specs.declared.Refusal.{Refusal}
use Rattle.group.specs.Numbers.{value_most, result_most, mark, is_mark}
use Rattle.group.specs.Refusals.{refusal, refusal_of}
use Rattle.judge.specs.Judge.{judged}
use Rattle.judge.proofs.TableLaws.{judged_most}
use Rattle.cell.specs.Cell.{is_beyond}
use Rattle.cell.specs.Order6.{in_word}
use Rattle.cell.proofs.ValueLaws.{is_mark_lem, is_beyond_lem, used_some_lem, some_used}
use Rattle.fix.specs.Answers.{results_of}
use Rattle.fix.specs.Fix.{cell_of, corners_of}
use Rattle.fix.proofs.FixLaws.{corner_words}
use Rattle.lookup.specs.Lookup.{looked}
use Rattle.lookup.specs.Demand2.{seen_from, UsedCorner, TableRow, NothingRefused, ◌then◌, Refuses}
use Rattle.lookup.specs.Order6.{WordNodes, NoLookupBy11, RefusesBut11, AllButElevenRefused, ResultsFit}
use Rattle.lookup.proofs.RefusedLaws.{refused_exactly}
use Rattle.lookup.proofs.ResultLaws.{answered, rest_zero}
use Rattle.std.specs.Prelude.{Result, Ok, Err, ⊤}
use Rattle.fix.specs.declared.Fix.{Fix}

-- ---- 11 is never met

-- the rows behind one, changed
then_map : {F N M : Refusal → Type 0} → ((r : Refusal) → N r → M r) → (r : Refusal) → (F then N) r → (F then M) r
then_map f r (inl a) = inl a
then_map f r (inr b) = inr (b.0, f r b.1)

-- past the list's end a node reads as 0
word_at : (nodes : List ℤ) → WordNodes nodes → (k : ℕ) → in_word (get_or nodes k (pos 0)) ≡ true
word_at [] h k = refl
word_at (z ∷ nodes) h zero = h 0 (omega arith)
word_at (z ∷ nodes) h (suc k) = word_at nodes (λ j l. h (suc j) (omega arith)) k

module _ (g : Group) (nodes : List ℤ) (p : Point) (t : ℤ) (h : WordNodes nodes) where
  -- a used corner beyond the limit is the mark
  only_mark : UsedCorner (λ v. value_most < nat_abs v) g nodes p → UsedCorner (λ v. v ≡ mark) g nodes p
  only_mark u =
      let l = seen_from g p u.k in let w = (cell_of l).weights in let v = corners_of l nodes u.q in
      record {
        k = u.k;
        grid = u.grid;
        q = u.q;
        parameter = u.parameter;
        corner = used_some_lem is_mark (λ v. v ≡ mark) is_mark_lem w v
            (corner_words l nodes (word_at nodes h) u.q ∙ some_used is_beyond (λ v. value_most < nat_abs v) is_beyond_lem w v u.corner);
      }

  abbrev Row8 : Refusal → Type 0
  Row8 = TableRow 8 (UsedCorner (λ v. v ≡ mark) g nodes p)

  abbrev Row11 : Refusal → Type 0
  Row11 = TableRow 11 (UsedCorner (λ v. value_most < nat_abs v) g nodes p)

  without : (r : Refusal) → (Row8 then Row11 then NothingRefused) r → (Row8 then NothingRefused) r
  without r (inl a) = inl a
  without r (inr (no8, inl b)) = absurd (no8 (refusal 8 0) (refl, only_mark b.1))
  without r (inr (no8, inr b)) = inr (no8, b.1)

  again : (r : Refusal) → (Row8 then NothingRefused) r → (Row8 then Row11 then NothingRefused) r
  again r (inl a) = inl a
  again r (inr b) = inr (b.0, inr (λ s c. b.0 (refusal 8 0) (refl, only_mark c.1), b.1))

  exactly : (r : Refusal) → (refusal_of (looked g nodes p t) ≡ r) ↔ RefusesBut11 g nodes p t r
  unfolding Refuses RefusesBut11
  exactly r = (
    λ e. then_map (then_map (then_map (then_map (then_map without)))) r ((refused_exactly g nodes p t r).0 e),
    λ s. (refused_exactly g nodes p t r).1 (then_map (then_map (then_map (then_map (then_map again)))) r s),
  )

pub all_but_eleven : (g : Group) (nodes : List ℤ) (p : Point) (t : ℤ) → AllButElevenRefused g nodes p t
all_but_eleven = exactly

-- a refusal of that table has another number
other_number : (g : Group) (nodes : List ℤ) (p : Point) (t : ℤ) (r : Refusal) → RefusesBut11 g nodes p t r → r.number ≡ 11 → ⊥
unfolding RefusesBut11
other_number g nodes p t r (inl a) e =
    let m = judged_most g in let k : (refusal_of (judged g)).number ≡ r.number = ap (λ (v : Result ⊤ Refusal). (refusal_of v).number) a in omega arith
other_number g nodes p t r (inr (_, inl a)) e = let k = ap (λ (s : Refusal). s.number) a.0 in omega arith
other_number g nodes p t r (inr (_, inr (_, inl a))) e = let k = ap (λ (s : Refusal). s.number) a.0 in omega arith
other_number g nodes p t r (inr (_, inr (_, inr (_, inl a)))) e = let k = ap (λ (s : Refusal). s.number) a.1 in omega arith
other_number g nodes p t r (inr (_, inr (_, inr (_, inr (_, inl a))))) e = let k = ap (λ (s : Refusal). s.number) a.0 in omega arith
other_number g nodes p t r (inr (_, inr (_, inr (_, inr (_, inr (_, inl a)))))) e = let k = ap (λ (s : Refusal). s.number) a.0 in omega arith
other_number g nodes p t r (inr (_, inr (_, inr (_, inr (_, inr (_, inr a)))))) e = let k = ap (λ (s : Refusal). s.number) a.1 in omega arith

pub no_lookup_by_11 : (g : Group) (nodes : List ℤ) (p : Point) (t : ℤ) → NoLookupBy11 g nodes p t
no_lookup_by_11 g nodes p t h e =
    let r = refusal_of (looked g nodes p t) in other_number g nodes p t r ((all_but_eleven g nodes p t h r).0 refl) e

-- ---- the size of a result

pub results_fit : (g : Group) (nodes : List ℤ) (p : Point) (t : ℤ) (q : ℕ) → ResultsFit g nodes p t q
results_fit g nodes p t q = let m = most (looked g nodes p t) refl in record { range = m; word = omega arith; shown = omega arith }
  where
    most : (x : Result Fix Refusal) → looked g nodes p t ≡ x → nat_abs (results_of (looked g nodes p t) q) ≤ result_most
    most (Err r) e = subst (λ (x : Result Fix Refusal). nat_abs (results_of x q) ≤ result_most) (sym e) (omega arith)
    most (Ok f) e =
        subst (λ (x : Result Fix Refusal). nat_abs (results_of x q) ≤ result_most) (sym e)
        (elim (dec_lt q g.parameters) [
          | yes l ↦ (answered g nodes p t f e q l).small
          | no l ↦ subst (λ (z : ℤ). nat_abs z ≤ result_most) (sym (rest_zero g nodes p t f e q (omega arith))) (omega arith)
        ])
