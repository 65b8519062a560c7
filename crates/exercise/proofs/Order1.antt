-- Order 1 holds of the calls for many points.
use Prim.Native.Nat.{ℕ, zero, suc, ◌+◌, ◌*◌, ◌<◌}
use mathlib.Core.Path.{◌≡◌, refl, sym, ap, ◌∙◌, subst}
use mathlib.Core.Bool.{Bool, true, false, not}
use mathlib.Core.List.{List, [], ◌∷◌, ◌++◌, map, map-append}
use mathlib.Core.Logic.{◌↔◌}
use native.Mathlib.Nat.{not-suc-le-zero, le_of_suc-le-suc}
use borrow.Author.Tests.{eqb-true, eq-eqb, not-true, not-false}
use lib.Dec.{eqb}
use lib.IntN.{ℤ, nat_abs, pos}
use lib.ListN.{length, get_or, take, drop, length-map, get_or-map}
use Rattle.numbers.specs.First.{some}
use Rattle.numbers.proofs.Bools.{true_false, both}
use Rattle.group.specs.declared.Group.{Group}
use Rattle.group.specs.declared.Point.{Point}
use Rattle.group.specs.declared.Position.{Position}
use Rattle.group.specs.declared.Refusal.{Refusal}
use Rattle.group.specs.Numbers.{value_most, mark}
use Rattle.group.specs.Refusals.{no_refusal, lent_after, refusal_of}
use Rattle.group.proofs.RefusalLaws.{no_acceptance, first_past, lent_new, lent_kept}
use Rattle.abi.proofs.ListLaws.{get_or_joined, length_joined, length_list_of}
use Rattle.judge.specs.Judge.{judged}
use Rattle.lookup.specs.declared.Answer.{Answer}
use Rattle.lookup.specs.Answer.{answer_record}
use Rattle.lookup.specs.Lookup.{ends_early, nodes_judged, looked}
use Rattle.lookup.specs.Demand2.{PointOutside, NoneHolds, UsedCorner, DayOutside, Judged, TableRow, ShortList, NothingRefused, ◌then◌, Refuses}
use Rattle.lookup.proofs.RowLaws.{Single, single_then, single_judged, single_row, single_short, single_none, then_drop, then_same, first_ends, none_ends, row_stage, short_stage, judge_stage}
use Rattle.lookup.proofs.RefusedLaws.{refused_exactly}
use Rattle.exercise.specs.Exercise.{many_judged, many_verdict, point_at, answer_at, results_after, answer_words, answer_numbers, columns_agree, position_at, column_numbers, columns_after}
use Rattle.exercise.specs.Order1.{records_verdict, RefusesMany, RefusesPoint, told, Empty, SameLength, ManyPoints, NoPoints, picked, SharedOut, SameColumns, ManyColumns}
use Rattle.exercise.proofs.StageLaws.{many_accepted, many_nodes}
use Rattle.exercise.proofs.CallLaws.{many_told, call_judged, call_agree, call_ends}
use Rattle.exercise.proofs.ColumnLaws.{columns_lengths}
use Rattle.std.specs.Prelude.{Result, Ok, Err, ⊤}
use Rattle.fix.specs.declared.Fix.{Fix}

-- ---- lists of answers

module _ {A B : Type 0} (f : A → B) where
  map_take : (n : ℕ) (l : List A) → map f (take n l) ≡ take n (map f l)
  map_take zero l = refl
  map_take (suc n) [] = refl
  map_take (suc n) (x ∷ l) = ap (λ (r : List B). f x ∷ r) (map_take n l)

  map_drop : (n : ℕ) (l : List A) → map f (drop n l) ≡ drop n (map f l)
  map_drop zero l = refl
  map_drop (suc n) [] = refl
  map_drop (suc n) (x ∷ l) = map_drop n l

  map_picked : (places : List ℕ) (l : List A) (d : A) → map f (picked places l d) ≡ picked places (map f l) (f d)
  map_picked [] l d = refl
  map_picked (k ∷ places) l d = λ i. sym (get_or-map f l k d) i ∷ map_picked places l d i

  -- within a list it does not matter what stands for the rest
  map_at : (l : List A) (k : ℕ) (d : A) (e : B) → k < length l → get_or (map f l) k e ≡ f (get_or l k d)
  map_at [] k d e h = absurd (not-suc-le-zero h)
  map_at (x ∷ l) zero d e h = refl
  map_at (x ∷ l) (suc k) d e h = map_at l k d e (le_of_suc-le-suc h)

-- ---- the whole call

module _ (g : Group) (nodes : List ℤ) (agree : Bool) (Other : Type 0) (yea : agree ≡ false → Other) (nay : agree ≡ true → Other → ⊥) where
  abbrev From13 : Refusal → Type 0
  From13 = ShortList g nodes then NothingRefused

  stands : RefusesMany g nodes Other (refusal_of (many_verdict g (length nodes) agree))
  unfolding RefusesMany many_verdict many_judged nodes_judged
  stands =
      judge_stage Err refusal_of (λ r. refl) (TableRow 12 Other then From13) g (many_judged g (length nodes) agree)
      (λ a.
      row_stage Err refusal_of (λ r. refl) Other From13 (not agree) 12 (nodes_judged g (length nodes)) (λ e. yea (not-true agree e)) (λ e. nay (not-false agree e))
      (λ b. short_stage Err refusal_of (λ r. refl) NothingRefused g nodes (Ok tt) (λ c. refl)))

  in_one_way : Single (RefusesMany g nodes Other)
  unfolding RefusesMany
  in_one_way = single_then _ _ (single_judged g) (single_then _ _ (single_row 12 Other) (single_then _ _ (single_short g nodes) single_none))

  many_exactly : (r : Refusal) → (refusal_of (many_verdict g (length nodes) agree) ≡ r) ↔ RefusesMany g nodes Other r
  many_exactly r = (λ e. subst (RefusesMany g nodes Other) e stands, λ h. in_one_way _ r stands h)

-- what it leaves
module _ (g : Group) (nodes : List ℤ) (agree : Bool) where
  lent_as_it_was : {A : Type 0} (new old : List A) → (many_verdict g (length nodes) agree ≡ Ok tt → ⊥)
      → lent_after (refusal_of (many_verdict g (length nodes) agree)) new old ≡ old
  lent_as_it_was new old n = lent_kept (refusal_of (many_verdict g (length nodes) agree)) new old (λ z. n ((many_told g (length nodes) agree).zero z))

  lent_anew : {A : Type 0} (new old : List A) → many_verdict g (length nodes) agree ≡ Ok tt
      → lent_after (refusal_of (many_verdict g (length nodes) agree)) new old ≡ new
  lent_anew new old e = lent_new (refusal_of (many_verdict g (length nodes) agree)) new old (ap (λ (v : Result ⊤ Refusal). (refusal_of v).number) e)

-- ---- a point of an accepted call: the group and the node list refuse none

module _ (g : Group) (nodes : List ℤ) (e : judged g ≡ Ok tt) (ends : some (ends_early g (length nodes)) g.grids ≡ false) (p : Point) (t : ℤ) where
  abbrev Row6 : Refusal → Type 0
  Row6 = TableRow 6 (PointOutside p)

  abbrev Row9 : Refusal → Type 0
  Row9 = TableRow 9 (DayOutside t)

  abbrev From7 : Refusal → Type 0
  From7 =
      TableRow 7 (NoneHolds g p)
      then TableRow 8 (UsedCorner (λ v. v ≡ mark) g nodes p)
      then TableRow 11 (UsedCorner (λ v. value_most < nat_abs v) g nodes p)
      then NothingRefused

  abbrev With13 : Refusal → Type 0
  With13 = ShortList g nodes then From7

  point_rows : (r : Refusal) → Refuses g nodes p t r ↔ RefusesPoint g nodes p t r
  unfolding Refuses RefusesPoint
  point_rows r =
      let a = then_drop (Judged g) (Row6 then Row9 then With13) (λ s h. no_acceptance s (sym h ∙ e)) r in
      let b =
      then_same Row6 (Row9 then With13) (Row9 then From7)
      (then_same Row9 With13 From7 (then_drop (ShortList g nodes) From7 (none_ends g nodes ends))) r in
      (λ h. b.0 (a.0 h), λ h. a.1 (b.1 h))

  point_exactly : (r : Refusal) → (refusal_of (looked g nodes p t) ≡ r) ↔ RefusesPoint g nodes p t r
  point_exactly r =
      let a = refused_exactly g nodes p t r in let b = point_rows r in
      (λ h. b.0 (a.0 h), λ h. a.1 (b.1 h))

-- the same of the answer that is written, and what stands beside a refusal
module _ (g : Group) (nodes : List ℤ) where
  answer_exactly : judged g ≡ Ok tt → some (ends_early g (length nodes)) g.grids ≡ false → (p : Position) (r : Refusal)
      → (told (answer_at g nodes p) ≡ r) ↔ RefusesPoint g nodes (point_at p) p.day r
  unfolding answer_at
  answer_exactly e ends p r = point_exactly g nodes e ends (point_at p) p.day r

  record_zeros : (f : Result Fix Refusal) → (told (answer_record f) ≡ no_refusal → ⊥) → Empty (answer_record f)
  record_zeros (Ok f) n = absurd (n refl)
  record_zeros (Err r) n = (refl, refl, refl, refl)

  answer_zeros : (p : Position) → (told (answer_at g nodes p) ≡ no_refusal → ⊥) → Empty (answer_at g nodes p)
  unfolding answer_at
  answer_zeros p = record_zeros (looked g nodes (point_at p) p.day)

-- what stands for a point behind the last
abbrev origin : Position
origin = record { lon = record { 0 = pos 0 }; lat = record { 0 = pos 0 }; day = pos 0 }

-- ---- lists of records

module _ (g : Group) (nodes : List ℤ) where
  differ : (points : List Position) (results : List Answer) → eqb (length points) (length results) ≡ false → SameLength points results → ⊥
  differ points results e h = true_false (eq-eqb (length points) (length results) h) e

  agree : (points : List Position) (results : List Answer) → eqb (length points) (length results) ≡ true → (SameLength points results → ⊥) → ⊥
  agree points results e n = n (eqb-true (length points) (length results) e)

  results_new : (points : List Position) (results : List Answer) → records_verdict g nodes points results ≡ Ok tt
      → results_after g nodes points results ≡ map (answer_at g nodes) points
  unfolding results_after
  results_new points results e =
      lent_anew g nodes (eqb (length points) (length results)) (map (answer_at g nodes) points) results e

  same : (points : List Position) (results : List Answer) → SameLength points results → (part : List Position) (lent : List Answer) → SameLength part lent
      → records_verdict g nodes part lent ≡ records_verdict g nodes points results
  same points results h part lent k =
      ap (many_verdict g (length nodes)) (eq-eqb (length part) (length lent) k ∙ sym (eq-eqb (length points) (length results) h))

  -- what a part of an accepted call leaves
  module _ (points : List Position) (results : List Answer) (e : records_verdict g nodes points results ≡ Ok tt) where
    alike : SameLength points results
    alike = eqb-true (length points) (length results) (call_agree g (length nodes) (eqb (length points) (length results)) e)

    part_new : (part : List Position) (lent : List Answer) → SameLength part lent → results_after g nodes part lent ≡ map (answer_at g nodes) part
    part_new part lent k = results_new part lent (same points results alike part lent k ∙ e)

    whole_new : map (answer_at g nodes) points ≡ results_after g nodes points results
    whole_new = sym (results_new points results e)

-- ---- columns

module _ (g : Group) (nodes lons lats days results : List ℤ) where
  abbrev test : Bool
  test = columns_agree (length lons) (length lats) (length days) (length results)

  columns_true : SameColumns lons lats days results → test ≡ true
  unfolding columns_agree
  columns_true h = both (both (eq-eqb _ _ h.0) (eq-eqb _ _ h.1)) (eq-eqb _ _ h.2)

  columns_differ : test ≡ false → SameColumns lons lats days results → ⊥
  columns_differ e h = true_false (columns_true h) e

  columns_alike : test ≡ true → (SameColumns lons lats days results → ⊥) → ⊥
  columns_alike e n = n (columns_lengths (length lons) (length lats) (length days) (length results) e)

-- ---- the promises

pub many_points : (g : Group) (nodes : List ℤ) (points : List Position) (results : List Answer) → ManyPoints g nodes points results
unfolding results_after
many_points g nodes points results =
    let t = eqb (length points) (length results) in
    record {
      refused = many_exactly g nodes t (SameLength points results → ⊥) (differ g nodes points results) (agree g nodes points results);
      kept = lent_as_it_was g nodes t (map (answer_at g nodes) points) results;
      many = λ e. ap length (results_new g nodes points results e) ∙ length-map points (answer_at g nodes);
      each = at_place;
      own = λ e k p a h r.
          subst (λ (z : Answer). (told z ≡ r) ↔ RefusesPoint g nodes (point_at (get_or points k p)) (get_or points k p).day r) (sym (at_place e k p a h))
          (answer_exactly g nodes (call_judged g (length nodes) t e) (call_ends g (length nodes) t e) (get_or points k p) r);
      zeros = λ e k a h. subst (λ (z : Answer). (told z ≡ no_refusal → ⊥) → Empty z) (sym (at_place e k origin a h)) (answer_zeros g nodes (get_or points k origin));
    }
  where
    at_place : records_verdict g nodes points results ≡ Ok tt → (k : ℕ) (p : Position) (a : Answer) → k < length points
        → get_or (results_after g nodes points results) k a ≡ answer_at g nodes (get_or points k p)
    at_place e k p a h = ap (λ (l : List Answer). get_or l k a) (results_new g nodes points results e) ∙ map_at (answer_at g nodes) points k p a h

pub no_points : (g : Group) (nodes : List ℤ) → NoPoints g nodes
unfolding many_judged nodes_judged
no_points g nodes e n =
    many_accepted g (length nodes) true e ∙ many_nodes g (length nodes) true refl
    ∙ first_past Err (ends_early g (length nodes)) g.grids 13 1 (Ok tt) (none (some (ends_early g (length nodes)) g.grids) refl)
  where
    none : (b : Bool) → some (ends_early g (length nodes)) g.grids ≡ b → some (ends_early g (length nodes)) g.grids ≡ false
    none true h = absurd (n _ (first_ends g nodes h))
    none false h = h

pub shared_out : (g : Group) (nodes : List ℤ) (points : List Position) (results : List Answer) → SharedOut g nodes points results
shared_out g nodes points results =
    record {
      verdict = same g nodes points results;
      permuted = λ e places p lent k.
          part_new g nodes points results e (picked places points p) lent k ∙ map_picked (answer_at g nodes) places points p
          ∙ ap (λ (l : List Answer). picked places l (answer_at g nodes p)) (whole_new g nodes points results e);
      front = λ e n lent k.
          part_new g nodes points results e (take n points) lent k ∙ map_take (answer_at g nodes) n points ∙ ap (take n) (whole_new g nodes points results e);
      back = λ e n lent k.
          part_new g nodes points results e (drop n points) lent k ∙ map_drop (answer_at g nodes) n points ∙ ap (drop n) (whole_new g nodes points results e);
      joined = λ e more lent whole k l.
          part_new g nodes points results e (points ++ more) whole l ∙ map-append (answer_at g nodes) points more
          ∙ (λ i. whole_new g nodes points results e i ++ sym (part_new g nodes points results e more lent k) i);
    }

pub many_columns : (g : Group) (nodes lons lats days results : List ℤ) → ManyColumns g nodes lons lats days results
unfolding columns_after answer_at
many_columns g nodes lons lats days results =
    let Other = SameColumns lons lats days results → ⊥ in
    record {
      refused = many_exactly g nodes (test g nodes lons lats days results) Other (columns_differ g nodes lons lats days results) (columns_alike g nodes lons lats days results);
      kept = lent_as_it_was g nodes (test g nodes lons lats days results) (column_numbers g nodes lons lats days) results;
      many = λ e.
          ap length (lent_anew g nodes (test g nodes lons lats days results) (column_numbers g nodes lons lats days) results e)
          ∙ length_joined (λ i. answer_numbers (answer_at g nodes (position_at lons lats days i))) answer_words (length lons) (λ i l. refl);
      each = λ e k j l m.
          ap (λ (ns : List ℤ). get_or ns (k * answer_words + j) (pos 0))
          (lent_anew g nodes (test g nodes lons lats days results) (column_numbers g nodes lons lats days) results e)
          ∙ get_or_joined (λ i. answer_numbers (answer_at g nodes (position_at lons lats days i))) answer_words (length lons) (pos 0) (λ i. refl) k j l m;
      same = λ h lent k.
          ap (many_verdict g (length nodes))
          (columns_true g nodes lons lats days results h ∙ sym (eq-eqb _ _ (length_list_of (position_at lons lats days) (length lons) ∙ sym k)));
    }
