-- Order 1 of document 02 in its own words, of what the calls for many points answer and leave: exactly when they refuse, by which number and
-- with which place; that a refusal writes nothing; that each result is the single lookup's; and that a replay can be shared out.
use Rattle.std.specs.Prelude.{ℕ, ◌+◌, ◌*◌, ◌<◌, ◌≡◌, List, [], ◌++◌, map, ◌↔◌, eqb, ℤ, pos, nat_abs, length, get_or, take, drop, Result, Ok, ⊤}
use Rattle.group.specs.declared.Group.{Group}
use Rattle.group.specs.declared.Point.{Point}
use Rattle.group.specs.declared.Position.{Position}
use Rattle.group.specs.declared.Refusal.{Refusal}
use Rattle.group.specs.Numbers.{value_most, mark}
use Rattle.group.specs.Refusals.{refusal, no_refusal, refusal_of}
use Rattle.abi.specs.Abi.{number_at, list_of}
use Rattle.judge.specs.Judge.{judged}
use Rattle.lookup.specs.declared.Answer.{Answer}
use Rattle.lookup.specs.Demand2.{PointOutside, NoneHolds, UsedCorner, DayOutside, EndsBefore, Judged, TableRow, ShortList, NothingRefused, ◌then◌}
use Rattle.exercise.specs.Exercise.{many_verdict, point_at, answer_at, results_after, answer_words, answer_numbers, columns_agree, position_at, columns_after}

-- the verdict of a call over lists of records
abbrev pub records_verdict : Group → List ℤ → List Position → List Answer → Result ⊤ Refusal
records_verdict g nodes points results = many_verdict g (length nodes) (eqb (length points) (length results))

-- that of a call over columns
abbrev pub columns_verdict : Group → (nodes lons lats days results : List ℤ) → Result ⊤ Refusal
columns_verdict g nodes lons lats days results = many_verdict g (length nodes) (columns_agree (length lons) (length lats) (length days) (length results))

-- 'the order is 2 to 5, 12, 13', 12 where the lists are not as long as they should be
unfoldable pub RefusesMany : Group → List ℤ → Type 0 → Refusal → Type 0
RefusesMany g nodes OtherLength = Judged g then TableRow 12 OtherLength then ShortList g nodes then NothingRefused

-- 'then each point's own': 6, 9, 7, 8, 11
unfoldable pub RefusesPoint : Group → List ℤ → Point → ℤ → Refusal → Type 0
RefusesPoint g nodes p t =
    TableRow 6 (PointOutside p)
    then TableRow 9 (DayOutside t)
    then TableRow 7 (NoneHolds g p)
    then TableRow 8 (UsedCorner (λ v. v ≡ mark) g nodes p)
    then TableRow 11 (UsedCorner (λ v. value_most < nat_abs v) g nodes p)
    then NothingRefused

-- the refusal that an answer names, and one that names nothing else
abbrev pub told : Answer → Refusal
told a = refusal a.number a.place

abbrev pub Empty : Answer → Type 0
Empty a = (a.grid ≡ pos 0) × (a.first ≡ pos 0) × (a.second ≡ pos 0) × (a.third ≡ pos 0)

-- 'a lent list for results of the same length'
abbrev pub SameLength : List Position → List Answer → Type 0
SameLength points results = length points ≡ length results

pub record ManyPoints (g : Group) (nodes : List ℤ) (points : List Position) (results : List Answer) : Type 0 where
  -- the whole call is refused exactly by these rows, in their order
  pub refused : (r : Refusal) → (refusal_of (records_verdict g nodes points results) ≡ r) ↔ RefusesMany g nodes (SameLength points results → ⊥) r
  -- 'and writes nothing'
  pub kept : (records_verdict g nodes points results ≡ Ok tt → ⊥) → results_after g nodes points results ≡ results
  -- 'each result equals the single lookup's, refusals included', and there are no others
  pub many : records_verdict g nodes points results ≡ Ok tt → length (results_after g nodes points results) ≡ length points
  pub each : records_verdict g nodes points results ≡ Ok tt → (k : ℕ) (p : Position) (a : Answer) → k < length points
      → get_or (results_after g nodes points results) k a ≡ answer_at g nodes (get_or points k p)
  -- result k names its own refusal exactly by these rows, in their order, with 0 as its place; beside one all else is 0
  pub own : records_verdict g nodes points results ≡ Ok tt → (k : ℕ) (p : Position) (a : Answer) → k < length points → (r : Refusal)
      → (told (get_or (results_after g nodes points results) k a) ≡ r) ↔ RefusesPoint g nodes (point_at (get_or points k p)) (get_or points k p).day r
  pub zeros : records_verdict g nodes points results ≡ Ok tt → (k : ℕ) (a : Answer) → k < length points
      → (told (get_or (results_after g nodes points results) k a) ≡ no_refusal → ⊥) → Empty (get_or (results_after g nodes points results) k a)

-- 'no points is a valid call'
abbrev pub NoPoints : Group → List ℤ → Type 0
NoPoints g nodes = judged g ≡ Ok tt → ((k : ℕ) → EndsBefore g nodes k → ⊥) → records_verdict g nodes [] [] ≡ Ok tt

-- the elements at these places, in this order: a permutation of a list, or any part of it
abbrev pub picked : {A : Type 0} → List ℕ → List A → A → List A
picked places list d = map (λ k. get_or list k d) places

-- a part of the points, done by a call of its own with a lent list of the same length
pub record SharedOut (g : Group) (nodes : List ℤ) (points : List Position) (results : List Answer) : Type 0 where
  -- the verdict of 2 to 5 and 13 is the same for every part, accepted or refused
  pub verdict : SameLength points results → (part : List Position) (lent : List Answer) → SameLength part lent
      → records_verdict g nodes part lent ≡ records_verdict g nodes points results
  -- permuted points have the results permuted
  pub permuted : records_verdict g nodes points results ≡ Ok tt → (places : List ℕ) (p : Position) (lent : List Answer)
      → SameLength (picked places points p) lent
      → results_after g nodes (picked places points p) lent ≡ picked places (results_after g nodes points results) (answer_at g nodes p)
  -- points cut at any place have the results cut there
  pub front : records_verdict g nodes points results ≡ Ok tt → (n : ℕ) (lent : List Answer) → SameLength (take n points) lent
      → results_after g nodes (take n points) lent ≡ take n (results_after g nodes points results)
  pub back : records_verdict g nodes points results ≡ Ok tt → (n : ℕ) (lent : List Answer) → SameLength (drop n points) lent
      → results_after g nodes (drop n points) lent ≡ drop n (results_after g nodes points results)
  -- points joined to others have the results joined
  pub joined : records_verdict g nodes points results ≡ Ok tt → (more : List Position) (lent whole : List Answer)
      → SameLength more lent → SameLength (points ++ more) whole
      → results_after g nodes (points ++ more) whole ≡ results_after g nodes points results ++ results_after g nodes more lent

-- three columns of one length, and results of six times that
abbrev pub SameColumns : (lons lats days results : List ℤ) → Type 0
SameColumns lons lats days results = (length lats ≡ length lons) × (length days ≡ length lons) × (length results ≡ length lons * answer_words)

-- the same call over columns of plain numbers
pub record ManyColumns (g : Group) (nodes lons lats days results : List ℤ) : Type 0 where
  pub refused : (r : Refusal) → (refusal_of (columns_verdict g nodes lons lats days results) ≡ r)
      ↔ RefusesMany g nodes (SameColumns lons lats days results → ⊥) r
  pub kept : (columns_verdict g nodes lons lats days results ≡ Ok tt → ⊥) → columns_after g nodes lons lats days results ≡ results
  -- six numbers for each point; number j of answer k is that of the single lookup at position k
  pub many : columns_verdict g nodes lons lats days results ≡ Ok tt → length (columns_after g nodes lons lats days results) ≡ length lons * answer_words
  pub each : columns_verdict g nodes lons lats days results ≡ Ok tt → (k j : ℕ) → k < length lons → j < answer_words
      → number_at (columns_after g nodes lons lats days results) (k * answer_words + j)
      ≡ number_at (answer_numbers (answer_at g nodes (position_at lons lats days k))) j
  -- its verdict is that of the call over records of the same points
  pub same : SameColumns lons lats days results → (lent : List Answer) → length lent ≡ length lons
      → columns_verdict g nodes lons lats days results ≡ records_verdict g nodes (list_of (position_at lons lats days) (length lons)) lent
