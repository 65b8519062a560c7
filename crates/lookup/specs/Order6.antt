-- Order 6 of document 02 in its own words, of what `looked` answers: its refusals and the size of its results.
use Rattle.std.specs.Prelude.{ℕ, ◌^◌, ◌≤◌, ◌<◌, ◌≡◌, true, List, ◌↔◌, ℤ, pos, nat_abs, length, get_or}
use Rattle.group.specs.declared.Group.{Group}
use Rattle.group.specs.declared.Point.{Point}
use Rattle.group.specs.declared.Refusal.{Refusal}
use Rattle.group.specs.Numbers.{mark}
use Rattle.cell.specs.Order6.{in_word}
use Rattle.fix.specs.Answers.{results_of}
use Rattle.lookup.specs.Lookup.{looked}
use Rattle.lookup.specs.Demand2.{PointOutside, NoneHolds, UsedCorner, DayOutside, Judged, TableRow, ShortList, NothingRefused, ◌then◌}
use Rattle.group.specs.Refusals.{refusal_of}

-- nodes of 32 bits, as every call is lent them
abbrev pub WordNodes : List ℤ → Type 0
WordNodes nodes = (k : ℕ) → k < length nodes → in_word (get_or nodes k (pos 0)) ≡ true

-- 'so no lookup refuses by 11'
abbrev pub NoLookupBy11 : Group → List ℤ → Point → ℤ → Type 0
NoLookupBy11 g nodes p t = WordNodes nodes → (refusal_of (looked g nodes p t)).number ≡ 11 → ⊥

-- 'Lookup: 2 to 5, then 6, 9, 13, 7, 8' is all that is left of the table
unfoldable pub RefusesBut11 : Group → List ℤ → Point → ℤ → Refusal → Type 0
RefusesBut11 g nodes p t =
    Judged g
    then TableRow 6 (PointOutside p)
    then TableRow 9 (DayOutside t)
    then ShortList g nodes
    then TableRow 7 (NoneHolds g p)
    then TableRow 8 (UsedCorner (λ v. v ≡ mark) g nodes p)
    then NothingRefused

abbrev pub AllButElevenRefused : Group → List ℤ → Point → ℤ → Type 0
AllButElevenRefused g nodes p t = WordNodes nodes → (r : Refusal) → (refusal_of (looked g nodes p t) ≡ r) ↔ RefusesBut11 g nodes p t r

-- 'Results of a lookup become 64-bit; screen shifts still lose nothing': each result, 0 beside a refusal, is so small
pub record ResultsFit (g : Group) (nodes : List ℤ) (p : Point) (t : ℤ) (q : ℕ) : Type 0 where
  pub range : nat_abs (results_of (looked g nodes p t) q) ≤ 171798691760
  pub word : nat_abs (results_of (looked g nodes p t) q) < 2 ^ 63
  pub shown : nat_abs (results_of (looked g nodes p t) q) < 2 ^ 53
