-- Document 02's order 1, a whole exercise at once: the verdict of one call for many points, each point's answer, and what the lent list of
-- results holds afterwards. The same over columns of plain numbers.
use Rattle.std.specs.Prelude.{ℕ, ◌*◌, Bool, not, ◌&&◌, List, [], ◌∷◌, map, eqb, ℤ, pos, length, Result, Err, ⊤}
use Rattle.group.specs.declared.Group.{Group}
use Rattle.group.specs.declared.Point.{Point}
use Rattle.group.specs.declared.Position.{Position}
use Rattle.group.specs.Refusals.{refuse_if, unless_refused, lent_after, refusal_of}
use Rattle.abi.specs.Abi.{number_at, joined}
use Rattle.judge.specs.Judge.{judged}
use Rattle.lookup.specs.declared.Answer.{Answer}
use Rattle.lookup.specs.Answer.{answer_record}
use Rattle.lookup.specs.Lookup.{nodes_judged, looked}
use Rattle.group.specs.declared.Refusal.{Refusal}

-- in an accepted group: 12 unless the lengths agree, then 13 of a list of so many nodes
unfoldable pub many_judged : Group → (nodes : ℕ) → Bool → Result ⊤ Refusal
many_judged g nodes agree = refuse_if Err (not agree) 12 0 (nodes_judged g nodes)

-- the whole call: 2 to 5 first
unfoldable pub many_verdict : Group → (nodes : ℕ) → Bool → Result ⊤ Refusal
many_verdict g nodes agree = unless_refused Err (judged g) (many_judged g nodes agree)

abbrev pub point_at : Position → Point
point_at p = record { lon = p.lon; lat = p.lat }

-- what the single lookup answers at a position
unfoldable pub answer_at : Group → List ℤ → Position → Answer
answer_at g nodes p = answer_record (looked g nodes (point_at p) p.day)

-- the lent results afterwards: each point's answer, or all as they were
unfoldable pub results_after : Group → List ℤ → List Position → List Answer → List Answer
results_after g nodes points results =
    lent_after (refusal_of (many_verdict g (length nodes) (eqb (length points) (length results)))) (map (answer_at g nodes) points) results

-- ---- columns of plain numbers

-- the numbers of an answer: the refusal's number and place, the grid's number and the three results
abbrev pub answer_words : ℕ
answer_words = 6

abbrev pub answer_numbers : Answer → List ℤ
answer_numbers a = pos a.number ∷ pos a.place ∷ a.grid ∷ a.first ∷ a.second ∷ a.third ∷ []

-- three columns of one length, and results of six times that
unfoldable pub columns_agree : (lons lats days results : ℕ) → Bool
columns_agree lons lats days results = (eqb lats lons && eqb days lons) && eqb results (lons * answer_words)

-- the position whose numbers stand at k
abbrev pub position_at : (lons lats days : List ℤ) → ℕ → Position
position_at lons lats days k = record { lon = record { 0 = number_at lons k }; lat = record { 0 = number_at lats k }; day = number_at days k }

-- the numbers of every answer, one answer behind the other
abbrev pub column_numbers : Group → (nodes lons lats days : List ℤ) → List ℤ
column_numbers g nodes lons lats days = joined (λ k. answer_numbers (answer_at g nodes (position_at lons lats days k))) (length lons)

-- the lent results afterwards
unfoldable pub columns_after : Group → (nodes lons lats days results : List ℤ) → List ℤ
columns_after g nodes lons lats days results =
    lent_after
    (refusal_of (many_verdict g (length nodes) (columns_agree (length lons) (length lats) (length days) (length results))))
    (column_numbers g nodes lons lats days)
    results
