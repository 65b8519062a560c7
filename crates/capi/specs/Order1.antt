-- Order 1 through the C functions: each result that an accepted call for many points leaves is what the single lookup returns and leaves.
use Rattle.std.specs.Prelude.{ℕ, ◌<◌, ◌≡◌, List, ℤ, length, get_or}
use Rattle.group.specs.declared.Position.{Position}
use Rattle.lookup.specs.declared.Answer.{Answer as Found}
use Rattle.capi.specs.Answers.{found_answer, lookup_answer, many_answer}

pub record EachAsLookup (group nodes : List ℤ) (points : List Position) (results : List Found) : Type 0 where
  pub many : (many_answer group nodes points results).refusal.number ≡ 0 → length (many_answer group nodes points results).lent ≡ length points
  pub each : (many_answer group nodes points results).refusal.number ≡ 0 → (k : ℕ) (p : Position) (a : Found) → k < length points
      → found_answer (get_or (many_answer group nodes points results).lent k a)
      ≡ lookup_answer group nodes (get_or points k p).lon.0 (get_or points k p).lat.0 (get_or points k p).day
