-- Order 4 through the C functions: what an accepted call leaves says whether the log passes, and which line is the first bad one; and what
-- the one function writes passes with the other.
use Rattle.std.specs.Prelude.{ℕ, suc, ◌≤◌, ◌<◌, ◌≡◌, List, [], ◌∷◌, ◌↔◌, ℤ, take, replicate}
use Rattle.group.specs.declared.Refusal.{Refusal}
use Rattle.group.specs.Refusals.{no_refusal}
use Rattle.abi.specs.Abi.{group_of_words, joined}
use Rattle.logs.specs.Writing.{line_most}
use Rattle.logs.specs.Order4.{LogPasses, FirstBad, RefusesLog}
use Rattle.capi.specs.Answers.{log_answer, line_answer}

-- two numbers: the line, and its kind
pub record JudgesLines (group nodes : List ℤ) (log : List ℕ) : Type 0 where
  pub refused : (r : Refusal) → ((log_answer group nodes log).refusal ≡ r) ↔ RefusesLog (group_of_words group) nodes r
  -- both are 0 exactly where every line passes, and else those of the first bad line exactly
  pub passed : (log_answer group nodes log).refusal ≡ no_refusal → ((log_answer group nodes log).lent ≡ replicate 2 0) ↔ LogPasses (group_of_words group) nodes log
  pub failed : (log_answer group nodes log).refusal ≡ no_refusal → (n kind : ℕ)
      → ((log_answer group nodes log).lent ≡ suc n ∷ kind ∷ []) ↔ FirstBad (group_of_words group) nodes log (suc n) kind

-- what an accepted writing left: as many bytes as it counts
abbrev pub line_bytes : (group nodes position : List ℤ) → List ℕ → List ℕ
line_bytes group nodes position out = take (line_answer group nodes position out).lent.count (line_answer group nodes position out).lent.bytes

pub record OwnLinesPass (group nodes : List ℤ) : Type 0 where
  -- its lines pass, in any number and order
  pub pass : (text : ℕ → List ℕ) (n : ℕ)
      → ((k : ℕ) → k < n → (position : List ℤ) × (out : List ℕ) × ((line_answer group nodes position out).refusal ≡ no_refusal)
      × (text k ≡ line_bytes group nodes position out))
      → (log_answer group nodes (joined text n)).lent ≡ replicate 2 0
  -- where one is written, no log is refused
  pub accepted : (position : List ℤ) (out log : List ℕ) → (line_answer group nodes position out).refusal ≡ no_refusal
      → (log_answer group nodes log).refusal ≡ no_refusal
  -- no line is longer
  pub most : (position : List ℤ) (out : List ℕ) → (line_answer group nodes position out).lent.count ≤ line_most
