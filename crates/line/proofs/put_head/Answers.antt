-- `line::put_head` meets its contract.
use Prim.Native.Nat.{ℕ, ◌+◌, ◌≤◌}
use mathlib.Core.List.{List, [], ◌∷◌, ◌++◌, map}
use lib.ListN.{length, drop}
use lib.IntN.{pos}
use Rattle.text.specs.Decimal.{int_text}
use Rattle.text.specs.Wrote.{Wrote}
use Rattle.text.proofs.PutLaws.{Left, left_all, left_none, left_more, pieces, line_pieces}
use Rattle.line.specs.Names.{name_text, unit_text}
use Rattle.line.specs.Lines.{group_keyword, head_ints, head_text}
use Rattle.line.specs.declared.Head.{Head}
use Rattle.line.proofs.put_head.Goals as goal

-- the pieces of the line from number k on, from the unit on, and from the name on
abbrev numbers : ℕ → Head → List ℕ
numbers k h = pieces (map int_text (drop k (head_ints h))) (10 ∷ [])

abbrev from_unit : Head → List ℕ
from_unit h = pieces (unit_text h.unit ∷ map int_text (head_ints h)) (10 ∷ [])

abbrev from_name : Head → List ℕ
from_name h = pieces (name_text h.name ∷ unit_text h.unit ∷ map int_text (head_ints h)) (10 ∷ [])

-- what is left of the line behind the word
left₁ : {at p : ℕ} {out m : List ℕ} (h : Head) → at + length (head_text h ++ (10 ∷ [])) ≤ length out → Wrote at group_keyword out p m
    → Left at (head_text h ++ (10 ∷ [])) out (from_name h) p m
left₁ {at} {p} {out} {m} h room w =
    left_more group_keyword (from_name h)
    (left_all at (head_text h ++ (10 ∷ [])) out _ (line_pieces group_keyword (name_text h.name ∷ unit_text h.unit ∷ map int_text (head_ints h)) (10 ∷ [])) room) w

-- and behind each piece, by what was left in front of it
module _ {at p q : ℕ} {text out m n : List ℕ} (h : Head) where
  left₂ : Left at text out (from_name h) p m → Wrote p (9 ∷ name_text h.name) m q n → Left at text out (from_unit h) q n
  left₂ l w = left_more (9 ∷ name_text h.name) (from_unit h) l w

  left₃ : Left at text out (from_unit h) p m → Wrote p (9 ∷ unit_text h.unit) m q n → Left at text out (numbers 0 h) q n
  left₃ l w = left_more (9 ∷ unit_text h.unit) (numbers 0 h) l w

  left₄ : Left at text out (numbers 0 h) p m → Wrote p (9 ∷ int_text (pos h.quantum)) m q n → Left at text out (numbers 1 h) q n
  left₄ l w = left_more (9 ∷ int_text (pos h.quantum)) (numbers 1 h) l w

  left₅ : Left at text out (numbers 1 h) p m → Wrote p (9 ∷ int_text (pos h.parameters)) m q n → Left at text out (numbers 2 h) q n
  left₅ l w = left_more (9 ∷ int_text (pos h.parameters)) (numbers 2 h) l w

  left₆ : Left at text out (numbers 2 h) p m → Wrote p (9 ∷ int_text (pos h.functions)) m q n → Left at text out (numbers 3 h) q n
  left₆ l w = left_more (9 ∷ int_text (pos h.functions)) (numbers 3 h) l w

  left₇ : Left at text out (numbers 3 h) p m → Wrote p (9 ∷ int_text (pos h.grids)) m q n → Left at text out (numbers 4 h) q n
  left₇ l w = left_more (9 ∷ int_text (pos h.grids)) (numbers 4 h) l w

pub returns : goal.returns
returns c =
    let h = c.args.head in
    left_none (left_more (10 ∷ []) []
    (left₇ h (left₆ h (left₅ h (left₄ h (left₃ h (left₂ h (left₁ h c.requires.1 c.put_bytes-p.ensures) c.put_name-q.ensures) c.put_unit-r.ensures) c.put_count-s.ensures) c.put_count-t.ensures) c.put_count-u.ensures) c.put_count-v.ensures)
    c.put_byte.ensures)
