-- `line::put_grid` meets its contract.
use Prim.Native.Nat.{ℕ, ◌+◌, ◌≤◌}
use mathlib.Core.List.{List, [], ◌∷◌, ◌++◌, map}
use native.Mathlib.Omega.{arith}
use lib.ListN.{length, drop}
use lib.IntN.{pos}
use mir.Syntax.{w64}
use mir.Val.{SFits, to_z, of_z}
use Rattle.text.specs.Decimal.{int_text}
use Rattle.text.specs.Wrote.{Wrote}
use Rattle.text.proofs.PutLaws.{Left, left_all, left_none, left_room, left_more, int_room, int_more, pieces, line_pieces}
use Rattle.line.specs.Names.{name_text}
use Rattle.line.specs.Lines.{grid_keyword, grid_ints, grid_text}
use Rattle.group.specs.declared.Grid.{Grid}
use borrow.Author.Rules.{rules}
use Rattle.line.proofs.put_grid.Goals as goal

-- the pieces of the line from number k on, and from the name on
abbrev numbers : ℕ → Grid → List ℕ
numbers k g = pieces (map int_text (drop k (grid_ints g))) (10 ∷ [])

abbrev from_name : Grid → List ℕ
from_name g = pieces (name_text g.name ∷ map int_text (grid_ints g)) (10 ∷ [])

-- what is left of the line behind the word
left₁ : {at p : ℕ} {out m : List ℕ} (g : Grid) → at + length (grid_text g ++ (10 ∷ [])) ≤ length out → Wrote at grid_keyword out p m
    → Left at (grid_text g ++ (10 ∷ [])) out (from_name g) p m
left₁ {at} {p} {out} {m} g room w =
    left_more grid_keyword (from_name g)
    (left_all at (grid_text g ++ (10 ∷ [])) out _ (line_pieces grid_keyword (name_text g.name ∷ map int_text (grid_ints g)) (10 ∷ [])) room) w

-- and behind each piece, by what was left in front of it; a signed number is written by way of its bits
module _ {at p q : ℕ} {text out m n : List ℕ} (g : Grid) where
  left₂ : Left at text out (from_name g) p m → Wrote p (9 ∷ name_text g.name) m q n → Left at text out (numbers 0 g) q n
  left₂ l w = left_more (9 ∷ name_text g.name) (numbers 0 g) l w

  left₃ : SFits w64 g.lon.0 → Left at text out (numbers 0 g) p m → Wrote p (9 ∷ int_text (to_z w64 (of_z w64 g.lon.0))) m q n → Left at text out (numbers 1 g) q n
  left₃ fits l w = int_more g.lon.0 (numbers 1 g) fits l w

  left₄ : SFits w64 g.lat.0 → Left at text out (numbers 1 g) p m → Wrote p (9 ∷ int_text (to_z w64 (of_z w64 g.lat.0))) m q n → Left at text out (numbers 2 g) q n
  left₄ fits l w = int_more g.lat.0 (numbers 2 g) fits l w

  left₅ : SFits w64 g.dlon → Left at text out (numbers 2 g) p m → Wrote p (9 ∷ int_text (to_z w64 (of_z w64 g.dlon))) m q n → Left at text out (numbers 3 g) q n
  left₅ fits l w = int_more g.dlon (numbers 3 g) fits l w

  left₆ : SFits w64 g.dlat → Left at text out (numbers 3 g) p m → Wrote p (9 ∷ int_text (to_z w64 (of_z w64 g.dlat))) m q n → Left at text out (numbers 4 g) q n
  left₆ fits l w = int_more g.dlat (numbers 4 g) fits l w

  left₇ : Left at text out (numbers 4 g) p m → Wrote p (9 ∷ int_text (pos g.ni)) m q n → Left at text out (numbers 5 g) q n
  left₇ l w = left_more (9 ∷ int_text (pos g.ni)) (numbers 5 g) l w

  left₈ : Left at text out (numbers 5 g) p m → Wrote p (9 ∷ int_text (pos g.nj)) m q n → Left at text out (numbers 6 g) q n
  left₈ l w = left_more (9 ∷ int_text (pos g.nj)) (numbers 6 g) l w

  left₉ : Left at text out (numbers 6 g) p m → Wrote p (9 ∷ int_text (pos g.rank)) m q n → Left at text out (numbers 7 g) q n
  left₉ l w = left_more (9 ∷ int_text (pos g.rank)) (numbers 7 g) l w

  left₁₀ : Left at text out (numbers 7 g) p m → Wrote p (9 ∷ int_text (pos g.start)) m q n → Left at text out (numbers 8 g) q n
  left₁₀ l w = left_more (9 ∷ int_text (pos g.start)) (numbers 8 g) l w

pub put_number-s-requires : goal.put_number-s-requires
put_number-s-requires c =
    let g = c.args.grid in
    int_room g.lat.0 (numbers 2 g) (search rules)
    (left₃ g (search rules) (left₂ g (left₁ g c.requires.1 c.put_bytes-p.ensures) c.put_name-q.ensures) c.put_number-r.ensures)

pub put_number-t-requires : goal.put_number-t-requires
put_number-t-requires c =
    let g = c.args.grid in
    int_room g.dlon (numbers 3 g) (search rules)
    (left₄ g (search rules) (left₃ g (search rules) (left₂ g (left₁ g c.requires.1 c.put_bytes-p.ensures) c.put_name-q.ensures) c.put_number-r.ensures) c.put_number-s.ensures)

pub put_number-u-requires : goal.put_number-u-requires
put_number-u-requires c =
    let g = c.args.grid in
    int_room g.dlat (numbers 4 g) (search rules)
    (left₅ g (search rules) (left₄ g (search rules) (left₃ g (search rules) (left₂ g (left₁ g c.requires.1 c.put_bytes-p.ensures) c.put_name-q.ensures) c.put_number-r.ensures) c.put_number-s.ensures) c.put_number-t.ensures)

pub put_count-v-requires : goal.put_count-v-requires
put_count-v-requires c =
    let g = c.args.grid in
    left_room (9 ∷ int_text (pos g.ni)) (numbers 5 g)
    (left₆ g (search rules) (left₅ g (search rules) (left₄ g (search rules) (left₃ g (search rules) (left₂ g (left₁ g c.requires.1 c.put_bytes-p.ensures) c.put_name-q.ensures) c.put_number-r.ensures) c.put_number-s.ensures) c.put_number-t.ensures) c.put_number-u.ensures)

pub put_count-w-requires : goal.put_count-w-requires
put_count-w-requires c =
    let g = c.args.grid in
    left_room (9 ∷ int_text (pos g.nj)) (numbers 6 g)
    (left₇ g (left₆ g (search rules) (left₅ g (search rules) (left₄ g (search rules) (left₃ g (search rules) (left₂ g (left₁ g c.requires.1 c.put_bytes-p.ensures) c.put_name-q.ensures) c.put_number-r.ensures) c.put_number-s.ensures) c.put_number-t.ensures) c.put_number-u.ensures) c.put_count-v.ensures)

pub put_count-x-requires : goal.put_count-x-requires
put_count-x-requires c =
    let g = c.args.grid in
    left_room (9 ∷ int_text (pos g.rank)) (numbers 7 g)
    (left₈ g (left₇ g (left₆ g (search rules) (left₅ g (search rules) (left₄ g (search rules) (left₃ g (search rules) (left₂ g (left₁ g c.requires.1 c.put_bytes-p.ensures) c.put_name-q.ensures) c.put_number-r.ensures) c.put_number-s.ensures) c.put_number-t.ensures) c.put_number-u.ensures) c.put_count-v.ensures) c.put_count-w.ensures)

pub put_count-y-requires : goal.put_count-y-requires
put_count-y-requires c =
    let g = c.args.grid in
    left_room (9 ∷ int_text (pos g.start)) (numbers 8 g)
    (left₉ g (left₈ g (left₇ g (left₆ g (search rules) (left₅ g (search rules) (left₄ g (search rules) (left₃ g (search rules) (left₂ g (left₁ g c.requires.1 c.put_bytes-p.ensures) c.put_name-q.ensures) c.put_number-r.ensures) c.put_number-s.ensures) c.put_number-t.ensures) c.put_number-u.ensures) c.put_count-v.ensures) c.put_count-w.ensures) c.put_count-x.ensures)

pub put_byte-requires : goal.put_byte-requires
put_byte-requires c =
    let g = c.args.grid in
    let room = left_room (10 ∷ []) []
    (left₁₀ g (left₉ g (left₈ g (left₇ g (left₆ g (search rules) (left₅ g (search rules) (left₄ g (search rules) (left₃ g (search rules) (left₂ g (left₁ g c.requires.1 c.put_bytes-p.ensures) c.put_name-q.ensures) c.put_number-r.ensures) c.put_number-s.ensures) c.put_number-t.ensures) c.put_number-u.ensures) c.put_count-v.ensures) c.put_count-w.ensures) c.put_count-x.ensures) c.put_count-y.ensures) in omega arith

pub returns : goal.returns
returns c =
    let g = c.args.grid in
    left_none (left_more (10 ∷ []) []
    (left₁₀ g (left₉ g (left₈ g (left₇ g (left₆ g (search rules) (left₅ g (search rules) (left₄ g (search rules) (left₃ g (search rules) (left₂ g (left₁ g c.requires.1 c.put_bytes-p.ensures) c.put_name-q.ensures) c.put_number-r.ensures) c.put_number-s.ensures) c.put_number-t.ensures) c.put_number-u.ensures) c.put_count-v.ensures) c.put_count-w.ensures) c.put_count-x.ensures) c.put_count-y.ensures)
    c.put_byte.ensures)
