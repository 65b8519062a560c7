-- `put_line` meets its contract.
use Prim.Native.Nat.{ℕ, zero, suc, ◌-◌, ◌≤◌}
use mathlib.Core.Path.{◌≡◌, refl, sym, ap, subst, ◌∙◌}
use mathlib.Core.List.{List, [], ◌∷◌, ◌++◌, map}
use native.Mathlib.Omega.{arith}
use lib.IntN.{ℤ}
use lib.ListN.{length, take}
use mir.Syntax.{w64}
use mir.Val.{to_z, of_z, SFits}
use mir.Facts.{to_z-of_z}
use Rattle.numbers.proofs.OrderLaws.{size_fits}
use Rattle.text.specs.Parts.{led}
use Rattle.text.specs.Decimal.{int_text}
use Rattle.text.specs.Wrote.{Wrote}
use Rattle.text.proofs.PutLaws.{Left, left_all, left_none, left_room, left_more, int_room, int_more, pieces, line_pieces}
use Rattle.group.specs.declared.Grid.{Grid}
use Rattle.group.specs.declared.Group.{Group}
use Rattle.group.specs.declared.Position.{Position}
use Rattle.group.specs.Numbers.{name_most}
use Rattle.group.specs.Record.{grid_at}
use Rattle.judge.proofs.Accepted.{accepted_head}
use Rattle.line.specs.Names.{name_text}
use Rattle.abi.specs.Abi.{list_of, grid_of_words, group_of_words}
use Rattle.abi.proofs.EntryLaws.{grid_of_words_lem}
use Rattle.fix.specs.declared.Fix.{Fix}
use Rattle.fix.specs.Answers.{result_in}
use Rattle.logs.specs.Line.{fix_keyword, grid_name}
use Rattle.logs.specs.Writing.{line_text}
use Rattle.logs.specs.Reading.{FixFound}
use Rattle.logs.proofs.LengthLaws.{name_most_lem}
use borrow.Author.Rules.{rules}
use Rattle.logs.proofs.put_line.Goals as goal

-- a number that comes by way of its bits
abbrev bits : ℤ → ℤ
bits z = to_z w64 (of_z w64 z)

-- the results, as they are handed over
abbrev passed : Fix → List ℤ
passed f = bits f.first ∷ bits f.second ∷ bits f.third ∷ []

shifts_are : (f : Fix) (n : ℕ) → n ≤ 3 → list_of (result_in f) n ≡ take n (f.first ∷ f.second ∷ f.third ∷ [])
unfolding list_of
shifts_are f zero h = refl
shifts_are f (suc zero) h = refl
shifts_are f (suc (suc zero)) h = refl
shifts_are f (suc (suc (suc zero))) h = refl
shifts_are f (suc (suc (suc (suc n)))) h = absurd (omega arith)

module _ {g : Group} {p : Position} {f : Fix} (w : FixFound g p f) where
  result_fits : (q : ℕ) → SFits w64 (result_in f q)
  result_fits q = let s = w.results q in size_fits (result_in f q) (omega arith)

  shifts_passed : list_of (result_in f) g.parameters ≡ take g.parameters (passed f)
  shifts_passed =
      shifts_are f g.parameters (accepted_head g w.accepted).parameters
      ∙ sym (λ i. take g.parameters (to_z-of_z (result_fits 0) i ∷ to_z-of_z (result_fits 1) i ∷ to_z-of_z (result_fits 2) i ∷ []))

grid_found : (ns : List ℤ) (p : Position) (f : Fix) → FixFound (group_of_words ns) p f → grid_at (group_of_words ns) (f.grid - 1) ≡ grid_of_words ns (f.grid - 1)
grid_found ns p f w =
    let s = w.some in let a = w.among in let m = (accepted_head (group_of_words ns) w.accepted).grids in
    grid_of_words_lem ns (f.grid - 1) (omega arith)

-- the pieces of the line from the results on, from the name on, and so on up to the longitude
abbrev shifts : Group → Fix → List ℕ
shifts g f = pieces (map int_text (list_of (result_in f) g.parameters)) (10 ∷ [])

abbrev named : Group → Fix → List ℕ
named g f = 9 ∷ (grid_name g f.grid ++ shifts g f)

abbrev dated : Group → Position → Fix → List ℕ
dated g p f = 9 ∷ (int_text p.day ++ named g f)

abbrev from_lat : Group → Position → Fix → List ℕ
from_lat g p f = 9 ∷ (int_text p.lat.0 ++ dated g p f)

abbrev from_lon : Group → Position → Fix → List ℕ
from_lon g p f = 9 ∷ (int_text p.lon.0 ++ from_lat g p f)

-- the results as they are written, np of them
abbrev results : Fix → ℕ → List ℕ
results f np = led 9 (map int_text (take np (passed f)))

-- what is left of the line before anything is written, and behind the word
left₀ : {out : List ℕ} (g : Group) (p : Position) (f : Fix) → length (line_text g p f) ≤ length out
    → Left 0 (line_text g p f) out (fix_keyword ++ from_lon g p f) 0 out
unfolding line_text
left₀ {out} g p f room =
    left_all 0 (line_text g p f) out _
    (line_pieces fix_keyword (int_text p.lon.0 ∷ int_text p.lat.0 ∷ int_text p.day ∷ grid_name g f.grid ∷ map int_text (list_of (result_in f) g.parameters)) (10 ∷ []))
    (omega arith)

-- and behind each piece, by what was left in front of it; a signed number is written by way of its bits
module _ {at i j : ℕ} {text out m n : List ℕ} (g : Group) (p : Position) (f : Fix) where
  left₁ : Left at text out (fix_keyword ++ from_lon g p f) i m → Wrote i fix_keyword m j n → Left at text out (from_lon g p f) j n
  left₁ l w = left_more fix_keyword (from_lon g p f) l w

  left₂ : SFits w64 p.lon.0 → Left at text out (from_lon g p f) i m → Wrote i (9 ∷ int_text (bits p.lon.0)) m j n → Left at text out (from_lat g p f) j n
  left₂ fits l w = int_more p.lon.0 (from_lat g p f) fits l w

  left₃ : SFits w64 p.lat.0 → Left at text out (from_lat g p f) i m → Wrote i (9 ∷ int_text (bits p.lat.0)) m j n → Left at text out (dated g p f) j n
  left₃ fits l w = int_more p.lat.0 (dated g p f) fits l w

  left₄ : SFits w64 p.day → Left at text out (dated g p f) i m → Wrote i (9 ∷ int_text (bits p.day)) m j n → Left at text out (named g f) j n
  left₄ fits l w = int_more p.day (named g f) fits l w

-- the name is that of the grid as it is read from the numbers
left₅ : {at i : ℕ} {text out m : List ℕ} (g : Group) (f : Fix) {d : Grid} → grid_at g (f.grid - 1) ≡ d
    → Left at text out (named g f) i m → Left at text out (9 ∷ (name_text d.name ++ shifts g f)) i m
left₅ {at} {i} {text} {out} {m} g f e l = subst (λ (d : Grid). Left at text out (9 ∷ (name_text d.name ++ shifts g f)) i m) e l

-- behind the name the results are left, and the line feed
left₆ : {at i j np : ℕ} {text out m n : List ℕ} {g : Group} {p : Position} {f : Fix} (d : Grid) → FixFound g p f → np ≡ g.parameters
    → Left at text out (9 ∷ (name_text d.name ++ shifts g f)) i m → Wrote i (9 ∷ name_text d.name) m j n → Left at text out (results f np ++ (10 ∷ [])) j n
left₆ {at} {i} {j} {np} {text} {out} {m} {n} {g} {p} {f} d found e l w =
    let are : shifts g f ≡ results f np ++ (10 ∷ []) =
    ap (λ (zs : List ℤ). pieces (map int_text zs) (10 ∷ [])) (shifts_passed found ∙ ap (λ (k : ℕ). take k (passed f)) (sym e))
    ∙ sym (line_pieces [] (map int_text (take np (passed f))) (10 ∷ [])) in
    subst (λ (rest : List ℕ). Left at text out rest j n) are (left_more (9 ∷ name_text d.name) (shifts g f) l w)

pub put_bytes-p-requires : goal.put_bytes-p-requires
put_bytes-p-requires c =
    let g = group_of_words c.args.words.now in let p = c.args.position in let f = c.args.f in
    left_room fix_keyword (from_lon g p f) (left₀ g p f c.requires.1)

pub put_number-q-requires : goal.put_number-q-requires
put_number-q-requires c =
    let g = group_of_words c.args.words.now in let p = c.args.position in let f = c.args.f in
    int_room p.lon.0 (from_lat g p f) (search rules) (left₁ g p f (left₀ g p f c.requires.1) c.put_bytes-p.ensures)

pub put_number-r-requires : goal.put_number-r-requires
put_number-r-requires c =
    let g = group_of_words c.args.words.now in let p = c.args.position in let f = c.args.f in
    int_room p.lat.0 (dated g p f) (search rules)
    (left₂ g p f (search rules) (left₁ g p f (left₀ g p f c.requires.1) c.put_bytes-p.ensures) c.put_number-q.ensures)

pub put_number-s-requires : goal.put_number-s-requires
put_number-s-requires c =
    let g = group_of_words c.args.words.now in let p = c.args.position in let f = c.args.f in
    int_room p.day (named g f) (search rules)
    (left₃ g p f (search rules) (left₂ g p f (search rules) (left₁ g p f (left₀ g p f c.requires.1) c.put_bytes-p.ensures) c.put_number-q.ensures) c.put_number-r.ensures)

pub grid_of_words-grid-requires : goal.grid_of_words-grid-requires
grid_of_words-grid-requires c =
    let w = c.requires.0 in
    let a = w.some in let b = w.among in let m = (accepted_head (group_of_words c.args.words.now) w.accepted).grids in
    omega arith

pub put_name-t-requires : goal.put_name-t-requires
put_name-t-requires c =
    let g = group_of_words c.args.words.now in let p = c.args.position in let f = c.args.f in
    let e = grid_found c.args.words.now p f c.requires.0 ∙ sym c.grid_of_words-grid.ensures in (
      subst (λ (d : Grid). d.name.len ≤ name_most) e (name_most_lem g p f c.requires.0),
      left_room (9 ∷ name_text c.grid_of_words-grid.result.name) (shifts g f)
          (left₅ g f e (left₄ g p f (search rules) (left₃ g p f (search rules) (left₂ g p f (search rules) (left₁ g p f (left₀ g p f c.requires.1) c.put_bytes-p.ensures) c.put_number-q.ensures) c.put_number-r.ensures) c.put_number-s.ensures)),
    )

pub put_numbers-u-requires : goal.put_numbers-u-requires
put_numbers-u-requires c =
    let g = group_of_words c.args.words.now in let p = c.args.position in let f = c.args.f in
    let e = grid_found c.args.words.now p f c.requires.0 ∙ sym c.grid_of_words-grid.ensures in
    let k = c.parameter_count.ensures in let most = (accepted_head g c.requires.0.accepted).parameters in (
      omega arith,
      left_room (results f c.parameter_count.result) (10 ∷ [])
          (left₆ c.grid_of_words-grid.result c.requires.0 c.parameter_count.ensures (left₅ g f e (left₄ g p f (search rules) (left₃ g p f (search rules) (left₂ g p f (search rules) (left₁ g p f (left₀ g p f c.requires.1) c.put_bytes-p.ensures) c.put_number-q.ensures) c.put_number-r.ensures) c.put_number-s.ensures)) c.put_name-t.ensures),
    )

pub put_byte-requires : goal.put_byte-requires
put_byte-requires c =
    let g = group_of_words c.args.words.now in let p = c.args.position in let f = c.args.f in
    let e = grid_found c.args.words.now p f c.requires.0 ∙ sym c.grid_of_words-grid.ensures in
    let room = left_room (10 ∷ []) []
    (left_more (results f c.parameter_count.result) (10 ∷ []) (left₆ c.grid_of_words-grid.result c.requires.0 c.parameter_count.ensures (left₅ g f e (left₄ g p f (search rules) (left₃ g p f (search rules) (left₂ g p f (search rules) (left₁ g p f (left₀ g p f c.requires.1) c.put_bytes-p.ensures) c.put_number-q.ensures) c.put_number-r.ensures) c.put_number-s.ensures)) c.put_name-t.ensures) c.put_numbers-u.ensures) in omega arith

pub returns : goal.returns
returns c =
    let g = group_of_words c.args.words.now in let p = c.args.position in let f = c.args.f in
    let e = grid_found c.args.words.now p f c.requires.0 ∙ sym c.grid_of_words-grid.ensures in
    left_none (left_more (10 ∷ []) []
    (left_more (results f c.parameter_count.result) (10 ∷ []) (left₆ c.grid_of_words-grid.result c.requires.0 c.parameter_count.ensures (left₅ g f e (left₄ g p f (search rules) (left₃ g p f (search rules) (left₂ g p f (search rules) (left₁ g p f (left₀ g p f c.requires.1) c.put_bytes-p.ensures) c.put_number-q.ensures) c.put_number-r.ensures) c.put_number-s.ensures)) c.put_name-t.ensures) c.put_numbers-u.ensures)
    c.put_byte.ensures)
