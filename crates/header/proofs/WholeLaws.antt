-- What the code meets on a whole text, in terms of what its callees answer.
use Prim.Native.Nat.{ℕ, ◌+◌, ◌-◌, ◌<◌, ◌≤◌}
use mathlib.Core.Path.{◌≡◌, refl, sym, ap, subst, ◌∙◌}
use mathlib.Core.Logic.{⊎_elim}
use mathlib.Core.Bool.{Bool, true, false, cond}
use mathlib.Core.List.{List, [], ◌∷◌}
use native.Mathlib.Decide.{dec_lt}
use native.Mathlib.Omega.{arith}
use lib.Dec.{eqb}
use lib.ListN.{length, take, drop, length-drop, drop_of_length-le}
use Rattle.text.specs.Parts.{glue, split, up_to}
use Rattle.text.proofs.PartLaws.{first_part}
use Rattle.text.proofs.FieldLaws.{length_ints}
use Rattle.group.specs.Numbers.{functions_most, grids_most}
use Rattle.group.specs.declared.Refusal.{Refusal}
use Rattle.line.specs.declared.Head.{Head}
use Rattle.group.specs.Refusals.{refusal}
use Rattle.header.specs.Items.{Items, refused, items, on_line, read_items}
use Rattle.line.specs.Lines.{fields, group_keyword, head_texts, head_fit, head_of, head_line}
use Rattle.header.specs.Whole.{Header, stopped, header, ending, after_grids, after_functions_of, after_head_of, read_lines_of}
use Rattle.line.proofs.LineLaws.{keyed_good, fields_good, four_of_lem}
use Rattle.line.proofs.LimitLaws.{head_sizes}
use Rattle.header.proofs.ItemLaws.{none_closed, one_closed}
use Rattle.std.specs.Prelude.{Result, Ok, Err}

-- ---- the end of a text

ending_more : {R D : Type 0} (n : ℕ) (s : List ℕ) (h : Header R D) → 0 < length s → ending n (split 10 s) h ≡ stopped (refusal 1 n)
ending_more n [] h l = absurd (omega arith)
ending_more n (x ∷ xs) h l = let p = first_part 10 xs in rw p.1.1 (go (eqb x 10) p.0 p.1.0)
  where
    go : (t : Bool) (q : List ℕ) (qs : List (List ℕ)) → ending n (cond t ([] ∷ q ∷ qs) (glue x (q ∷ qs))) h ≡ stopped (refusal 1 n)
    go true q qs = refl
    go false q qs = refl

-- ---- the lines behind the group line

-- over any two kinds of line
module _ {R D : Type 0} (function : ℕ → List ℕ → Result R Refusal) (grid : Head → List (List ℕ) → ℕ → List ℕ → Result D Refusal) where
  module _ (text : List ℕ) (at : ℕ) (h : Head) where
    abbrev pub function_items : Items R
    function_items = read_items function h.functions 2 (split 10 (drop at text))

    abbrev pub grid_items : ℕ → Items D
    grid_items next = read_items (grid h (split 10 (drop next text))) h.grids (2 + h.functions) (split 10 (drop next text))

    abbrev behind : Header R D
    behind = after_functions_of function grid h function_items

    pub functions_stop : (r : Refusal) → function_items ≡ refused r → behind ≡ stopped r
    functions_stop r e = ap (after_functions_of function grid h) e

    module _ (rs : List R) (next : ℕ) (e : function_items ≡ items rs (split 10 (drop next text))) where
      functioned : behind ≡ after_grids (2 + h.functions + h.grids) h rs (grid_items next)
      functioned = ap (after_functions_of function grid h) e

      pub grids_stop : (r : Refusal) → grid_items next ≡ refused r → behind ≡ stopped r
      grids_stop r f = functioned ∙ ap (after_grids (2 + h.functions + h.grids) h rs) f

      module _ (ds : List D) (end : ℕ) (f : grid_items next ≡ items ds (split 10 (drop end text))) (room : end ≤ length text) where
        gridded : behind ≡ ending (2 + h.functions + h.grids) (split 10 (drop end text)) (header h rs ds)
        gridded = functioned ∙ ap (after_grids (2 + h.functions + h.grids) h rs) f

        pub more_stops : (end ≡ length text → ⊥) → behind ≡ stopped (refusal 1 (2 + h.functions + h.grids))
        more_stops q = gridded ∙ ending_more _ (drop end text) _ left
          where
            left : 0 < length (drop end text)
            left = let d = length-drop end text in elim (dec_lt end (length text)) [ yes l ↦ omega arith | no l ↦ absurd (q (omega arith)) ]

        pub entries_done : end ≡ length text → behind ≡ header h rs ds
        entries_done q =
            let l : length text ≤ end = omega arith in
            let d : drop end text ≡ [] = drop_of_length-le text l in
            gridded ∙ ap (λ (s : List ℕ). ending (2 + h.functions + h.grids) (split 10 s) (header h rs ds)) d

  -- ---- the group line

  module _ (text : List ℕ) (e : ℕ) (found : e ≡ 0 + up_to 10 (drop 0 text)) where
    pub head_unclosed : e ≡ length text → read_lines_of function grid text ≡ stopped (refusal 1 1)
    head_unclosed q = ap (λ (ls : List (List ℕ)). after_head_of function grid (read_items head_line 1 1 ls)) (none_closed text 0 e found (omega arith) q)

    module _ (q : e ≡ length text → ⊥) where
      head_line_lem : read_lines_of function grid text ≡ after_head_of function grid (on_line (head_line 1 (take e text)) (items [] (split 10 (drop (e + 1) text))))
      head_line_lem =
          let p = first_part 10 (drop (e + 1) text) in
          let z : e - 0 ≡ e = omega arith in
          ap (λ (ls : List (List ℕ)). after_head_of function grid (read_items head_line 1 1 ls))
          (one_closed text 0 e found (omega arith) q ∙ (λ i. take (z i) text ∷ split 10 (drop (e + 1) text)) ∙ ap (λ (ls : List (List ℕ)). take e text ∷ ls) p.1.1)
          ∙ ap (λ (ls : List (List ℕ)). after_head_of function grid (on_line (head_line 1 (take e text)) (items [] ls))) (sym p.1.1)

      pub head_stops : (r : Refusal) → head_line 1 (take e text) ≡ Err r → read_lines_of function grid text ≡ stopped r
      head_stops r b = head_line_lem ∙ ap (λ (l : Result Head Refusal). after_head_of function grid (on_line l (items [] (split 10 (drop (e + 1) text))))) b

      pub head_goes : (h : Head) → head_line 1 (take e text) ≡ Ok h → read_lines_of function grid text ≡ after_functions_of function grid h (read_items function h.functions 2 (split 10 (drop (e + 1) text)))
      head_goes h g = head_line_lem ∙ ap (λ (l : Result Head Refusal). after_head_of function grid (on_line l (items [] (split 10 (drop (e + 1) text))))) g

-- the counts of a group line that is read
pub head_counts : (n : ℕ) (line : List ℕ) (h : Head) → head_line n line ≡ Ok h → (h.functions ≤ functions_most) × (h.grids ≤ grids_most)
head_counts n line h e = ⊎_elim (λ w. go w.0 w.2) (λ w. let z : ◌≡◌ {A = ℕ} 0 1 = cc in absurd (omega arith)) (keyed_good group_keyword of (λ fs. Err (refusal 1 n)) (split 9 line) h e)
  where
    of : List (List ℕ) → Result Head Refusal
    of = fields 2 4 head_texts head_fit head_of (refusal 1 n) (refusal 2 n)

    go : (fs : List (List ℕ)) → of fs ≡ Ok h → (h.functions ≤ functions_most) × (h.grids ≤ grids_most)
    go fs f =
        let g = fields_good 2 4 head_texts head_fit head_of (refusal 1 n) (refusal 2 n) fs h f in
        let k : length g.zs ≡ 4 = length_ints (drop 2 fs) g.zs g.numbered ∙ length-drop 2 fs ∙ (let c = g.count in omega arith) in
        subst (λ (x : Head). (x.functions ≤ functions_most) × (x.grids ≤ grids_most)) g.whole
        (four_of_lem (λ zs. head_fit zs ≡ true → ((head_of g.b zs).functions ≤ functions_most) × ((head_of g.b zs).grids ≤ grids_most)) (λ a b c d f. let s = head_sizes a b c d f in (s.2.0, s.3.0)) g.zs k g.fit)
