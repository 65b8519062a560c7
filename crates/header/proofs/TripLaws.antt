-- The lines of a whole header: written and read again, as far as their numbers are within their limits; read and written again.
-- So accepted text is written back as the same bytes.
use Prim.Native.Nat.{ℕ, zero, suc, ◌+◌, ◌-◌, ◌≤◌}
use mathlib.Core.Path.{◌≡◌, refl, sym, ap, subst, ◌∙◌}
use mathlib.Core.Bool.{Bool, true, false, cond}
use mathlib.Core.List.{List, [], ◌∷◌, ◌++◌, append_assoc, append-nil}
use native.Mathlib.Omega.{arith}
use lib.ListN.{length, take, replicate}
use lib.Seq.{take_at}
use Rattle.numbers.specs.First.{first, some}
use Rattle.text.specs.Parts.{split, join}
use Rattle.text.proofs.PartLaws.{Free, join_split}
use Rattle.group.specs.Numbers.{functions_most, grids_most}
use Rattle.group.specs.Limits.{function_fits, grid_fits}
use Rattle.group.specs.Refusals.{refusal}
use Rattle.group.specs.declared.Refusal.{Refusal}
use Rattle.group.specs.declared.Function.{Function}
use Rattle.group.specs.declared.Grid.{Grid}
use Rattle.group.specs.declared.Group.{Group}
use Rattle.group.specs.Blank.{blank_function, blank_grid}
use Rattle.judge.specs.Judge.{judged}
use Rattle.line.specs.declared.Head.{Head}
use Rattle.line.specs.Lines.{head_line, head_text, function_line, function_text, grid_text}
use Rattle.line.proofs.LineLaws.{limited, Kind}
use Rattle.line.proofs.KindLaws.{FunctionFormed, GridFormed, HeadFormed, head_within, head_kind, function_kind, grid_kind}
use Rattle.header.specs.Items.{Items, refused, items, on_line, read_items, closed, entries}
use Rattle.header.specs.Whole.{Header, stopped, header, ending, after_grids, after_functions_of, after_head_of, read_lines_of, grid_lines, read_lines, group_of_lines, lines_text, header_text}
use Rattle.header.specs.Header.{verdict_reading, judged_reading, read_header}
use Rattle.header.proofs.ItemLaws.{All, beyond, limited_items, limited_none, closed_line, read_closed, closed_read, count_read}
use Rattle.std.specs.Prelude.{Result, Ok, Err, ⊤}

-- ---- over any two kinds of line

-- what is asked of the grid lines. Their kind may go by the group line and by the parts from the first of them on: by those of text
-- that was written, each record within its limits comes back; by those that W holds of, each line comes back
pub record GridKind {D : Type 0} (grid : Head → List (List ℕ) → ℕ → List ℕ → Result D Refusal) (text : D → List ℕ) (P : Head → ℕ → D → Type 0) (fits : D → Bool) (W : Head → List (List ℕ) → Type 0) : Type 0 where
  pub free : (h : Head) (n : ℕ) (d : D) → P h n d → Free 10 (text d)
  pub back : (h : Head) (d₀ : D) (ds : List D) (m : ℕ) → All (P h) m (d₀ ∷ ds) → (n : ℕ) (d : D) → P h n d → grid h (split 10 (closed text (d₀ ∷ ds))) n (text d) ≡ limited fits (refusal 2) n d
  pub same : (h : Head) (ls : List (List ℕ)) → W h ls → (n : ℕ) (l : List ℕ) (d : D) → grid h ls n l ≡ Ok d → text d ≡ l

-- what is left is never nothing, so there was something
some_lines : {A : Type 0} (read : ℕ → List ℕ → Result A Refusal) (k n : ℕ) (ls : List (List ℕ)) (xs : List A) (p : List ℕ) (ps : List (List ℕ)) → read_items read k n ls ≡ items xs (p ∷ ps)
    → (q : List ℕ) × (qs : List (List ℕ)) × (ls ≡ q ∷ qs)
some_lines read zero n ls xs p ps e = (p, ps, cc)
some_lines read (suc k) n [] xs p ps e = let z : ◌≡◌ {A = ℕ} 0 1 = cc in absurd (omega arith)
some_lines read (suc k) n (l ∷ ls) xs p ps e = (l, ls, refl)

one_only : {A : Type 0} (x : A) (xs : List A) → length (x ∷ xs) ≡ 1 → xs ≡ []
one_only x [] h = refl
one_only x (y ∷ xs) h = absurd (omega arith)

module _ {R D : Type 0} (function : ℕ → List ℕ → Result R Refusal) (functionT : R → List ℕ) (RP : ℕ → R → Type 0) (rfits : R → Bool) (rk : Kind function functionT RP (limited rfits (refusal 2)))
    (grid : Head → List (List ℕ) → ℕ → List ℕ → Result D Refusal) (gridT : D → List ℕ) (DP : Head → ℕ → D → Type 0) (dfits : D → Bool) (W : Head → List (List ℕ) → Type 0) (dk : GridKind grid gridT DP dfits W) where
  closed_grids : (dd : D) (h : Head) (n count : ℕ) (ds : List D) → count ≤ length ds → All (DP h) n (take count ds)
      → read_items (grid h (split 10 (closed gridT (take count ds)))) count n (split 10 (closed gridT (take count ds))) ≡ limited_items dfits dd ds count n ([] ∷ [])
  closed_grids dd h n zero ds l f = limited_none dfits dd ds n ([] ∷ [])
  closed_grids dd h n (suc count) [] l f = absurd (omega arith)
  closed_grids dd h n (suc count) (d ∷ ds) l f =
      let g = grid h (split 10 (closed gridT (d ∷ take count ds))) in
      ap (λ (t : List ℕ). read_items g (suc count) n (split 10 t)) (sym (append-nil (closed gridT (d ∷ take count ds))))
      ∙ read_closed g gridT (DP h) dfits (dk.free h) (dk.back h d (take count ds) n f) dd (d ∷ ds) (suc count) n [] l f

  -- the lines written, and read again: those of a group line and of the first entries of two arrays
  module _ (rd : R) (dd : D) (h : Head) (rs : List R) (ds : List D) (fh : HeadFormed h) where
    abbrev function_run : List ℕ
    function_run = closed functionT (take h.functions rs)

    abbrev grid_run : List ℕ
    grid_run = closed gridT (take h.grids ds)

    abbrev lines : Header R D
    lines = read_lines_of function grid (lines_text functionT gridT h (take h.functions rs) (take h.grids ds))

    abbrev behind_head : Bool → Header R D
    behind_head b = after_head_of function grid (on_line (cond b (Ok h) (Err (refusal 2 1))) (items [] (split 10 (function_run ++ grid_run))))

    head_read : lines ≡ behind_head (head_within h)
    head_read =
        ap (λ (t : List ℕ). after_head_of function grid (read_items head_line 1 1 (split 10 t))) (append_assoc (head_text h) (10 ∷ []) (function_run ++ grid_run))
        ∙ ap (after_head_of function grid) (closed_line head_line head_text 0 1 (head_text h) (function_run ++ grid_run) (head_kind.free 1 h fh))
        ∙ ap (λ (l : Result Head Refusal). after_head_of function grid (on_line l (items [] (split 10 (function_run ++ grid_run))))) (head_kind.back 1 h fh)

    pub head_stops : head_within h ≡ false → lines ≡ stopped (refusal 2 1)
    head_stops e = head_read ∙ ap behind_head e

    module _ (e : head_within h ≡ true) (lr : h.functions ≤ length rs) (fr : All RP 2 (take h.functions rs)) where
      abbrev behind_functions : Bool → Header R D
      behind_functions b = after_functions_of function grid h (cond b (refused (refusal 2 (first (beyond rfits rd rs) h.functions + 2))) (items (take h.functions rs) (split 10 grid_run)))

      functions_read : lines ≡ behind_functions (some (beyond rfits rd rs) h.functions)
      functions_read = head_read ∙ ap behind_head e ∙ ap (after_functions_of function grid h) (read_closed function functionT RP rfits rk.free rk.back rd rs h.functions 2 grid_run lr fr)

      pub function_stops : some (beyond rfits rd rs) h.functions ≡ true → lines ≡ stopped (refusal 2 (first (beyond rfits rd rs) h.functions + 2))
      function_stops s = functions_read ∙ ap behind_functions s

      module _ (s : some (beyond rfits rd rs) h.functions ≡ false) (ld : h.grids ≤ length ds) (fd : All (DP h) (2 + h.functions) (take h.grids ds)) where
        abbrev behind_grids : Bool → Header R D
        behind_grids b =
            after_grids (2 + h.functions + h.grids) h (take h.functions rs)
            (cond b (refused (refusal 2 (first (beyond dfits dd ds) h.grids + (2 + h.functions)))) (items (take h.grids ds) ([] ∷ [])))

        grids_read : lines ≡ behind_grids (some (beyond dfits dd ds) h.grids)
        grids_read = functions_read ∙ ap behind_functions s ∙ ap (after_grids (2 + h.functions + h.grids) h (take h.functions rs)) (closed_grids dd h (2 + h.functions) h.grids ds ld fd)

        pub grid_stops : some (beyond dfits dd ds) h.grids ≡ true → lines ≡ stopped (refusal 2 (first (beyond dfits dd ds) h.grids + (2 + h.functions)))
        grid_stops q = grids_read ∙ ap behind_grids q

        pub all_read : some (beyond dfits dd ds) h.grids ≡ false → lines ≡ header h (take h.functions rs) (take h.grids ds)
        all_read q = grids_read ∙ ap behind_grids q

  -- what was read: the parts that the grids were read from, the counts, and the text again
  pub record Same (t : List ℕ) (h : Head) (rs : List R) (ds : List D) : Type 0 where
    pub behind : List (List ℕ)
    pub text : W h behind → lines_text functionT gridT h rs ds ≡ t
    pub functions : length rs ≡ h.functions
    pub grids : length ds ≡ h.grids

  -- the lines read, and written again
  pub same_lines : (t : List ℕ) (h : Head) (rs : List R) (ds : List D) → read_lines_of function grid t ≡ header h rs ds → Same t h rs ds
  same_lines t h rs ds e = in_head (read_items head_line 1 1 (split 10 t)) refl e
    where
      in_ending : (h' : Head) (hs : List Head) (rs' : List R) (ds' : List D) (n : ℕ) (ls ls₂ ls₃ : List (List ℕ))
          → read_items head_line 1 1 (split 10 t) ≡ items (h' ∷ hs) ls → read_items function h'.functions 2 ls ≡ items rs' ls₂ → read_items (grid h' ls₂) h'.grids (2 + h'.functions) ls₂ ≡ items ds' ls₃
          → ending n ls₃ (header h' rs' ds') ≡ header h rs ds → Same t h rs ds
      in_ending h' hs rs' ds' n ls ls₂ [] p q r f = let z : ◌≡◌ {A = ℕ} 0 1 = cc in absurd (omega arith)
      in_ending h' hs rs' ds' n ls ls₂ ([] ∷ []) p q r f =
          let eh : h' ≡ h = cc in
          let er : rs' ≡ rs = cc in
          let ed : ds' ≡ ds = cc in
          let n₂ = some_lines (grid h' ls₂) h'.grids (2 + h'.functions) ls₂ ds' [] [] r in
          let q' : read_items function h'.functions 2 ls ≡ items rs' (n₂.0 ∷ n₂.1) = q ∙ ap (items rs') n₂.2 in
          let n₁ = some_lines function h'.functions 2 ls rs' n₂.0 n₂.1 q' in
          let p' : read_items head_line 1 1 (split 10 t) ≡ items (h' ∷ hs) (n₁.0 ∷ n₁.1) = p ∙ ap (items (h' ∷ hs)) n₁.2 in
          let c₂ : join 10 ls ≡ closed functionT rs' ++ join 10 (n₂.0 ∷ n₂.1) = closed_read function functionT rk.same h'.functions 2 ls rs' n₂.0 n₂.1 q' in
          let c₁ : join 10 (split 10 t) ≡ closed head_text (h' ∷ hs) ++ join 10 (n₁.0 ∷ n₁.1) = closed_read head_line head_text head_kind.same 1 1 (split 10 t) (h' ∷ hs) n₁.0 n₁.1 p' in
          let one : hs ≡ [] = one_only h' hs (count_read head_line head_text 1 1 (split 10 t) (h' ∷ hs) ls p) in
          record {
            behind = ls₂;
            text =
                λ w.
                let c₃ : join 10 ls₂ ≡ closed gridT ds' ++ [] = closed_read (grid h' ls₂) gridT (dk.same h' ls₂ (subst (λ (x : Head). W x ls₂) (sym eh) w)) h'.grids (2 + h'.functions) ls₂ ds' [] [] r in
                let d₃ : join 10 (n₂.0 ∷ n₂.1) ≡ closed gridT ds = ap (join 10) (sym n₂.2) ∙ c₃ ∙ append-nil (closed gridT ds') ∙ ap (closed gridT) ed in
                let d₂ : join 10 (n₁.0 ∷ n₁.1) ≡ closed functionT rs ++ closed gridT ds = ap (join 10) (sym n₁.2) ∙ c₂ ∙ ap (λ (l : List ℕ). closed functionT rs' ++ l) d₃ ∙ ap (λ (l : List R). closed functionT l ++ closed gridT ds) er in
                let d₁ : join 10 (split 10 t) ≡ lines_text functionT gridT h rs ds = c₁ ∙ ap (λ (l : List ℕ). closed head_text (h' ∷ hs) ++ l) d₂ ∙ ap (λ (l : List Head). closed head_text (h' ∷ l) ++ (closed functionT rs ++ closed gridT ds)) one ∙ ap (λ (x : Head). lines_text functionT gridT x rs ds) eh in
                sym d₁ ∙ join_split 10 t;
            functions = ap length (sym er) ∙ count_read function functionT h'.functions 2 ls rs' ls₂ q ∙ ap (λ (x : Head). x.functions) eh;
            grids = ap length (sym ed) ∙ count_read (grid h' ls₂) gridT h'.grids (2 + h'.functions) ls₂ ds' ([] ∷ []) r ∙ ap (λ (x : Head). x.grids) eh;
          }
      in_ending h' hs rs' ds' n ls ls₂ ([] ∷ y ∷ ys) p q r f = let z : ◌≡◌ {A = ℕ} 0 1 = cc in absurd (omega arith)
      in_ending h' hs rs' ds' n ls ls₂ ((x ∷ xs) ∷ ys) p q r f = let z : ◌≡◌ {A = ℕ} 0 1 = cc in absurd (omega arith)

      in_grids : (h' : Head) (hs : List Head) (rs' : List R) (ls ls₂ : List (List ℕ)) (o : Items D)
          → read_items head_line 1 1 (split 10 t) ≡ items (h' ∷ hs) ls → read_items function h'.functions 2 ls ≡ items rs' ls₂ → read_items (grid h' ls₂) h'.grids (2 + h'.functions) ls₂ ≡ o
          → after_grids (2 + h'.functions + h'.grids) h' rs' o ≡ header h rs ds → Same t h rs ds
      in_grids h' hs rs' ls ls₂ (refused x) p q r f = let z : ◌≡◌ {A = ℕ} 0 1 = cc in absurd (omega arith)
      in_grids h' hs rs' ls ls₂ (items ds' ls₃) p q r f = in_ending h' hs rs' ds' (2 + h'.functions + h'.grids) ls ls₂ ls₃ p q r f

      in_functions : (h' : Head) (hs : List Head) (ls : List (List ℕ)) (o : Items R) → read_items head_line 1 1 (split 10 t) ≡ items (h' ∷ hs) ls → read_items function h'.functions 2 ls ≡ o
          → after_functions_of function grid h' o ≡ header h rs ds → Same t h rs ds
      in_functions h' hs ls (refused x) p q f = let z : ◌≡◌ {A = ℕ} 0 1 = cc in absurd (omega arith)
      in_functions h' hs ls (items rs' ls₂) p q f = in_grids h' hs rs' ls ls₂ (read_items (grid h' ls₂) h'.grids (2 + h'.functions) ls₂) p q refl f

      in_head : (o : Items Head) → read_items head_line 1 1 (split 10 t) ≡ o → after_head_of function grid o ≡ header h rs ds → Same t h rs ds
      in_head (refused x) p f = let z : ◌≡◌ {A = ℕ} 0 1 = cc in absurd (omega arith)
      in_head (items [] ls) p f = let z : ◌≡◌ {A = ℕ} 0 1 = cc in absurd (omega arith)
      in_head (items (h' ∷ hs) ls) p f = in_functions h' hs ls (read_items function h'.functions 2 ls) p refl f

-- ---- the functions and grids of a header

abbrev pub Always : Head → List (List ℕ) → Type 0
Always h ls = Unit {0}

abbrev pub GridsFormed : Head → ℕ → Grid → Type 0
GridsFormed h n g = GridFormed g

pub grid_lines_lem : GridKind grid_lines grid_text GridsFormed grid_fits Always
grid_lines_lem = record { free = λ h. grid_kind.free; back = λ h d ds m f. grid_kind.back; same = λ h ls w. grid_kind.same }

abbrev Read : List ℕ → Head → List Function → List Grid → Type 0
Read = Same function_line function_text FunctionFormed function_fits function_kind grid_lines grid_text GridsFormed grid_fits Always grid_lines_lem

-- ---- accepted text is written back as the same bytes

take_entries : {A : Type 0} (size : ℕ) (z : A) (xs : List A) (n : ℕ) → length xs ≡ n → take n (entries size z xs) ≡ xs
take_entries size z xs n e = take_at xs (replicate (size - length xs) z) n e

pub same_bytes : (t : List ℕ) (g : Group) → read_header t ≡ Ok g → header_text g ≡ t
unfolding read_header header_text
same_bytes t g e = in_lines (read_lines t) refl e
  where
    in_verdict : (h : Head) (rs : List Function) (ds : List Grid) (v : Result ⊤ Refusal) → Read t h rs ds → verdict_reading (group_of_lines h rs ds) v ≡ Ok g → header_text g ≡ t
    in_verdict h rs ds (Err r) s f = cc
    in_verdict h rs ds (Ok tt) s f =
        let m : group_of_lines h rs ds ≡ g = cc in
        ap header_text (sym m)
        ∙ (λ i. lines_text function_text grid_text h (take_entries functions_most blank_function rs h.functions s.functions i) (take_entries grids_most blank_grid ds h.grids s.grids i))
        ∙ s.text tt

    in_lines : (x : Header Function Grid) → read_lines t ≡ x → judged_reading x ≡ Ok g → header_text g ≡ t
    in_lines (stopped r) p f = cc
    in_lines (header h rs ds) p f = in_verdict h rs ds (judged (group_of_lines h rs ds)) (same_lines function_line function_text FunctionFormed function_fits function_kind grid_lines grid_text GridsFormed grid_fits Always grid_lines_lem t h rs ds p) f

-- so the text of a group is unique
pub one_text : (g : Group) (t u : List ℕ) → read_header t ≡ Ok g → read_header u ≡ Ok g → t ≡ u
one_text g t u p q = sym (same_bytes t g p) ∙ same_bytes u g q
