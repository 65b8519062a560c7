-- The group of every text that is read has lists of its arrays' lengths, as every record of the code has.
use Prim.Native.Nat.{ℕ, zero, suc, ◌+◌, ◌-◌, ◌≤◌, ◌<◌}
use mathlib.Core.Path.{◌≡◌, refl, sym, ap, ◌∙◌, subst}
use mathlib.Core.List.{List, [], ◌∷◌}
use native.Mathlib.Omega.{arith}
use native.Mathlib.Decide.{dec_lt}
use lib.ListN.{length, get_or, replicate, length-append, length-replicate, get_or-replicate, get_or-append}
use lib.Seq.{get_or-append-add}
use Rattle.text.specs.Parts.{split}
use Rattle.group.specs.declared.Refusal.{Refusal}
use Rattle.group.specs.declared.Function.{Function}
use Rattle.group.specs.declared.Grid.{Grid}
use Rattle.group.specs.declared.Group.{Group}
use Rattle.group.specs.Record.{no_grid}
use Rattle.group.specs.Blank.{blank_function, blank_grid}
use Rattle.judge.specs.Judge.{judged}
use Rattle.line.specs.declared.Head.{Head}
use Rattle.line.specs.Lines.{head_line, function_line, grid_line}
use Rattle.line.proofs.RoomLaws.{HeadRoom, head_room, grid_room}
use Rattle.header.specs.Items.{Items, refused, items, on_line, read_items, entries}
use Rattle.header.specs.Whole.{Header, stopped, header, ending, after_grids, after_functions_of, after_head_of, grid_lines, read_lines, group_of_lines}
use Rattle.header.specs.Header.{verdict_reading, judged_reading, read_header}
use Rattle.header.specs.Demand2.{Shaped}
use Rattle.std.specs.Prelude.{Result, Ok, Err, ⊤}

-- ---- lines that are read as records

module _ {A : Type 0} (P : A → Type 0) where
  abbrev Each : List A → Type 0
  Each [] = Unit {0}
  Each (a ∷ xs) = P a × Each xs

  -- k records, each as P says
  abbrev Read : ℕ → Items A → Type 0
  Read k (refused r) = Unit {0}
  Read k (items xs ls) = (length xs ≡ k) × Each xs

  on_line_read : (k : ℕ) (x : Result A Refusal) (is : Items A) → ((a : A) → x ≡ Ok a → P a) → Read k is → Read (suc k) (on_line x is)
  on_line_read k (Err r) is p h = tt
  on_line_read k (Ok a) (refused r) p h = tt
  on_line_read k (Ok a) (items xs ls) p h = (ap suc h.0, (p a refl, h.1))

  read_each : (read : ℕ → List ℕ → Result A Refusal) → ((n : ℕ) (l : List ℕ) (a : A) → read n l ≡ Ok a → P a)
      → (k n : ℕ) (ls : List (List ℕ)) → Read k (read_items read k n ls)
  read_each read p zero n ls = (refl, tt)
  read_each read p (suc k) n [] = tt
  read_each read p (suc k) n (l ∷ []) = tt
  read_each read p (suc k) n (l ∷ m ∷ ls) = on_line_read k (read n l) _ (p n l) (read_each read p k (suc n) (m ∷ ls))

  each_at : (xs : List A) (z : A) (k : ℕ) → Each xs → k < length xs → P (get_or xs k z)
  each_at [] z k h l = absurd (omega arith)
  each_at (a ∷ xs) z zero h l = h.0
  each_at (a ∷ xs) z (suc k) h l = each_at xs z k h.1 (omega arith)

-- ---- a whole header

abbrev GridRoom : Grid → Type 0
GridRoom d = length d.name.bytes ≡ 24

abbrev Room : Header Function Grid → Type 0
Room (stopped r) = Unit {0}
Room (header h rs ds) = HeadRoom h × (length rs ≡ h.functions) × (length ds ≡ h.grids) × Each GridRoom ds

ending_room : (n : ℕ) (ls : List (List ℕ)) (x : Header Function Grid) → Room x → Room (ending n ls x)
ending_room n [] x r = tt
ending_room n ([] ∷ []) x r = r
ending_room n ([] ∷ q ∷ ps) x r = tt
ending_room n ((b ∷ bs) ∷ ps) x r = tt

grids_room : (n : ℕ) (h : Head) (rs : List Function) (is : Items Grid) → HeadRoom h → length rs ≡ h.functions → Read GridRoom h.grids is
    → Room (after_grids n h rs is)
grids_room n h rs (refused r) a b c = tt
grids_room n h rs (items ds ls) a b c = ending_room n ls (header h rs ds) (a, b, c.0, c.1)

functions_room : (h : Head) (is : Items Function) → HeadRoom h → Read (λ r. Unit {0}) h.functions is → Room (after_functions_of function_line grid_lines h is)
functions_room h (refused r) a b = tt
functions_room h (items rs ls) a b =
    grids_room (2 + h.functions + h.grids) h rs (read_items grid_line h.grids (2 + h.functions) ls) a b.0
    (read_each GridRoom grid_line grid_room h.grids (2 + h.functions) ls)

head_room_of : (is : Items Head) → Read HeadRoom 1 is → Room (after_head_of function_line grid_lines is)
head_room_of (refused r) a = tt
head_room_of (items [] ls) a = tt
head_room_of (items (h ∷ hs) ls) a =
    functions_room h (read_items function_line h.functions 2 ls) a.1.0 (read_each (λ r. Unit {0}) function_line (λ n l r e. tt) h.functions 2 ls)

lines_room : (t : List ℕ) → Room (read_lines t)
lines_room t = head_room_of (read_items head_line 1 1 (split 10 t)) (read_each HeadRoom head_line head_room 1 1 (split 10 t))

-- ---- the group

entries_length : {A : Type 0} (n : ℕ) (z : A) (xs : List A) → length xs ≤ n → length (entries n z xs) ≡ n
entries_length n z xs h =
    let r = length-replicate (n - length xs) z in length-append xs (replicate (n - length xs) z) ∙ omega arith

group_shaped : (h : Head) (rs : List Function) (ds : List Grid) → Room (header h rs ds) → Shaped (group_of_lines h rs ds)
group_shaped h rs ds r =
    let a = r.0 in let m = a.functions in let n = a.grids in let e = r.1 in let f = r.2 in
    record {
      name = a.name;
      function = entries_length 8 blank_function rs (omega arith);
      grid = entries_length 64 blank_grid ds (omega arith);
      names = λ k l.
          elim (dec_lt k (length ds)) [
            | yes i ↦ subst GridRoom (sym (get_or-append ds _ no_grid k i)) (each_at GridRoom ds no_grid k r.3 i)
            | no i ↦ subst GridRoom (sym (behind k l (omega arith))) refl
          ];
    }
  where
    behind : (k : ℕ) → k < 64 → length ds ≤ k → get_or (entries 64 blank_grid ds) k no_grid ≡ blank_grid
    behind k l i =
        let e : k ≡ length ds + (k - length ds) = omega arith in
        ap (λ (j : ℕ). get_or (entries 64 blank_grid ds) j no_grid) e
        ∙ get_or-append-add ds (replicate (64 - length ds) blank_grid) (k - length ds) no_grid
        ∙ get_or-replicate (64 - length ds) (k - length ds) blank_grid no_grid (omega arith)

pub read_shaped : (t : List ℕ) (g : Group) → read_header t ≡ Ok g → Shaped g
unfolding read_header
read_shaped t g e = go (read_lines t) (lines_room t) e
  where
    by_verdict : (h : Group) (v : Result ⊤ Refusal) → Shaped h → verdict_reading h v ≡ Ok g → Shaped g
    by_verdict h (Ok tt) s f = let m : h ≡ g = cc in subst Shaped m s
    by_verdict h (Err r) s f = cc

    go : (x : Header Function Grid) → Room x → judged_reading x ≡ Ok g → Shaped g
    go (stopped r) s f = cc
    go (header h rs ds) s f = by_verdict (group_of_lines h rs ds) (judged (group_of_lines h rs ds)) (group_shaped h rs ds s) f
