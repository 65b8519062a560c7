-- A group as a record is judged as its text would be; so an accepted group's text reads back as that group.
use Prim.Native.Nat.{ℕ, zero, suc, ◌+◌, ◌-◌, ◌<◌, ◌≤◌}
use mathlib.Core.Path.{◌≡◌, refl, sym, ap, ◌∙◌}
use mathlib.Core.Bool.{Bool, true, false, not, ◌&&◌}
use mathlib.Core.List.{List, [], ◌∷◌, ◌++◌}
use native.Mathlib.Decide.{dec_lt}
use native.Mathlib.Omega.{arith}
use lib.ListN.{length, take, drop, get_or, replicate, length-replicate, length-drop, get_or-replicate, take-append-drop}
use lib.Seq.{length-take-le, get_or-drop, ext_get_or}
use borrow.Author.Tests.{le-leb, lt-leb, not-false}
use Rattle.numbers.specs.First.{first, some}
use Rattle.numbers.proofs.FirstLaws.{passed_some}
use Rattle.group.specs.Limits.{head_fits, function_fits, function_blank, grid_fits, grid_blank}
use Rattle.group.specs.Record.{no_grid, function_at, grid_at}
use Rattle.group.specs.Refusals.{refusal}
use Rattle.group.specs.Blank.{blank_function, blank_grid}
use Rattle.group.specs.declared.Group.{Group}
use Rattle.group.proofs.BlankLaws.{blank_function_lem, blank_grid_lem}
use Rattle.group.proofs.RefusalLaws.{if_here, if_past, first_here, first_past}
use Rattle.judge.specs.Judge.{unused_function, unused_grid, bad_function, bad_grid, judged_lines, judged_limits, judged_grids, judged_ranks, judged}
use Rattle.judge.proofs.LimitLaws.{functions_most_lem, grids_between}
use Rattle.judge.proofs.Accepted.{accepted}
use Rattle.line.specs.Lines.{function_line, function_text, grid_text}
use Rattle.line.proofs.KindLaws.{FunctionFormed, HeadFormed, head_within, function_kind, grid_name_lem}
use Rattle.header.specs.Items.{entries}
use Rattle.header.specs.Whole.{stopped, grid_lines, read_lines, group_of_lines, head_of_group, header_text}
use Rattle.header.specs.Header.{verdict_reading, judged_reading, read_header}
use Rattle.header.specs.Demand2.{Shaped, Formed}
use Rattle.header.proofs.ItemLaws.{All}
use Rattle.header.proofs.LengthLaws.{head_parts}
use Rattle.header.proofs.TripLaws.{Always, GridsFormed, grid_lines_lem, head_stops, function_stops, grid_stops, all_read}
use Rattle.std.specs.Prelude.{Ok, Err}

-- ---- blank entries

-- entries that are blank behind the count are those that reading makes
entries_back : {A : Type 0} (size : ℕ) (z d : A) (xs : List A) (n : ℕ) → length xs ≡ size → n ≤ size → ((k : ℕ) → n ≤ k → k < size → get_or xs k d ≡ z) → entries size z (take n xs) ≡ xs
entries_back {A} size z d xs n l h b =
    let t : length (take n xs) ≡ n = length-take-le n xs (omega arith) in
    let e : drop n xs ≡ replicate (size - n) z =
    ext_get_or d (drop n xs) (replicate (size - n) z) (length-drop n xs ∙ ap (λ (m : ℕ). m - n) l ∙ sym (length-replicate (size - n) z))
    (λ i k. (let c = length-drop n xs in get_or-drop n xs i d ∙ b (n + i) (omega arith) (omega arith) ∙ sym (get_or-replicate (size - n) i z d (omega arith)))) in
    ap (λ (m : ℕ). take n xs ++ replicate (size - m) z) t ∙ ap (λ (r : List A). take n xs ++ r) (sym e) ∙ take-append-drop n xs

-- what holds of each of the first n holds of all of them
all_taken : {A : Type 0} (P : ℕ → A → Type 0) (m : ℕ) (d : A) (xs : List A) (n : ℕ) → n ≤ length xs → ((i k : ℕ) → k < n → P i (get_or xs k d)) → All P m (take n xs)
all_taken P m d xs zero h p = tt
all_taken P m d [] (suc n) h p = absurd (omega arith)
all_taken P m d (x ∷ xs) (suc n) h p = (p m 0 (omega arith), all_taken P (suc m) d xs n (omega arith) (λ i k l. p i (suc k) (omega arith)))

-- ---- the group as the judge takes it, and its lines as they are read

module _ (g : Group) (f : Formed g) where
  -- nothing unused is refused
  no_unused_function : some (unused_function g) 8 ≡ false
  no_unused_function = sym (passed_some (unused_function g) 8 8 (record { bound = omega arith; clear = clear }) (omega arith))
    where
      clear : (k : ℕ) → k < 8 → unused_function g k ≡ false
      clear k l = elim (dec_lt k g.functions) [ yes u ↦ rw (lt-leb g.functions k u) | no u ↦ rw (le-leb g.functions k (omega arith), f.no_function k l (omega arith)) ]

  no_unused_grid : some (unused_grid g) 64 ≡ false
  no_unused_grid = sym (passed_some (unused_grid g) 64 64 (record { bound = omega arith; clear = clear }) (omega arith))
    where
      clear : (k : ℕ) → k < 64 → unused_grid g k ≡ false
      clear k l = elim (dec_lt k g.grids) [ yes u ↦ rw (lt-leb g.grids k u) | no u ↦ rw (le-leb g.grids k (omega arith), f.no_grid k l (omega arith)) ]

  judged_head : head_fits g ≡ false → judged g ≡ Err (refusal 2 1)
  unfolding judged judged_limits
  judged_head e = if_here Err (not (head_fits g)) 2 1 _ (ap not e)

  module _ (e : head_fits g ≡ true) where
    judged_lines_lem : judged g ≡ judged_lines g (judged_grids g (judged_ranks g (Ok tt)))
    unfolding judged judged_limits
    judged_lines_lem =
        if_past Err (not (head_fits g)) 2 1 _ (ap not e)
        ∙ if_past Err (some (unused_function g) 8) 2 1 _ no_unused_function
        ∙ if_past Err (some (unused_grid g) 64) 2 1 _ no_unused_grid

    judged_function : some (bad_function g) g.functions ≡ true → judged g ≡ Err (refusal 2 (first (bad_function g) g.functions + 2))
    unfolding judged_lines
    judged_function s = judged_lines_lem ∙ first_here Err (bad_function g) g.functions 2 2 _ s

    judged_grid : some (bad_function g) g.functions ≡ false → some (bad_grid g) g.grids ≡ true → judged g ≡ Err (refusal 2 (first (bad_grid g) g.grids + (2 + g.functions)))
    unfolding judged_lines
    judged_grid s t =
        let c : g.functions + 2 ≡ 2 + g.functions = omega arith in
        judged_lines_lem
        ∙ first_past Err (bad_function g) g.functions 2 2 _ s
        ∙ first_here Err (bad_grid g) g.grids 2 (g.functions + 2) _ t
        ∙ ap (λ (m : ℕ). Err (refusal 2 (first (bad_grid g) g.grids + m))) c

  -- the group line is judged by its numbers
  head_numbers_lem : head_fits g ≡ head_within (head_of_group g)
  unfolding head_fits
  head_numbers_lem = rw f.name

  head_formed : HeadFormed (head_of_group g)
  head_formed = record { name = f.name; room = f.shape.name }

  module _ (e : head_fits g ≡ true) where
    group_back : group_of_lines (head_of_group g) (take g.functions g.function) (take g.grids g.grid) ≡ g
    group_back =
        let r = entries_back 8 blank_function blank_function g.function g.functions f.shape.function (functions_most_lem g e) (λ k u v. blank_function_lem (function_at g k) (f.no_function k v u)) in
        let d = entries_back 64 blank_grid no_grid g.grid g.grids f.shape.grid (grids_between g e).1 (λ k u v. blank_grid_lem (grid_at g k) (f.shape.names k v) (f.no_grid k v u)) in
        λ i. record {
          name = g.name;
          unit = g.unit;
          quantum = g.quantum;
          parameters = g.parameters;
          functions = g.functions;
          grids = g.grids;
          function = r i;
          grid = d i;
        }

    functions_formed : All FunctionFormed 2 (take g.functions g.function)
    functions_formed = let l = f.shape.function in let m = functions_most_lem g e in all_taken FunctionFormed 2 blank_function g.function g.functions (omega arith) (λ i k u. tt)

    grids_formed : All (GridsFormed (head_of_group g)) (2 + g.functions) (take g.grids g.grid)
    grids_formed =
        let l = f.shape.grid in let m = (grids_between g e).1 in
        all_taken (GridsFormed (head_of_group g)) (2 + g.functions) no_grid g.grid g.grids (omega arith)
        (λ i k u. record { name = f.names k (omega arith) u; room = f.shape.names k (omega arith) })

    functions_room : g.functions ≤ length g.function
    functions_room = let l = f.shape.function in let m = functions_most_lem g e in omega arith

    grids_room : g.grids ≤ length g.grid
    grids_room = let l = f.shape.grid in let m = (grids_between g e).1 in omega arith

  -- a record is judged as its text is read
  pub as_text : read_header (header_text g) ≡ verdict_reading g (judged g)
  unfolding read_header header_text
  as_text = in_head (head_fits g) refl
    where
      stop : (p : ℕ) → read_lines (header_text g) ≡ stopped (refusal 2 p) → judged g ≡ Err (refusal 2 p) → judged_reading (read_lines (header_text g)) ≡ verdict_reading g (judged g)
      stop p l v = ap judged_reading l ∙ ap (verdict_reading g) (sym v)

      in_grids : (e : head_fits g ≡ true) → some (bad_function g) g.functions ≡ false → (b : Bool) → some (bad_grid g) g.grids ≡ b → judged_reading (read_lines (header_text g)) ≡ verdict_reading g (judged g)
      in_grids e s true t =
          stop (first (bad_grid g) g.grids + (2 + g.functions))
          (grid_stops function_line function_text FunctionFormed function_fits function_kind grid_lines grid_text GridsFormed grid_fits Always grid_lines_lem blank_function no_grid (head_of_group g) g.function g.grid head_formed (sym head_numbers_lem ∙ e)
          (functions_room e) (functions_formed e) s (grids_room e) (grids_formed e) t)
          (judged_grid e s t)
      in_grids e s false t =
          ap judged_reading
          (all_read function_line function_text FunctionFormed function_fits function_kind grid_lines grid_text GridsFormed grid_fits Always grid_lines_lem blank_function no_grid (head_of_group g) g.function g.grid head_formed (sym head_numbers_lem ∙ e)
          (functions_room e) (functions_formed e) s (grids_room e) (grids_formed e) t)
          ∙ (λ i. verdict_reading (group_back e i) (judged (group_back e i)))

      in_functions : (e : head_fits g ≡ true) (b : Bool) → some (bad_function g) g.functions ≡ b → judged_reading (read_lines (header_text g)) ≡ verdict_reading g (judged g)
      in_functions e true s =
          stop (first (bad_function g) g.functions + 2)
          (function_stops function_line function_text FunctionFormed function_fits function_kind grid_lines grid_text GridsFormed grid_fits Always grid_lines_lem blank_function no_grid (head_of_group g) g.function g.grid head_formed (sym head_numbers_lem ∙ e)
          (functions_room e) (functions_formed e) s)
          (judged_function e s)
      in_functions e false s = in_grids e s (some (bad_grid g) g.grids) refl

      in_head : (b : Bool) → head_fits g ≡ b → judged_reading (read_lines (header_text g)) ≡ verdict_reading g (judged g)
      in_head false e =
          stop 1 (head_stops function_line function_text FunctionFormed function_fits function_kind grid_lines grid_text GridsFormed grid_fits Always grid_lines_lem blank_function no_grid (head_of_group g) g.function g.grid head_formed (sym head_numbers_lem ∙ e)) (judged_head e)
      in_head true e = in_functions e (some (bad_function g) g.functions) refl

-- ---- an accepted group's text reads back as that group

module _ (g : Group) (s : Shaped g) (e : judged g ≡ Ok tt) where
  accepted_formed : Formed g
  accepted_formed =
      let a = accepted g e in
      record {
        shape = s;
        name = (head_parts g e).0;
        names = λ k l u. grid_name_lem (grid_at g k) (a.grid k u);
        no_function = λ k l u. not-false (function_blank (function_at g k)) (sym (ap (λ (b : Bool). b && not (function_blank (function_at g k))) (le-leb g.functions k u)) ∙ a.no_function k l);
        no_grid = λ k l u. not-false (grid_blank (grid_at g k)) (sym (ap (λ (b : Bool). b && not (grid_blank (grid_at g k))) (le-leb g.grids k u)) ∙ a.no_grid k l);
      }

  pub same_group : read_header (header_text g) ≡ Ok g
  same_group = as_text g accepted_formed ∙ ap (verdict_reading g) e
