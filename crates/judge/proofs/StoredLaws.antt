-- A group that was stored is judged as it was, with numbers beyond the greatest signed one too; an accepted one is read back as it was.
use Prim.Native.Nat.{ℕ, ◌+◌, ◌*◌, ◌/◌, ◌%◌, min, ◌≤◌, ◌<◌}
use mathlib.Core.Path.{◌≡◌, refl, sym, ap, subst, ◌∙◌}
use mathlib.Core.Bool.{Bool, true, false, cond, not, ◌&&◌}
use mathlib.Core.List.{List}
use native.Mathlib.Nat.{min-eq_left, min-eq_right}
use native.Mathlib.Decide.{dec_lt}
use native.Mathlib.Omega.{arith}
use borrow.Author.Tests.{leb-true, eqb-true, not-false}
use lib.Dec.{leb, eqb}
use lib.IntN.{ℤ, pos}
use lib.ListN.{length}
use Rattle.numbers.specs.First.{some, every}
use Rattle.numbers.specs.Order.{beyond, count_of}
use Rattle.numbers.proofs.Bools.{and_left, and_right, same_test}
use Rattle.numbers.proofs.FirstLaws.{none_by, some_same, every_at}
use Rattle.group.specs.Numbers.{name_most, functions_most, grids_most, nodes_most, rank_most, start_most as start_limit, quantum_most, parameters_most}
use Rattle.group.specs.declared.Name.{Name}
use Rattle.group.specs.declared.Grid.{Grid}
use Rattle.group.specs.declared.Group.{Group}
use Rattle.group.specs.declared.Refusal.{Refusal}
use Rattle.group.specs.Limits.{byte_fits, name_fits, name_blank, function_fits, function_blank, grid_fits, grid_blank, head_numbers_fit, head_fits}
use Rattle.group.specs.Record.{function_at, grid_at}
use Rattle.group.specs.Refusals.{refuse_if, unless_refused}
use Rattle.group.proofs.RefusalLaws.{if_same, stage_same}
use Rattle.group.proofs.BlankLaws.{name_blank_lem}
use Rattle.judge.specs.Judge.{unused_function, unused_grid, bad_function, bad_grid, judged_lines, judged_limits, judged_grids, judged_ranks, judged}
use Rattle.judge.proofs.LimitLaws.{name_good, ni_between, nj_between, rank_between, start_most, quantum_most_lem, parameters_between, functions_most_lem, grids_between}
use Rattle.abi.specs.Words.{name_words, quantum_index, grid_index}
use Rattle.abi.specs.Abi.{number_at, count_at, byte_at, byte_of, name_of_words, grid_of_words, group_of_words, signed_most, stored, word_of, name_number, numbers_of, KeptName, KeptGrid, KeptHead, MachineName, MachineGroup}
use Rattle.abi.proofs.ListLaws.{get_or_list_of}
use Rattle.abi.proofs.ClearLaws.{blank_words}
use Rattle.abi.proofs.WordLaws.{word_byte}
use Rattle.abi.proofs.EntryLaws.{function_of_words_lem, grid_of_words_lem}
use Rattle.abi.proofs.BackLaws.{head_number, grid_number, head_word, grid_word, unit_number_known, function_back, grid_back, head_name_back, quantum_back, parameters_back, functions_back, grids_back, group_back}
use Rattle.judge.proofs.KeptLaws.{plain_byte, head_name, fitting_kept, blank_kept, head_kept, grid_kept, accepted_kept}
use Rattle.std.specs.Prelude.{Result, Ok, Err, ⊤}

-- ---- numbers that were cut

zero_most : {n m : ℕ} → n ≡ 0 → n ≤ m
zero_most e = omega arith

-- a number that was cut is the greatest signed one: below that it was not cut
uncut : (z : ℤ) (n m : ℕ) → z ≡ stored n → count_of z ≤ m → m < signed_most → n ≤ signed_most
uncut z n m e a b = let c : count_of z ≡ min n signed_most = ap count_of e in omega arith

-- a word of a name that was cut has 127 as its last byte
uncut_word : (z : ℤ) (n : ℕ) → z ≡ stored n → byte_of (count_of z) 7 < 127 → n ≤ signed_most
uncut_word z n e a =
    let c : count_of z ≡ min n signed_most = ap count_of e in
    elim (dec_lt signed_most n) [ yes lt ↦ absurd (let d : count_of z ≡ signed_most = c ∙ min-eq_right (omega arith) in omega arith) | no ge ↦ omega arith ]

-- a name that was stored from place k on, and whose bytes fit as they are read
module _ (ns : List ℤ) (k : ℕ) (n : Name) (len : ℤ) (h : MachineName n) (words : (w : ℕ) → w < name_words → number_at ns (k + w) ≡ name_number n w) (e : len ≡ stored n.len) where
  module _ (fits : every (byte_fits (name_of_words ns k (count_of len))) name_most ≡ true) (most : count_of len ≤ name_most) where
    read_byte : (j : ℕ) → j < name_most → byte_of (count_at ns (k + j / 8)) (j % 8) < 127
    unfolding name_of_words
    read_byte j l =
        subst (λ (b : ℕ). b < 127) (get_or_list_of (λ i. byte_of (count_at ns (k + i / 8)) (i % 8)) name_most j 0 l)
        (plain_byte (name_of_words ns k (count_of len)) j (every_at (byte_fits (name_of_words ns k (count_of len))) name_most j fits l))

    read_word : (w j : ℕ) → w < name_words → j < 8 → byte_of (count_at ns (k + w)) j < 127
    read_word w j a b =
        let q : (w * 8 + j) / 8 ≡ w = omega arith in
        let r : (w * 8 + j) % 8 ≡ j = omega arith in
        subst (λ (i : ℕ). byte_of (count_at ns (k + w)) i < 127) r
        (subst (λ (i : ℕ). byte_of (count_at ns (k + i)) ((w * 8 + j) % 8) < 127) q (read_byte (w * 8 + j) (omega arith)))

    word_kept : (w : ℕ) → w < name_words → count_at ns (k + w) ≡ word_of n.bytes w
    word_kept w l =
        let m = uncut_word (number_at ns (k + w)) (word_of n.bytes w) (words w l) (read_word w 7 l (omega arith)) in
        ap count_of (words w l) ∙ min-eq_left m

    byte_kept : (j : ℕ) → j < name_most → byte_at n.bytes j < 128
    byte_kept j l =
        let a = read_word (j / 8) (j % 8) (omega arith) (omega arith) in
        let b = word_byte n.bytes h.small (j / 8) (j % 8) (omega arith) (omega arith) in
        let i : j / 8 * 8 + j % 8 ≡ j = omega arith in
        let c : byte_of (count_at ns (k + j / 8)) (j % 8) ≡ byte_at n.bytes j =
        ap (λ (x : ℕ). byte_of x (j % 8)) (word_kept (j / 8) (omega arith)) ∙ b ∙ ap (byte_at n.bytes) i in
        let d = subst (λ (x : ℕ). x < 127) c a in
        omega arith

    name_kept : KeptName n
    name_kept = record { bytes = h.bytes; plain = byte_kept; len = uncut len n.len name_most e most (omega arith) }

  fitting_kept_name : name_fits (name_of_words ns k (count_of len)) ≡ true → KeptName n
  unfolding name_fits name_of_words
  fitting_kept_name f =
      let l = count_of len in
      let m = name_of_words ns k l in
      let a = leb 1 l && leb l name_most in
      name_kept (and_right a (every (byte_fits m) name_most) f)
      (leb-true l name_most (and_right (leb 1 l) (leb l name_most) (and_left a (every (byte_fits m) name_most) f)))

  blank_kept_name : name_blank (name_of_words ns k (count_of len)) ≡ true → KeptName n
  unfolding name_blank name_of_words
  blank_kept_name f =
      let l = count_of len in
      let m = name_of_words ns k l in
      let z = eqb-true l 0 (and_left (eqb l 0) (every (byte_fits m) name_most) f) in
      name_kept (and_right (eqb l 0) (every (byte_fits m) name_most) f) (omega arith)

module _ (g : Group) (h : MachineGroup g) where
  abbrev ns : List ℤ
  ns = numbers_of g

  abbrev again : Group
  again = group_of_words (numbers_of g)

  -- the counts of a grid whose counts fit as they are read
  grid_uncut : (k : ℕ) → k < grids_most → KeptName (grid_at g k).name → count_at ns (grid_index k 8) ≤ nodes_most → count_at ns (grid_index k 9) ≤ nodes_most
      → count_at ns (grid_index k 10) ≤ rank_most → count_at ns (grid_index k 11) ≤ start_limit → KeptGrid (grid_at g k)
  grid_uncut k l name ni nj rank start =
      let d = grid_at g k in
      record {
        name = name;
        ni = uncut _ d.ni nodes_most (grid_number g k 8 l (omega arith)) ni (omega arith);
        nj = uncut _ d.nj nodes_most (grid_number g k 9 l (omega arith)) nj (omega arith);
        rank = uncut _ d.rank rank_most (grid_number g k 10 l (omega arith)) rank (omega arith);
        start = uncut _ d.start start_limit (grid_number g k 11 l (omega arith)) start (omega arith);
      }

  fitting_uncut : (k : ℕ) → k < grids_most → grid_fits (grid_of_words ns k) ≡ true → KeptGrid (grid_at g k)
  unfolding grid_of_words
  fitting_uncut k l e =
      let d = grid_of_words ns k in
      grid_uncut k l
      (fitting_kept_name ns (grid_index k 0) (grid_at g k).name _ (h.names k l) (grid_word g k l) (grid_number g k 3 l (omega arith)) (name_good d e))
      (ni_between d e).1 (nj_between d e).1 (rank_between d e).1 (start_most d e)

  blank_uncut : (k : ℕ) → k < grids_most → grid_blank (grid_of_words ns k) ≡ true → KeptGrid (grid_at g k)
  unfolding grid_of_words
  blank_uncut k l e =
      let p = blank_words ns k e in
      grid_uncut k l
      (blank_kept_name ns (grid_index k 0) (grid_at g k).name _ (h.names k l) (grid_word g k l) (grid_number g k 3 l (omega arith)) (ap (λ (d : Grid). name_blank d.name) p ∙ name_blank_lem))
      (zero_most (ap (λ (d : Grid). d.ni) p)) (zero_most (ap (λ (d : Grid). d.nj) p)) (zero_most (ap (λ (d : Grid). d.rank) p)) (zero_most (ap (λ (d : Grid). d.start) p))

  -- a test of a grid that holds of none that was cut
  grid_same : (t : Grid → Bool) → ((k : ℕ) → k < grids_most → t (grid_of_words ns k) ≡ true → KeptGrid (grid_at g k))
      → ((d : Grid) → length d.name.bytes ≡ name_most → t d ≡ true → KeptGrid d)
      → (k : ℕ) → k < grids_most → t (grid_at again k) ≡ t (grid_at g k)
  grid_same t after before k l =
      let d = grid_at g k in
      let s = grid_of_words ns k in
      ap t (grid_of_words_lem ns k l)
      ∙ same_test (t s) (t d)
      (λ e. ap t (sym (grid_back g k l (after k l e))) ∙ e)
      (λ e. ap t (grid_back g k l (before d (h.names k l).bytes e)) ∙ e)

  fits_same : (k : ℕ) → k < grids_most → grid_fits (grid_at again k) ≡ grid_fits (grid_at g k)
  fits_same = grid_same grid_fits fitting_uncut fitting_kept

  blank_same : (k : ℕ) → k < grids_most → grid_blank (grid_at again k) ≡ grid_blank (grid_at g k)
  blank_same = grid_same grid_blank blank_uncut blank_kept

  function_same : (k : ℕ) → k < functions_most → function_at again k ≡ function_at g k
  function_same k l = function_of_words_lem ns k l ∙ function_back g k l

  -- the group line
  head_uncut : head_fits again ≡ true → KeptHead g
  unfolding group_of_words
  head_uncut e =
      let q = quantum_most_lem again e in
      record {
        name = fitting_kept_name ns 0 g.name _ h.name (head_word g) (head_number g 3 (omega arith)) (head_name again e);
        quantum = uncut _ g.quantum quantum_most (head_number g 5 (omega arith)) (subst (λ (t : Bool). cond t (count_at ns quantum_index) beyond ≤ quantum_most) (unit_number_known g) q) (omega arith);
        parameters = uncut _ g.parameters parameters_most (head_number g 6 (omega arith)) (parameters_between again e).1 (omega arith);
        functions = uncut _ g.functions functions_most (head_number g 7 (omega arith)) (functions_most_lem again e) (omega arith);
        grids = uncut _ g.grids grids_most (head_number g 8 (omega arith)) (grids_between again e).1 (omega arith);
      }

  head_again : KeptHead g → head_fits again ≡ head_fits g
  unfolding head_fits
  head_again k =
      let n = head_name_back g k in
      let q = quantum_back g k in
      let p = parameters_back g k in
      let r = functions_back g k in
      let c = grids_back g k in
      λ i. name_fits (n i) && head_numbers_fit (pos (q i)) (pos (p i)) (pos (r i)) (pos (c i))

  head_same : head_fits again ≡ head_fits g
  head_same =
      same_test (head_fits again) (head_fits g)
      (λ e. sym (head_again (head_uncut e)) ∙ e)
      (λ e. head_again (head_kept g h.name.bytes e) ∙ e)

  -- a group whose limits all hold
  module _ (head : head_fits g ≡ true) where
    abbrev kept : KeptHead g
    kept = head_kept g h.name.bytes head

    no_function_same : (k : ℕ) → k < functions_most → unused_function again k ≡ unused_function g k
    no_function_same k l = λ i. leb (functions_back g kept i) k && not (function_blank (function_same k l i))

    no_grid_same : (k : ℕ) → k < grids_most → unused_grid again k ≡ unused_grid g k
    no_grid_same k l = λ i. leb (grids_back g kept i) k && not (blank_same k l i)

    bad_function_same : (k : ℕ) → k < g.functions → bad_function again k ≡ bad_function g k
    bad_function_same k l = let m = functions_most_lem g head in λ i. not (function_fits (function_same k (omega arith) i))

    bad_grid_same : (k : ℕ) → k < g.grids → bad_grid again k ≡ bad_grid g k
    bad_grid_same k l = let m = grids_between g head in λ i. not (fits_same k (omega arith) i)

    all_kept : some (unused_grid g) grids_most ≡ false → some (bad_grid g) g.grids ≡ false → again ≡ g
    all_kept u f =
        group_back g (record {
          head = kept;
          function = h.function;
          grid = h.grid;
          kept = λ k l.
              grid_kept g k (h.names k l).bytes (none_by (unused_grid g) grids_most k u l)
              (λ m. not-false (grid_fits (grid_at g k)) (none_by (bad_grid g) g.grids k f m));
        })

    lines_same : some (unused_grid g) grids_most ≡ false
        → judged_lines again (judged_grids again (judged_ranks again (Ok tt))) ≡ judged_lines g (judged_grids g (judged_ranks g (Ok tt)))
    unfolding judged_lines
    lines_same u =
        stage_same Err (bad_function again) (bad_function g) again.functions g.functions 2 2 2 _ _ (functions_back g kept) refl bad_function_same
        (λ a.
        stage_same Err (bad_grid again) (bad_grid g) again.grids g.grids 2 (again.functions + 2) (g.functions + 2) _ _ (grids_back g kept) (ap (λ (n : ℕ). n + 2) (functions_back g kept)) bad_grid_same
        (λ f. ap (λ (x : Group). judged_grids x (judged_ranks x (Ok tt))) (all_kept u f)))

    unused_same : refuse_if Err (some (unused_function again) functions_most) 2 1
        (refuse_if Err (some (unused_grid again) grids_most) 2 1 (judged_lines again (judged_grids again (judged_ranks again (Ok tt)))))
        ≡ refuse_if Err (some (unused_function g) functions_most) 2 1
        (refuse_if Err (some (unused_grid g) grids_most) 2 1 (judged_lines g (judged_grids g (judged_ranks g (Ok tt)))))
    unused_same =
        if_same Err _ _ 2 1 _ _ (some_same (unused_function again) (unused_function g) functions_most no_function_same)
        (λ a. if_same Err _ _ 2 1 _ _ (some_same (unused_grid again) (unused_grid g) grids_most no_grid_same) lines_same)

  pub stored_judged : judged again ≡ judged g
  unfolding judged judged_limits
  stored_judged = if_same Err _ _ 2 1 _ _ (ap not head_same) (λ a. unused_same (not-false (head_fits g) a))

  pub stored_back : judged g ≡ Ok tt → again ≡ g
  stored_back e = group_back g (accepted_kept g e h.name.bytes h.function h.grid (λ k l. (h.names k l).bytes))

  -- so is every call that judges first
  pub stored_told : {A : Type 0} (refused : Refusal → A) (next : Group → A) → unless_refused refused (judged again) (next again) ≡ unless_refused refused (judged g) (next g)
  stored_told refused next = go (judged g) refl
    where
      go : (v : Result ⊤ Refusal) → judged g ≡ v → unless_refused refused (judged again) (next again) ≡ unless_refused refused (judged g) (next g)
      go (Ok tt) e = ap (λ (x : Group). unless_refused refused (judged x) (next x)) (stored_back e)
      go (Err r) e = rw (stored_judged, e) refl
