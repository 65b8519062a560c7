-- A group that was stored is read back as it was.
use Prim.Native.Nat.{ℕ, zero, suc, ◌+◌, ◌*◌, ◌≤◌, ◌<◌}
use mathlib.Core.Path.{◌≡◌, refl, sym, ap, ◌∙◌}
use mathlib.Core.Bool.{Bool, true, cond}
use mathlib.Core.List.{List, ◌++◌}
use native.Mathlib.Nat.{min-eq_left}
use native.Mathlib.Omega.{arith}
use lib.IntN.{ℤ, pos}
use lib.ListN.{length, get_or-append}
use lib.Seq.{get_or-append-add}
use Rattle.numbers.specs.Order.{between, beyond, count_of}
use Rattle.group.specs.Numbers.{name_most, functions_most, grids_most}
use Rattle.abi.specs.Words.{name_words, unit_index, quantum_index, head_words, function_words, grid_words, function_index, grid_index}
use Rattle.group.specs.declared.Name.{Name}
use Rattle.group.specs.declared.Unit.{Unit}
use Rattle.group.specs.declared.Unit.TheVariants.{ArcSecond, Metre}
use Rattle.group.specs.declared.Group.{Group}
use Rattle.group.specs.Blank.{blank_function}
use Rattle.group.specs.Record.{no_grid, function_at, grid_at}
use Rattle.abi.specs.Abi.{byte_at, number_at, count_at, name_of_words, unit_of, function_of, function_of_words, grid_of_words, group_of_words, stored, unit_number, joined, word_of, name_number, function_numbers, grid_numbers, head_numbers, numbers_of, signed_most, KeptName, KeptGrid, KeptHead, KeptGroup}
use Rattle.abi.proofs.ListLaws.{length_joined, get_or_joined, list_of_is}
use Rattle.abi.proofs.WordLaws.{word_most, name_back}
use Rattle.abi.proofs.FunctionLaws.{shape_back}

count_back : (z : ℤ) (n : ℕ) → n ≤ signed_most → z ≡ stored n → count_of z ≡ n
count_back z n h e = ap count_of e ∙ min-eq_left h

unit_back : (u : Unit) → unit_of (unit_number u) ≡ u
unit_back ArcSecond = refl
unit_back Metre = refl

unit_known : (u : Unit) → between (pos 0) (pos 1) (unit_number u) ≡ true
unit_known ArcSecond = refl
unit_known Metre = refl

module _ (g : Group) where
  functions : List ℤ
  functions = joined (λ k. function_numbers (function_at g k)) functions_most

  grids : List ℤ
  grids = joined (λ k. grid_numbers (grid_at g k)) grids_most

  functions_length : length functions ≡ functions_most * function_words
  unfolding functions
  functions_length = length_joined (λ k. function_numbers (function_at g k)) function_words functions_most (λ k l. refl)

  pub head_number : (j : ℕ) → j < head_words → number_at (numbers_of g) j ≡ number_at (head_numbers g) j
  unfolding numbers_of functions grids
  head_number j l = get_or-append (head_numbers g) (functions ++ grids) (pos 0) j l

  function_number : (k j : ℕ) → k < functions_most → j < function_words → number_at (numbers_of g) (function_index k j) ≡ number_at (function_numbers (function_at g k)) j
  unfolding numbers_of functions grids
  function_number k j a b =
      let n = functions_length in
      let e : function_index k j ≡ head_words + (k * function_words + j) = omega arith in
      ap (λ (i : ℕ). number_at (head_numbers g ++ (functions ++ grids)) i) e
      ∙ get_or-append-add (head_numbers g) (functions ++ grids) (k * function_words + j) (pos 0)
      ∙ get_or-append functions grids (pos 0) (k * function_words + j) (omega arith)
      ∙ get_or_joined (λ i. function_numbers (function_at g i)) function_words functions_most (pos 0) (λ i. refl) k j a b

  pub grid_number : (k j : ℕ) → k < grids_most → j < grid_words → number_at (numbers_of g) (grid_index k j) ≡ number_at (grid_numbers (grid_at g k)) j
  unfolding numbers_of functions grids
  grid_number k j a b =
      let n = functions_length in
      let e : grid_index k j ≡ head_words + (functions_most * function_words + (k * grid_words + j)) = omega arith in
      ap (λ (i : ℕ). number_at (head_numbers g ++ (functions ++ grids)) i) e
      ∙ get_or-append-add (head_numbers g) (functions ++ grids) (functions_most * function_words + (k * grid_words + j)) (pos 0)
      ∙ ap (λ (i : ℕ). number_at (functions ++ grids) (i + (k * grid_words + j))) (sym n)
      ∙ get_or-append-add functions grids (k * grid_words + j) (pos 0)
      ∙ get_or_joined (λ i. grid_numbers (grid_at g i)) grid_words grids_most (pos 0) (λ i. refl) k j a b

  -- the words of a name
  words : (n : Name) (at : ℕ) → KeptName n → ((w : ℕ) → w < name_words → number_at (numbers_of g) (at + w) ≡ name_number n w) → name_of_words (numbers_of g) at n.len ≡ n
  words n at h e =
      let small : (j : ℕ) → j < name_most → byte_at n.bytes j < 256 = λ j l. (let p = h.plain j l in omega arith) in
      name_back (numbers_of g) at n h.bytes small
      (λ w l. count_back _ (word_of n.bytes w) (word_most n.bytes small w l (h.plain (w * 8 + 7) (omega arith))) (e w l))

  pub head_word : (w : ℕ) → w < name_words → number_at (numbers_of g) (0 + w) ≡ name_number g.name w
  head_word zero l = head_number 0 (omega arith)
  head_word (suc zero) l = head_number 1 (omega arith)
  head_word (suc (suc zero)) l = head_number 2 (omega arith)
  head_word (suc (suc (suc w))) l = absurd (omega arith)

  pub grid_word : (k : ℕ) → k < grids_most → (w : ℕ) → w < name_words → number_at (numbers_of g) (grid_index k 0 + w) ≡ name_number (grid_at g k).name w
  grid_word k m zero l = ap (number_at (numbers_of g)) (omega arith) ∙ grid_number k 0 m (omega arith)
  grid_word k m (suc zero) l = ap (number_at (numbers_of g)) (omega arith) ∙ grid_number k 1 m (omega arith)
  grid_word k m (suc (suc zero)) l = ap (number_at (numbers_of g)) (omega arith) ∙ grid_number k 2 m (omega arith)
  grid_word k m (suc (suc (suc w))) l = absurd (omega arith)

  pub function_back : (k : ℕ) → k < functions_most → function_of_words (numbers_of g) k ≡ function_at g k
  unfolding function_of_words
  function_back k l =
      let kind = function_number k 0 l (omega arith) in
      let a = function_number k 1 l (omega arith) in
      let b = function_number k 2 l (omega arith) in
      let c = function_number k 3 l (omega arith) in
      let d = function_number k 4 l (omega arith) in
      (λ i. function_of (kind i) (a i) (b i) (c i) (d i)) ∙ shape_back (function_at g k).shape

  pub grid_back : (k : ℕ) → k < grids_most → KeptGrid (grid_at g k) → grid_of_words (numbers_of g) k ≡ grid_at g k
  unfolding grid_of_words
  grid_back k l h =
      let d = grid_at g k in
      let at : (j : ℕ) → j < grid_words → number_at (numbers_of g) (grid_index k j) ≡ number_at (grid_numbers d) j = λ j b. grid_number k j l b in
      let len = count_back _ d.name.len h.name.len (at 3 (omega arith)) in
      let name = ap (name_of_words (numbers_of g) (grid_index k 0)) len ∙ words d.name (grid_index k 0) h.name (grid_word k l) in
      let lon = at 4 (omega arith) in
      let lat = at 5 (omega arith) in
      let dlon = at 6 (omega arith) in
      let dlat = at 7 (omega arith) in
      let ni = count_back _ d.ni h.ni (at 8 (omega arith)) in
      let nj = count_back _ d.nj h.nj (at 9 (omega arith)) in
      let rank = count_back _ d.rank h.rank (at 10 (omega arith)) in
      let start = count_back _ d.start h.start (at 11 (omega arith)) in
      λ i. record {
        name = name i;
        lon = record { 0 = lon i };
        lat = record { 0 = lat i };
        dlon = dlon i;
        dlat = dlat i;
        ni = ni i;
        nj = nj i;
        rank = rank i;
        start = start i;
      }

  -- the unit that was stored is one of the two
  pub unit_number_known : between (pos 0) (pos 1) (number_at (numbers_of g) unit_index) ≡ true
  unit_number_known = ap (between (pos 0) (pos 1)) (head_number unit_index (omega arith)) ∙ unit_known g.unit

  -- the group line, number by number
  module _ (h : KeptHead g) where
    pub head_name_back : (group_of_words (numbers_of g)).name ≡ g.name
    unfolding group_of_words
    head_name_back =
        ap (name_of_words (numbers_of g) 0) (count_back _ g.name.len h.name.len (head_number 3 (omega arith)))
        ∙ words g.name 0 h.name head_word

    pub quantum_back : (group_of_words (numbers_of g)).quantum ≡ g.quantum
    unfolding group_of_words
    quantum_back =
        ap (λ (t : Bool). cond t (count_at (numbers_of g) quantum_index) beyond) unit_number_known
        ∙ count_back _ g.quantum h.quantum (head_number 5 (omega arith))

    pub parameters_back : (group_of_words (numbers_of g)).parameters ≡ g.parameters
    unfolding group_of_words
    parameters_back = count_back _ g.parameters h.parameters (head_number 6 (omega arith))

    pub functions_back : (group_of_words (numbers_of g)).functions ≡ g.functions
    unfolding group_of_words
    functions_back = count_back _ g.functions h.functions (head_number 7 (omega arith))

    pub grids_back : (group_of_words (numbers_of g)).grids ≡ g.grids
    unfolding group_of_words
    grids_back = count_back _ g.grids h.grids (head_number 8 (omega arith))

  pub group_back : KeptGroup g → group_of_words (numbers_of g) ≡ g
  unfolding group_of_words
  group_back h =
      let name = head_name_back h.head in
      let unit = ap unit_of (head_number unit_index (omega arith)) ∙ unit_back g.unit in
      let quantum = quantum_back h.head in
      let parameters = parameters_back h.head in
      let rs = functions_back h.head in
      let gs = grids_back h.head in
      let function = list_of_is (function_of_words (numbers_of g)) blank_function functions_most g.function h.function function_back in
      let grid = list_of_is (grid_of_words (numbers_of g)) no_grid grids_most g.grid h.grid (λ k l. grid_back k l (h.kept k l)) in
      λ i. record {
        name = name i;
        unit = unit i;
        quantum = quantum i;
        parameters = parameters i;
        functions = rs i;
        grids = gs i;
        function = function i;
        grid = grid i;
      }
