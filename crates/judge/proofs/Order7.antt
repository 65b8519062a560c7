-- Order 7 holds of what the judge refuses by 2.
use Prim.Native.Nat.{ℕ, ◌+◌, ◌<◌, ◌≤◌}
use mathlib.Core.Path.{◌≡◌, refl, sym, ap, ◌∙◌, subst}
use mathlib.Core.Bool.{Bool, true, false, not, ◌&&◌, ◌||◌, and-false}
use mathlib.Core.List.{List}
use native.Mathlib.Decide.{dec_lt, ℕ_discrete}
use native.Mathlib.Omega.{arith}
use borrow.Author.Tests.{le-leb, lt-leb, ltb-true}
use lib.Dec.{T, leb}
use lib.IntN.{ℤ, pos, negsuc}
use lib.Signed.{◌<ℤ◌, le_z, lt_z, lt_z_yes}
use Rattle.numbers.specs.First.{first, some}
use Rattle.numbers.proofs.Bools.{true_false, untrue, and_left, and_right, both}
use Rattle.numbers.proofs.FirstLaws.{first_at, first_before, some_by}
use Rattle.group.specs.declared.Ramp2.{Ramp2}
use Rattle.group.specs.declared.Shape.TheVariants as S
use Rattle.group.specs.declared.Function.{Function}
use Rattle.group.specs.declared.Group.{Group}
use Rattle.group.specs.Record.{function_at}
use Rattle.group.specs.Limits.{shape_fits, function_fits, function_blank, head_fits}
use Rattle.group.specs.Numbers.{functions_most, grids_most, day_fits, function_factor_fits, is_zero}
use Rattle.group.specs.Refusals.{refusal, refuse_if, refuse_first}
use Rattle.group.proofs.RefusalLaws.{if_past, first_here}
use Rattle.group.proofs.BlankLaws.{blank_function_lem}
use Rattle.abi.specs.Words.{function_index}
use Rattle.abi.specs.Abi.{is_kind, number_at, no_function, function_of, function_of_words, group_of_words}
use Rattle.abi.proofs.EntryLaws.{function_of_words_lem}
use Rattle.abi.proofs.FunctionLaws.{is_none}
use Rattle.judge.specs.Judge.{unused_function, unused_grid, bad_function, judged_lines, judged_limits, judged}
use Rattle.judge.specs.Order7.{RefusedBy2, StartBelowEnd, UnusedIsBlank, KindsInC, of_kind, NoOtherKind, WrittenAsRamp}
use Rattle.judge.proofs.Accepted.{some_none, accepted, sound_accepted}
use Rattle.std.specs.Prelude.{Result, Ok, Err, ⊤}
use Rattle.group.specs.declared.Refusal.{Refusal}

-- 2 at a line, or at one before it, whatever test by 2 at line 1 stands before it
By2 : Result ⊤ Refusal → ℕ → Type 0
By2 v line = (place : ℕ) × (1 ≤ place) × (place ≤ line) × (v ≡ Err (refusal 2 place))

before : (t : Bool) (v : Result ⊤ Refusal) (line : ℕ) → 1 ≤ line → By2 v line → By2 (refuse_if Err t 2 1 v) line
unfolding By2 refuse_if
before true v line l b = (1, omega arith, l, refl)
before false v line l b = b

first_of : (p : ℕ → Bool) (n k : ℕ) (next : Result ⊤ Refusal) → k < n → p k ≡ true → By2 (refuse_first Err p n 2 2 next) (k + 2)
unfolding By2 refuse_first refuse_if
first_of p n k next l e = (first p n + 2, omega arith, least (dec_lt k (first p n)), rw (some_by p n k l e))
  where
    least : Dec (k < first p n) → first p n + 2 ≤ k + 2
    least (no h) = omega arith
    least (yes h) = absurd (true_false e (first_before p n k h))

-- 2 at line 1, whatever follows
at_one : (t : Bool) (v : Result ⊤ Refusal) → v ≡ Err (refusal 2 1) → refuse_if Err t 2 1 v ≡ Err (refusal 2 1)
unfolding refuse_if
at_one true v e = refl
at_one false v e = e

module _ (g : Group) where
  -- a function outside its limits
  bad_function_lem : (k : ℕ) → k < g.functions → function_fits (function_at g k) ≡ false → RefusedBy2 g k
  unfolding By2 judged judged_limits judged_lines
  bad_function_lem k l e =
      record {
        here = λ w.
            if_past Err (not (head_fits g)) 2 1 _ (ap not w.head)
            ∙ if_past Err (some (unused_function g) functions_most) 2 1 _ (some_none (unused_function g) functions_most w.no_function)
            ∙ if_past Err (some (unused_grid g) grids_most) 2 1 _ (some_none (unused_grid g) grids_most w.no_grid)
            ∙ first_here Err (bad_function g) g.functions 2 2 _ (some_by (bad_function g) g.functions k l (ap not e))
            ∙ ap (λ (n : ℕ). Err (refusal 2 (n + 2))) (first_at (bad_function g) g.functions k l (λ j m. ap not (w.function j m)) (ap not e));
        before =
            before (not (head_fits g)) _ (k + 2) (omega arith)
            (before (some (unused_function g) functions_most) _ (k + 2) (omega arith)
            (before (some (unused_grid g) grids_most) _ (k + 2) (omega arith)
            (first_of (bad_function g) g.functions k _ l (ap not e))));
      }

  -- an unused one that is not blank
  unused_function_lem : (k : ℕ) → k < functions_most → g.functions ≤ k → function_blank (function_at g k) ≡ false → judged g ≡ Err (refusal 2 1)
  unfolding judged judged_limits refuse_if
  unused_function_lem k l m e =
      at_one (not (head_fits g)) _ (rw (some_by (unused_function g) functions_most k l (λ i. le-leb g.functions k m i && not (e i))))

  pub start_below_end : StartBelowEnd g
  start_below_end k r l s h =
      let e = untrue (lt_z r.start r.end) (λ t. h (lt_z_yes (subst T (sym t) tt))) in
      let within = day_fits r.start && day_fits r.end && day_fits r.reference && function_factor_fits r.mult in
      bad_function_lem k l (ap shape_fits s ∙ ap (λ (b : Bool). within && b) e ∙ and-false within)

  pub unused_is_blank : UnusedIsBlank g
  unused_is_blank k l m h = unused_function_lem k l m (untrue _ (λ e. h (blank_function_lem (function_at g k) e)))

-- below is not above
lt_le : (x y : ℤ) → lt_z x y ≡ true → le_z x y ≡ true
lt_le (pos a) (pos b) e = le-leb a b (let l = ltb-true a b e in omega arith)
lt_le (pos a) (negsuc b) e = e
lt_le (negsuc a) (pos b) e = refl
lt_le (negsuc a) (negsuc b) e = le-leb b a (let l = ltb-true b a e in omega arith)

pub kinds_in_c : (a b c d : ℤ) → KindsInC a b c d
unfolding function_of
kinds_in_c a b c d = record { ramp = refl; step = refl; ramp2 = refl }

-- numbers of no kind
or_none : (a b c : Bool) → (a || b || c) ≡ false → (a ≡ false) × (b ≡ false) × (c ≡ false)
or_none false false false e = (refl, refl, refl)
or_none true b c e = absurd (true_false {b = true} refl e)
or_none false true c e = absurd (true_false {b = true} refl e)
or_none false false true e = absurd (true_false {b = true} refl e)

none_of : (ns : List ℤ) (k : ℕ) → k < functions_most → of_kind (number_at ns (function_index k 0)) (number_at ns (function_index k 4)) ≡ false
    → function_at (group_of_words ns) k ≡ no_function
unfolding function_of_words
none_of ns k l e =
    let n = or_none (is_kind 0 (number_at ns (function_index k 0))) (is_kind 1 (number_at ns (function_index k 0)) && is_zero (number_at ns (function_index k 4))) (is_kind 2 (number_at ns (function_index k 0))) e in
    function_of_words_lem ns k l ∙ is_none _ _ _ _ _ n.0 n.1 n.2

pub no_other_kind : (ns : List ℤ) → NoOtherKind ns
no_other_kind ns k l e =
    let n = none_of ns k l e in
    (λ m. bad_function_lem (group_of_words ns) k m (ap function_fits n), λ m. unused_function_lem (group_of_words ns) k l m (ap function_blank n))

-- the old ramp in place of a ramp2: the group is accepted too
module _ (g h : Group) (k : ℕ) (r : Ramp2) (e : judged g ≡ Ok tt) (w : WrittenAsRamp g h k r) where
  ramp2_fits : shape_fits (S.Ramp2 r) ≡ true
  ramp2_fits = sym (ap shape_fits w.ramp2) ∙ (accepted g e).function k w.among

  length_above : lt_z r.start r.end ≡ true
  length_above = and_right (day_fits r.start && day_fits r.end && day_fits r.reference && function_factor_fits r.mult) _ ramp2_fits

  pub starts_below : r.start <ℤ r.end
  starts_below = lt_z_yes (subst T (sym length_above) tt)

  ramp_fits : function_fits (function_at h k) ≡ true
  ramp_fits =
      let a = day_fits r.start in let b = day_fits r.end in let c = day_fits r.reference in let m = function_factor_fits r.mult in
      let q = and_left (a && b && c && m) (lt_z r.start r.end) ramp2_fits in
      let p = and_left (a && b) c (and_left (a && b && c) m q) in
      ap shape_fits w.ramp
      ∙ both (both (both (both (and_left a b p) refl) (and_right a b p)) (and_right (a && b && c) m q)) (lt_le r.start r.end length_above)

  -- a property of function j, by its own number
  pub by_function : (P : Function → Type 0) (j : ℕ) → P (function_at g j) → (j ≡ k → P (function_at h k)) → P (function_at h j)
  by_function P j same new =
      elim (ℕ_discrete j k) [
        | yes q ↦ subst (λ (i : ℕ). P (function_at h i)) (sym q) (new q)
        | no n ↦ subst P (sym (w.others j n)) same
      ]

  pub as_ramp_accepted : judged h ≡ Ok tt
  unfolding head_fits
  as_ramp_accepted =
      let s = accepted g e in
      sound_accepted h
      (record {
        head = rw (w.name, w.quantum, w.parameters, w.functions, w.grids) s.head;
        function = λ j l. by_function (λ f. function_fits f ≡ true) j (s.function j (omega (arith, w.functions))) (λ q. ramp_fits);
        grid = λ j l. rw w.grid (s.grid j (omega (arith, w.grids)));
        no_function = λ j l.
            by_function (λ f. (leb h.functions j && not (function_blank f)) ≡ false) j (rw w.functions (s.no_function j l))
            (λ q. let m = w.among in rw (w.functions, lt-leb g.functions j (omega arith)));
        no_grid = λ j l. rw (w.grid, w.grids) (s.no_grid j l);
        edges = λ j l. rw (w.grid, w.parameters) (s.edges j (omega (arith, w.grids)));
        names = λ i j l m. rw w.grid (s.names i j (omega (arith, w.grids)) m);
        ranks = λ i j l m. rw w.grid (s.ranks i j (omega (arith, w.grids)) m);
      })
