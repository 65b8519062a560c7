-- The first bad line among the parts of a log at its line feeds, whatever the lines' verdicts are: lines that pass before it change nothing but
-- its number, and lines behind it nothing at all.
use Prim.Native.Nat.{ℕ, zero, suc, ◌+◌, ◌<◌}
use mathlib.Core.Path.{◌≡◌, refl, sym, ap, ◌∙◌, subst}
use mathlib.Core.Bool.{Bool, cond}
use mathlib.Core.List.{List, [], ◌∷◌, ◌++◌, append-nil, append_assoc}
use mathlib.Core.Logic.{◌⊎◌, inl, inr, ⊎_elim}
use native.Mathlib.Omega.{arith}
use borrow.Author.Tests.{ne_eqb}
use lib.ListN.{length, get_or, length-append}
use Rattle.std.specs.Prelude.{Option, Some, None}
use Rattle.text.specs.Parts.{split, join}
use Rattle.text.proofs.PartLaws.{Free, AllFree, first_part, join_split, split_lead, split_free, split_all}
use Rattle.logs.specs.declared.Fault.{Fault}
use Rattle.logs.specs.declared.Kind.{Kind}
use Rattle.logs.specs.declared.Kind.TheVariants as K
use Rattle.logs.specs.Kinds.{Failed, passes, kind_number}
use Rattle.logs.specs.Log.{bad_line, behind_last, fault_or, first_fault, fault, fault_told}
use Rattle.logs.specs.Order4.{closed_lines, Ended, line_count, later}

-- ---- closed lines

join_closed : (p : List ℕ) (ps : List (List ℕ)) → join 10 (p ∷ ps) ++ 10 ∷ [] ≡ closed_lines (p ∷ ps)
join_closed p [] = ap (λ (l : List ℕ). l ++ 10 ∷ []) (append-nil p)
join_closed p (q ∷ qs) = append_assoc p (10 ∷ join 10 (q ∷ qs)) (10 ∷ []) ∙ ap (λ (l : List ℕ). p ++ 10 ∷ l) (join_closed q qs)

-- a log that ends in a line feed is its lines, each closed
ended_lines : (a : List ℕ) → Ended a → (ls : List (List ℕ)) × (a ≡ closed_lines ls) × AllFree 10 ls
ended_lines a (inl e) = ([], e, tt)
ended_lines a (inr (b, e)) =
    let f = first_part 10 b in
    (split 10 b, e ∙ ap (λ (l : List ℕ). l ++ 10 ∷ []) (sym (join_split 10 b)) ∙ (rw f.1.1 (join_closed f.0 f.1.0)), split_all 10 b)

split_closed : (ls : List (List ℕ)) (t : List ℕ) → AllFree 10 ls → split 10 (closed_lines ls ++ t) ≡ ls ++ split 10 t
split_closed [] t f = refl
split_closed (l ∷ ls) t f =
    ap (split 10) (append_assoc l (10 ∷ closed_lines ls) t) ∙ split_lead 10 l (closed_lines ls ++ t) f.0
    ∙ ap (λ (ps : List (List ℕ)). l ∷ ps) (split_closed ls t f.1)

later_line : (m n k : ℕ) → fault (m + suc n) k ≡ later m (fault (suc n) k)
later_line m n k = ap (λ (b : Bool). cond b (fault (suc n) k) (fault (m + suc n) k)) (sym (ne_eqb (suc n) 0 (omega arith)))

-- ---- a fault or none

some_none : (f : Fault) → ◌≡◌ {A = Option Fault} (Some f) None → ⊥
some_none f e = let z : ◌≡◌ {A = ℕ} 0 1 = cc in omega arith

same_fault : (m n : ℕ) (j k : Kind) → bad_line m j ≡ bad_line n k → (m ≡ n) × (j ≡ k)
same_fault m n j k e =
    let f : ◌≡◌ {A = Fault} (record { line = m; kind = j }) (record { line = n; kind = k }) = cc in
    (ap (λ (x : Fault). x.line) f, ap (λ (x : Fault). x.kind) f)

-- ---- over any verdicts

module _ (kind : List ℕ → Failed) where
  -- each of these lines passes
  abbrev pub Pass : List (List ℕ) → Type 0
  Pass ls = (k : ℕ) → k < length ls → kind (get_or ls k []) ≡ passes

  pass_cons : (l : List ℕ) (ls : List (List ℕ)) → kind l ≡ passes → Pass ls → Pass (l ∷ ls)
  pass_cons l ls h p zero b = h
  pass_cons l ls h p (suc k) b = p k (omega arith)

  pass_tail : (l : List ℕ) (ls : List (List ℕ)) → Pass (l ∷ ls) → Pass ls
  pass_tail l ls p k b = p (suc k) (omega arith)

  -- one line in front of others
  one : (n : ℕ) (l : List ℕ) (ls : List (List ℕ)) (p : List ℕ) (ps : List (List ℕ))
      → first_fault kind n (l ∷ (ls ++ p ∷ ps)) ≡ fault_or n (kind l) (first_fault kind (suc n) (ls ++ p ∷ ps))
  one n l [] p ps = refl
  one n l (m ∷ ls) p ps = refl

  one_good : (n : ℕ) (l : List ℕ) (ls : List (List ℕ)) (p : List ℕ) (ps : List (List ℕ)) → kind l ≡ passes
      → first_fault kind n (l ∷ (ls ++ p ∷ ps)) ≡ first_fault kind (suc n) (ls ++ p ∷ ps)
  one_good n l ls p ps h = one n l ls p ps ∙ ap (λ (o : Failed). fault_or n o (first_fault kind (suc n) (ls ++ p ∷ ps))) h

  one_bad : (n : ℕ) (l : List ℕ) (ls : List (List ℕ)) (p : List ℕ) (ps : List (List ℕ)) (k : Kind) → kind l ≡ Some k
      → first_fault kind n (l ∷ (ls ++ p ∷ ps)) ≡ bad_line n k
  one_bad n l ls p ps k h = one n l ls p ps ∙ ap (λ (o : Failed). fault_or n o (first_fault kind (suc n) (ls ++ p ∷ ps))) h

  -- behind lines that pass the first bad one is that of the rest
  behind_good : (n : ℕ) (ls : List (List ℕ)) (p : List ℕ) (ps : List (List ℕ)) → Pass ls → first_fault kind n (ls ++ p ∷ ps) ≡ first_fault kind (length ls + n) (p ∷ ps)
  behind_good n [] p ps h = ap (λ (k : ℕ). first_fault kind k (p ∷ ps)) (let e : n ≡ 0 + n = omega arith in e)
  behind_good n (l ∷ ls) p ps h =
      let e : length ls + suc n ≡ length (l ∷ ls) + n = omega arith in
      one_good n l ls p ps (h 0 (omega arith)) ∙ behind_good (suc n) ls p ps (pass_tail l ls h) ∙ ap (λ (k : ℕ). first_fault kind k (p ∷ ps)) e

  -- counted from another line on
  counted : (m n : ℕ) (ps : List (List ℕ)) → fault_told (first_fault kind (m + suc n) ps) ≡ later m (fault_told (first_fault kind (suc n) ps))
  counted m n [] = refl
  counted m n ([] ∷ []) = refl
  counted m n ((x ∷ xs) ∷ []) = later_line m n 1
  counted m n (l ∷ p ∷ ps) = go (kind l) (counted m (suc n) (p ∷ ps))
    where
      go : (o : Failed) → fault_told (first_fault kind (m + suc (suc n)) (p ∷ ps)) ≡ later m (fault_told (first_fault kind (suc (suc n)) (p ∷ ps)))
          → fault_told (fault_or (m + suc n) o (first_fault kind (suc (m + suc n)) (p ∷ ps)))
          ≡ later m (fault_told (fault_or (suc n) o (first_fault kind (suc (suc n)) (p ∷ ps))))
      go None h = let e : suc (m + suc n) ≡ m + suc (suc n) = omega arith in ap (λ (k : ℕ). fault_told (first_fault kind k (p ∷ ps))) e ∙ h
      go (Some k) h = later_line m n (kind_number k)

  -- a line passes or fails a test
  tested : (l : List ℕ) → (kind l ≡ passes) ⊎ ((k : Kind) × (kind l ≡ Some k))
  tested l = go (kind l) refl
    where
      go : (o : Failed) → kind l ≡ o → (kind l ≡ passes) ⊎ ((k : Kind) × (kind l ≡ Some k))
      go None e = inl e
      go (Some k) e = inr (k, e)

  -- a bad line among closed ones: nothing behind them changes what is found
  bad_before : (n : ℕ) (ls : List (List ℕ)) (p : List ℕ) (ps : List (List ℕ)) → (first_fault kind n (ls ++ [] ∷ []) ≡ None → ⊥)
      → first_fault kind n (ls ++ p ∷ ps) ≡ first_fault kind n (ls ++ [] ∷ [])
  bad_before n [] p ps h = absurd (h refl)
  bad_before n (l ∷ ls) p ps h =
      ⊎_elim
      (λ z. one_good n l ls p ps z ∙ bad_before (suc n) ls p ps (λ w. h (one_good n l ls [] [] z ∙ w)) ∙ sym (one_good n l ls [] [] z))
      (λ z. one_bad n l ls p ps z.0 z.1 ∙ sym (one_bad n l ls [] [] z.0 z.1))
      (tested l)

  -- none among them: each passes
  good_before : (n : ℕ) (ls : List (List ℕ)) → first_fault kind n (ls ++ [] ∷ []) ≡ None → Pass ls
  good_before n [] h = λ k b. absurd (omega arith)
  good_before n (l ∷ ls) h =
      ⊎_elim
      (λ z. pass_cons l ls z (good_before (suc n) ls (sym (one_good n l ls [] [] z) ∙ h)))
      (λ z. absurd (some_none _ (sym (one_bad n l ls [] [] z.0 z.1) ∙ h)))
      (tested l)

  -- the verdict of a log
  abbrev pub found_in : List ℕ → Option Fault
  found_in log = first_fault kind 1 (split 10 log)

  -- ---- one log behind another

  module _ (a b : List ℕ) (h : Ended a) where
    abbrev ls : List (List ℕ)
    ls = (ended_lines a h).0

    parts : (t : List ℕ) → split 10 (a ++ t) ≡ ls ++ split 10 t
    parts t = ap (λ (l : List ℕ). split 10 (l ++ t)) (ended_lines a h).1 ∙ split_closed ls t (ended_lines a h).2

    alone : split 10 a ≡ ls ++ [] ∷ []
    alone = ap (split 10) (sym (append-nil a)) ∙ parts []

    together : (p : List ℕ) (ps : List (List ℕ)) → split 10 b ≡ p ∷ ps → found_in (a ++ b) ≡ first_fault kind 1 (ls ++ p ∷ ps)
    together p ps e = ap (first_fault kind 1) (parts b ∙ ap (λ (l : List (List ℕ)). ls ++ l) e)

    pub parts_good : found_in a ≡ None → fault_told (found_in (a ++ b)) ≡ later (line_count a) (fault_told (found_in b))
    parts_good z =
        let f = first_part 10 b in
        let n : length ls ≡ line_count a = (let x = ap length alone in let y = length-append ls ([] ∷ []) in omega arith) in
        ap fault_told (together f.0 f.1.0 f.1.1 ∙ behind_good 1 ls f.0 f.1.0 (good_before 1 ls (ap (first_fault kind 1) (sym alone) ∙ z)))
        ∙ counted (length ls) 0 (f.0 ∷ f.1.0) ∙ (λ i. later (n i) (fault_told (first_fault kind 1 (sym f.1.1 i))))

    pub parts_bad : (found_in a ≡ None → ⊥) → found_in (a ++ b) ≡ found_in a
    parts_bad z =
        let f = first_part 10 b in
        together f.0 f.1.0 f.1.1 ∙ bad_before 1 ls f.0 f.1.0 (λ w. z (ap (first_fault kind 1) alone ∙ w)) ∙ ap (first_fault kind 1) (sym alone)

  -- a line alone
  pub one_closed : (line : List ℕ) → Free 10 line → found_in (line ++ 10 ∷ []) ≡ fault_or 1 (kind line) None
  one_closed line f = ap (first_fault kind 1) (split_lead 10 line [] f)

  -- ---- a log that passes

  none_found : (n : ℕ) (p : List ℕ) (ps : List (List ℕ)) → first_fault kind n (p ∷ ps) ≡ None
      → (lines : List (List ℕ)) × (join 10 (p ∷ ps) ≡ closed_lines lines) × Pass lines
  none_found n [] [] h = ([], refl, λ k b. absurd (omega arith))
  none_found n (x ∷ xs) [] h = absurd (some_none _ h)
  none_found n p (q ∷ qs) h =
      ⊎_elim
      (λ z.
      let r = none_found (suc n) q qs (sym (one_good n p [] q qs z) ∙ h) in
      (p ∷ r.0, ap (λ (l : List ℕ). p ++ 10 ∷ l) r.1, pass_cons p r.0 z r.2))
      (λ z. absurd (some_none _ (sym (one_bad n p [] q qs z.0 z.1) ∙ h)))
      (tested p)

  pub passed_lines : (log : List ℕ) → found_in log ≡ None → (lines : List (List ℕ)) × (log ≡ closed_lines lines) × Pass lines
  passed_lines log h =
      let f = first_part 10 log in
      let r = none_found 1 f.0 f.1.0 (ap (first_fault kind 1) (sym f.1.1) ∙ h) in
      (r.0, sym (join_split 10 log) ∙ ap (join 10) f.1.1 ∙ r.1, r.2)

  -- ---- a log with a bad line

  -- line n, counted from m on, is the first bad one, and of this kind
  pub record Bad (log : List ℕ) (m n : ℕ) (k : Kind) : Type 0 where
    pub before : List (List ℕ)
    pub line : List ℕ
    pub behind : List ℕ
    pub pass : Pass before
    pub number : n ≡ length before + m
    pub whole : log ≡ closed_lines before ++ (line ++ behind)
    pub free : Free 10 line
    pub fails : ((rest : List ℕ) × (behind ≡ 10 ∷ rest) × (kind line ≡ Some k)) ⊎ ((behind ≡ []) × (line ≡ [] → ⊥) × (k ≡ K.Form))

  bad_on : (l log : List ℕ) (m n : ℕ) (k : Kind) → kind l ≡ passes → Bad log (suc m) n k → Bad (l ++ 10 ∷ log) m n k
  bad_on l log m n k z b =
      let e = b.number in
      record {
        before = l ∷ b.before;
        line = b.line;
        behind = b.behind;
        pass = pass_cons l b.before z b.pass;
        number = omega arith;
        whole = ap (λ (s : List ℕ). l ++ 10 ∷ s) b.whole ∙ sym (append_assoc l (10 ∷ closed_lines b.before) (b.line ++ b.behind));
        free = b.free;
        fails = b.fails;
      }

  one_found : (m n : ℕ) (k : Kind) (p : List ℕ) (ps : List (List ℕ)) → AllFree 10 (p ∷ ps) → first_fault kind m (p ∷ ps) ≡ bad_line n k → Bad (join 10 (p ∷ ps)) m n k
  one_found m n k [] [] f h = absurd (some_none _ (sym h))
  one_found m n k (x ∷ xs) [] f h =
      let w = same_fault m n K.Form k h in
      record {
        before = [];
        line = x ∷ xs;
        behind = [];
        pass = λ j b. absurd (omega arith);
        number = (let q = w.0 in omega arith);
        whole = refl;
        free = f.0;
        fails = inr (refl, λ e. (let q = ap length e in omega arith), sym w.1);
      }
  one_found m n k p (q ∷ qs) f h =
      ⊎_elim
      (λ z. bad_on p (join 10 (q ∷ qs)) m n k z (one_found (suc m) n k q qs f.1 (sym (one_good m p [] q qs z) ∙ h)))
      (λ z.
      let w = same_fault m n z.0 k (sym (one_bad m p [] q qs z.0 z.1) ∙ h) in
      record {
        before = [];
        line = p;
        behind = 10 ∷ join 10 (q ∷ qs);
        pass = λ j b. absurd (omega arith);
        number = (let v = w.0 in omega arith);
        whole = refl;
        free = f.0;
        fails = inl (join 10 (q ∷ qs), refl, z.1 ∙ ap Some w.1);
      })
      (tested p)

  pub failed_line : (log : List ℕ) (n : ℕ) (k : Kind) → found_in log ≡ bad_line n k → Bad log 1 n k
  failed_line log n k h =
      let f = first_part 10 log in
      subst (λ (l : List ℕ). Bad l 1 n k) (ap (join 10) (sym f.1.1) ∙ join_split 10 log)
      (one_found 1 n k f.0 f.1.0 (subst (AllFree 10) f.1.1 (split_all 10 log)) (ap (first_fault kind 1) (sym f.1.1) ∙ h))

  -- ---- where no line that passes has a line feed in it

  module _ (free : (line : List ℕ) → kind line ≡ passes → Free 10 line) where
    all_free : (ls : List (List ℕ)) → Pass ls → AllFree 10 ls
    all_free [] p = tt
    all_free (l ∷ ls) p = (free l (p 0 (omega arith)), all_free ls (pass_tail l ls p))

    found_behind : (ls : List (List ℕ)) (t : List ℕ) → Pass ls → found_in (closed_lines ls ++ t) ≡ first_fault kind (length ls + 1) (split 10 t)
    found_behind ls t p =
        let f = first_part 10 t in
        ap (first_fault kind 1) (split_closed ls t (all_free ls p) ∙ ap (λ (l : List (List ℕ)). ls ++ l) f.1.1) ∙ behind_good 1 ls f.0 f.1.0 p
        ∙ ap (first_fault kind (length ls + 1)) (sym f.1.1)

    pub lines_pass : (log : List ℕ) (lines : List (List ℕ)) → log ≡ closed_lines lines → Pass lines → found_in log ≡ None
    lines_pass log lines e p = ap found_in (e ∙ sym (append-nil (closed_lines lines))) ∙ found_behind lines [] p

    pub line_fails : (log : List ℕ) (n : ℕ) (k : Kind) → Bad log 1 n k → found_in log ≡ bad_line n k
    line_fails log n k b =
        ap found_in b.whole ∙ found_behind b.before (b.line ++ b.behind) b.pass ∙ ap (λ (j : ℕ). first_fault kind j (split 10 (b.line ++ b.behind))) (sym b.number)
        ∙ by_cases b.line b.behind b.free b.fails
      where
        unclosed : (l : List ℕ) → (l ≡ [] → ⊥) → behind_last n l ≡ bad_line n K.Form
        unclosed [] z = absurd (z refl)
        unclosed (x ∷ xs) z = refl

        by_cases : (line behind : List ℕ) → Free 10 line
            → ((rest : List ℕ) × (behind ≡ 10 ∷ rest) × (kind line ≡ Some k)) ⊎ ((behind ≡ []) × (line ≡ [] → ⊥) × (k ≡ K.Form))
            → first_fault kind n (split 10 (line ++ behind)) ≡ bad_line n k
        by_cases line behind f (inl (rest, e, u)) =
            let q = first_part 10 rest in
            ap (λ (s : List ℕ). first_fault kind n (split 10 (line ++ s))) e
            ∙ ap (first_fault kind n) (split_lead 10 line rest f ∙ ap (λ (l : List (List ℕ)). line ∷ l) q.1.1)
            ∙ one_bad n line [] q.0 q.1.0 k u
        by_cases line behind f (inr (e, z, u)) =
            ap (λ (s : List ℕ). first_fault kind n (split 10 s)) (ap (λ (s : List ℕ). line ++ s) e ∙ append-nil line)
            ∙ ap (first_fault kind n) (split_free 10 line f) ∙ unclosed line z ∙ ap (bad_line n) (sym u)
