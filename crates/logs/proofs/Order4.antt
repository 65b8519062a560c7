-- Order 4 holds of judging a log and of writing a line.
use Prim.Native.Nat.{ℕ, zero, suc, ◌<◌}
use mathlib.Core.Path.{◌≡◌, refl, sym, ap, ◌∙◌, subst}
use mathlib.Core.Bool.{Bool, cond}
use mathlib.Core.List.{List, [], ◌∷◌, ◌++◌, append_assoc}
use mathlib.Core.Logic.{◌⊎◌, inl, inr, ◌↔◌}
use native.Mathlib.Omega.{arith}
use borrow.Author.Tests.{ne_eqb}
use lib.Dec.{eqb}
use lib.IntN.{ℤ}
use lib.ListN.{length, get_or}
use Rattle.text.proofs.PartLaws.{lacks_free, free_lacks}
use Rattle.group.specs.declared.Group.{Group}
use Rattle.group.specs.declared.Position.{Position}
use Rattle.group.specs.declared.Refusal.{Refusal}
use Rattle.group.specs.Refusals.{no_refusal, refuse_first, unless_refused, refusal_of}
use Rattle.group.proofs.RefusalLaws.{verdicts, told_accepted, told_if, told_verdict, no_acceptance, first_past}
use Rattle.abi.specs.Abi.{joined}
use Rattle.judge.specs.Judge.{judged}
use Rattle.judge.proofs.TableLaws.{judged_told}
use Rattle.fix.specs.declared.Fix.{Fix}
use Rattle.lookup.specs.Lookup.{ends_early, nodes_judged, looked}
use Rattle.lookup.specs.Demand2.{ShortList, NothingRefused, ◌then◌}
use Rattle.lookup.proofs.RowLaws.{Single, single_then, single_judged, single_short, single_none, short_stage, judge_stage}
use Rattle.lookup.proofs.FoundLaws.{found}
use Rattle.exercise.specs.Exercise.{point_at}
use Rattle.logs.specs.declared.Fault.{Fault}
use Rattle.logs.specs.declared.Kind.{Kind}
use Rattle.logs.specs.declared.Kind.TheVariants as K
use Rattle.logs.specs.Kinds.{Failed, kind_number, failed_number}
use Rattle.logs.specs.Line.{entry_text, line_kind}
use Rattle.logs.specs.Log.{FaultNumbers, fault, no_fault, fault_or, fault_told, log_fault, log_judged, judgement_fault}
use Rattle.logs.specs.Order4.{LineIs, LineJudged, AllPass, LogPasses, FirstBad, RefusesLog, LogJudged, OneLine, Ended, later, line_count, InParts, OwnLine, LineWritten, OwnLines}
use Rattle.logs.proofs.NumberLaws.{kind_some, failed_none, failed_some, told_none, told_some}
use Rattle.logs.proofs.KindLaws.{line_exactly, pass_free}
use Rattle.logs.proofs.FaultLaws.{found_in, Pass, Bad, one_closed, passed_lines, lines_pass, failed_line, line_fails, parts_good, parts_bad}
use Rattle.logs.proofs.OwnLaws.{own_writing, written_own, written_fix}
use Rattle.std.specs.Prelude.{Option, Some, None, Result, Ok, Err, ⊤}

pub line_judged : (g : Group) (nodes : List ℤ) (line : List ℕ) → LineJudged g nodes line
line_judged = line_exactly

-- ---- the call itself

-- the fault, unless one of two verdicts refuses
abbrev called : Result ⊤ Refusal → Result ⊤ Refusal → Option Fault → Result (Option Fault) Refusal
called v w f = unless_refused Err v (unless_refused Err w (Ok f))

called_refusal : (v w : Result ⊤ Refusal) (f : Option Fault) → refusal_of (called v w f) ≡ refusal_of (unless_refused Err v w)
called_refusal (Err r) w f = refl
called_refusal (Ok _) (Err r) f = refl
called_refusal (Ok _) (Ok _) f = refl

called_fault : (v w : Result ⊤ Refusal) (f : Option Fault) → unless_refused Err v w ≡ Ok tt → judgement_fault (called v w f) ≡ fault_told f
called_fault (Err r) w f h = absurd (no_acceptance r h)
called_fault (Ok _) (Err r) f h = absurd (no_acceptance r h)
called_fault (Ok _) (Ok _) f h = refl

called_zeros : (v w : Result ⊤ Refusal) (f : Option Fault) → (refusal_of (called v w f) ≡ no_refusal → ⊥) → judgement_fault (called v w f) ≡ no_fault
called_zeros (Err r) w f h = refl
called_zeros (Ok _) (Err r) f h = refl
called_zeros (Ok _) (Ok _) f h = absurd (h refl)

module _ (g : Group) (nodes : List ℤ) where
  abbrev verdict : Result ⊤ Refusal
  verdict = unless_refused Err (judged g) (nodes_judged g (length nodes))

  stands : RefusesLog g nodes (refusal_of verdict)
  unfolding RefusesLog nodes_judged
  stands =
      judge_stage Err refusal_of (λ r. refl) (ShortList g nodes then NothingRefused) g (nodes_judged g (length nodes))
      (λ a. short_stage Err refusal_of (λ r. refl) NothingRefused g nodes (Ok tt) (λ b. refl))

  in_one_way : Single (RefusesLog g nodes)
  unfolding RefusesLog
  in_one_way = single_then _ _ (single_judged g) (single_then _ _ (single_short g nodes) single_none)

  accepted : refusal_of verdict ≡ no_refusal → verdict ≡ Ok tt
  unfolding nodes_judged refuse_first
  accepted h = (told_verdict verdicts (judged g) (judged_told g) (told_if verdicts _ 13 _ refl (told_accepted refl))).zero (ap (λ (r : Refusal). r.number) h)

  module _ (log : List ℕ) where
    refusal_is : refusal_of (log_judged g nodes log) ≡ refusal_of verdict
    unfolding log_judged
    refusal_is = called_refusal (judged g) (nodes_judged g (length nodes)) (log_fault g nodes log)

    fault_is : refusal_of (log_judged g nodes log) ≡ no_refusal → judgement_fault (log_judged g nodes log) ≡ fault_told (log_fault g nodes log)
    unfolding log_judged
    fault_is h = called_fault (judged g) (nodes_judged g (length nodes)) (log_fault g nodes log) (accepted (sym refusal_is ∙ h))

    log_refused : (r : Refusal) → (refusal_of (log_judged g nodes log) ≡ r) ↔ RefusesLog g nodes r
    log_refused r = (λ e. subst (RefusesLog g nodes) (sym refusal_is ∙ e) stands, λ h. refusal_is ∙ in_one_way _ r stands h)

    log_zeros : (refusal_of (log_judged g nodes log) ≡ no_refusal → ⊥) → judgement_fault (log_judged g nodes log) ≡ no_fault
    unfolding log_judged
    log_zeros = called_zeros (judged g) (nodes_judged g (length nodes)) (log_fault g nodes log)

-- ---- its fault

module _ (g : Group) (nodes : List ℤ) where
  abbrev kind : List ℕ → Failed
  kind = line_kind g nodes

  all_pass : (ls : List (List ℕ)) → Pass kind ls → AllPass g nodes ls
  all_pass ls p k b = (line_exactly g nodes (get_or ls k []) 0).0 (ap failed_number (p k b))

  pass_all : (ls : List (List ℕ)) → AllPass g nodes ls → Pass kind ls
  pass_all ls p k b = failed_none _ ((line_exactly g nodes (get_or ls k []) 0).1 (p k b))

  log_passes : (log : List ℕ) → (fault_told (log_fault g nodes log) ≡ no_fault) ↔ LogPasses g nodes log
  unfolding log_fault
  log_passes log = (
    λ h. let w = passed_lines kind log (told_none _ h) in (w.0, w.1, all_pass w.0 w.2),
    λ w. ap fault_told (lines_pass kind (pass_free g nodes) log w.0 w.1 (pass_all w.0 w.2)),
  )

  bad_is : (log : List ℕ) (n : ℕ) (k : Kind) → Bad kind log 1 n k → FirstBad g nodes log n (kind_number k)
  bad_is log n k b =
      let e = b.number in
      record {
        before = b.before;
        line = b.line;
        behind = b.behind;
        pass = all_pass b.before b.pass;
        number = omega arith;
        whole = b.whole;
        one = free_lacks 10 b.line b.free;
        bad = go b.fails;
      }
    where
      go : ((rest : List ℕ) × (b.behind ≡ 10 ∷ rest) × (kind b.line ≡ Some k)) ⊎ ((b.behind ≡ []) × (b.line ≡ [] → ⊥) × (k ≡ K.Form))
          → ((rest : List ℕ) × (b.behind ≡ 10 ∷ rest) × LineIs g nodes b.line (kind_number k) × (kind_number k ≡ 0 → ⊥))
          ⊎ ((b.behind ≡ []) × (b.line ≡ [] → ⊥) × (kind_number k ≡ 1))
      go (inl (rest, e, u)) = inl (rest, e, (line_exactly g nodes b.line (kind_number k)).0 (ap failed_number u), kind_some k)
      go (inr (e, z, u)) = inr (e, z, ap kind_number u)

  is_bad : (log : List ℕ) (n m : ℕ) → FirstBad g nodes log n m → (k : Kind) × (kind_number k ≡ m) × Bad kind log 1 n k
  is_bad log n m b =
      let e = b.number in
      let w = go b.bad in (
        w.0,
        w.1,
        record {
          before = b.before;
          line = b.line;
          behind = b.behind;
          pass = pass_all b.before b.pass;
          number = omega arith;
          whole = b.whole;
          free = lacks_free 10 b.line b.one;
          fails = w.2;
        },
      )
    where
      go : ((rest : List ℕ) × (b.behind ≡ 10 ∷ rest) × LineIs g nodes b.line m × (m ≡ 0 → ⊥)) ⊎ ((b.behind ≡ []) × (b.line ≡ [] → ⊥) × (m ≡ 1))
          → (k : Kind) × (kind_number k ≡ m)
          × (((rest : List ℕ) × (b.behind ≡ 10 ∷ rest) × (kind b.line ≡ Some k)) ⊎ ((b.behind ≡ []) × (b.line ≡ [] → ⊥) × (k ≡ K.Form)))
      go (inl (rest, e, u, z)) = let w = failed_some (kind b.line) m ((line_exactly g nodes b.line m).1 u) z in (w.0, w.2, inl (rest, e, w.1))
      go (inr (e, z, u)) = (K.Form, sym u, inr (e, z, refl))

  log_fails : (log : List ℕ) (n m : ℕ) → (fault_told (log_fault g nodes log) ≡ fault (suc n) m) ↔ FirstBad g nodes log (suc n) m
  unfolding log_fault
  log_fails log n m = (
    λ h. let w = told_some _ n m h in subst (FirstBad g nodes log (suc n)) w.2 (bad_is log (suc n) w.0 (failed_line kind log (suc n) w.0 w.1)),
    λ b. let w = is_bad log (suc n) m b in ap fault_told (line_fails kind (pass_free g nodes) log (suc n) w.0 w.2) ∙ ap (fault (suc n)) w.1,
  )

-- the same of what the call answers
same_fault : {f d : FaultNumbers} {A : Type 0} (e : FaultNumbers) → f ≡ d → (d ≡ e) ↔ A → (f ≡ e) ↔ A
same_fault e h w = (λ p. w.0 (sym h ∙ p), λ a. h ∙ w.1 a)

pub log_judged_lem : (g : Group) (nodes : List ℤ) (log : List ℕ) → LogJudged g nodes log
log_judged_lem g nodes log =
    record {
      refused = log_refused g nodes log;
      zeros = log_zeros g nodes log;
      passed = λ h. same_fault no_fault (fault_is g nodes log h) (log_passes g nodes log);
      failed = λ h n k. same_fault (fault (suc n) k) (fault_is g nodes log h) (log_fails g nodes log n k);
    }

-- a line alone, by its number
alone : (o : Failed) → fault_told (fault_or 1 o None) ≡ cond (eqb (failed_number o) 0) no_fault (fault 1 (failed_number o))
alone None = refl
alone (Some k) = ap (λ (b : Bool). cond b no_fault (fault 1 (kind_number k))) (sym (ne_eqb (kind_number k) 0 (kind_some k)))

pub one_line : (g : Group) (nodes : List ℤ) (line : List ℕ) → OneLine g nodes line
unfolding log_fault
one_line g nodes line f h =
    fault_is g nodes (line ++ 10 ∷ []) h ∙ ap fault_told (one_closed (line_kind g nodes) line (lacks_free 10 line f)) ∙ alone (line_kind g nodes line)

-- ---- in parts

called_good : (v w : Result ⊤ Refusal) (a b c : Option Fault) (n : ℕ) → (fault_told a ≡ no_fault → fault_told c ≡ later n (fault_told b))
    → judgement_fault (called v w a) ≡ no_fault → judgement_fault (called v w c) ≡ later n (judgement_fault (called v w b))
called_good (Err r) w a b c n f h = refl
called_good (Ok _) (Err r) a b c n f h = refl
called_good (Ok _) (Ok _) a b c n f h = f h

called_bad : (v w : Result ⊤ Refusal) (a c : Option Fault) → ((a ≡ None → ⊥) → c ≡ a) → (judgement_fault (called v w a) ≡ no_fault → ⊥)
    → judgement_fault (called v w c) ≡ judgement_fault (called v w a)
called_bad (Err r) w a c f h = refl
called_bad (Ok _) (Err r) a c f h = refl
called_bad (Ok _) (Ok _) a c f h = ap fault_told (f (λ z. h (ap fault_told z)))

pub in_parts : (g : Group) (nodes : List ℤ) (a b : List ℕ) → InParts g nodes a b
unfolding log_judged log_fault
in_parts g nodes a b =
    record {
      verdict = refusal_is g nodes (a ++ b) ∙ sym (refusal_is g nodes b);
      passed = λ e.
          called_good (judged g) (nodes_judged g (length nodes)) (log_fault g nodes a) (log_fault g nodes b) (log_fault g nodes (a ++ b)) (line_count a)
          (λ z. parts_good (line_kind g nodes) a b e (told_none _ z));
      failed = λ e. called_bad (judged g) (nodes_judged g (length nodes)) (log_fault g nodes a) (log_fault g nodes (a ++ b)) (parts_bad (line_kind g nodes) a b e);
    }

-- ---- our own writer

pub line_written_lem : (g : Group) (nodes : List ℤ) (p : Position) (out : List ℕ) → LineWritten g nodes p out
line_written_lem = own_writing

called_passed : (v w : Result ⊤ Refusal) (f : Option Fault) → f ≡ None → judgement_fault (called v w f) ≡ no_fault
called_passed (Err r) w f h = refl
called_passed (Ok _) (Err r) f h = refl
called_passed (Ok _) (Ok _) f h = ap fault_told h

module _ (g : Group) (nodes : List ℤ) where
  -- a line of ours passes, alone and behind what passes
  own_passes : (p : Position) (bytes : List ℕ) → OwnLine g nodes p bytes → log_fault g nodes bytes ≡ None
  unfolding log_fault
  own_passes p bytes o =
      let body = entry_text o.e in
      let k = failed_none _ ((line_exactly g nodes body 0).1 (o.e, o.says, o.accepted, o.named, o.equal)) in
      ap (found_in (line_kind g nodes)) o.bytes_are ∙ one_closed (line_kind g nodes) body (pass_free g nodes body k)
      ∙ ap (λ (t : Failed). fault_or 1 t None) k

  all_own : (text : ℕ → List ℕ) (n : ℕ) → ((k : ℕ) → k < n → (p : Position) × OwnLine g nodes p (text k))
      → Ended (joined text n) × (log_fault g nodes (joined text n) ≡ None)
  unfolding log_fault joined
  all_own text zero h = (inl refl, refl)
  all_own text (suc n) h =
      let r = all_own text n (λ k b. h k (omega arith)) in
      let o = h n (omega arith) in
      let body = entry_text o.1.e in (
        inr (joined text n ++ body, ap (λ (l : List ℕ). joined text n ++ l) o.1.bytes_are ∙ sym (append_assoc (joined text n) body (10 ∷ []))),
        told_none _
            (parts_good (line_kind g nodes) (joined text n) (text n) r.0 r.1
            ∙ ap (λ (f : Option Fault). later (line_count (joined text n)) (fault_told f)) (own_passes o.0 (text n) o.1)),
      )

  found_verdict : (p : Position) (f : Fix) → looked g nodes (point_at p) p.day ≡ Ok f → verdict g nodes ≡ Ok tt
  unfolding nodes_judged
  found_verdict p f h =
      let w = (found g nodes (point_at p) p.day f h).ready in
      ap (λ (v : Result ⊤ Refusal). unless_refused Err v (nodes_judged g (length nodes))) w.accepted
      ∙ first_past Err (ends_early g (length nodes)) g.grids 13 1 (Ok tt) w.ends

pub own_lines : (g : Group) (nodes : List ℤ) → OwnLines g nodes
unfolding log_judged
own_lines g nodes =
    record {
      pass = λ text n h.
          called_passed (judged g) (nodes_judged g (length nodes)) (log_fault g nodes (joined text n))
          (all_own g nodes text n (λ k b. let w = h k b in (w.0, subst (OwnLine g nodes w.0) (sym w.3) (written_own g nodes w.0 w.1 w.2)))).1;
      accepted = λ p out log z.
          let w = written_fix g nodes p out z in
          refusal_is g nodes log ∙ ap refusal_of (found_verdict g nodes p w.0 w.1);
    }
