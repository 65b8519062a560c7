-- Demand 2 of the header text, proved of what reading and writing answer; and a group as a record beside its text.
use Prim.Native.Nat.{ℕ, ◌+◌, ◌≤◌}
use mathlib.Core.Path.{◌≡◌, refl, sym, ap, subst, ◌∙◌}
use mathlib.Core.List.{List}
use native.Mathlib.Omega.{arith}
use borrow.Author.Tests.{ltb-false}
use lib.Dec.{ltb}
use lib.ListN.{length, take, drop}
use lib.Seq.{take-append_seam, drop_at}
use Rattle.text.specs.Put.{put}
use Rattle.group.specs.declared.Function.{Function}
use Rattle.group.specs.declared.Grid.{Grid}
use Rattle.group.specs.declared.Group.{Group}
use Rattle.group.specs.declared.Refusal.{Refusal}
use Rattle.group.proofs.RefusalLaws.{passed_if, passed_verdict, not_zero, lent_kept, no_answer}
use Rattle.judge.specs.Judge.{judged}
use Rattle.header.specs.Whole.{Header, stopped, header, read_lines, group_of_lines, header_text}
use Rattle.header.specs.Header.{verdict_reading, judged_reading, read_header, written, written_count, bytes_after}
use Rattle.header.specs.Demand2.{InFront, TextRead, TextWritten, Shaped, Formed, JudgedAsText}
use Rattle.header.proofs.HeaderLaws.{count_answer}
use Rattle.header.proofs.TableLaws.{read_told, written_told}
use Rattle.header.proofs.TripLaws.{same_bytes}
use Rattle.header.proofs.FormedLaws.{as_text, same_group}
use Rattle.std.specs.Prelude.{Result, Ok, Err, ⊤}
use Rattle.group.specs.Refusals.{refusal_of}

pub put_front : (t out : List ℕ) → InFront t out (put 0 t out)
unfolding put
put_front t out =
    let z : 0 + length t ≡ length t = omega arith in
    record { front = take-append_seam t (drop (0 + length t) out); behind = drop_at t (drop (0 + length t) out) (length t) refl ∙ ap (λ (n : ℕ). drop n out) z }

-- ---- reading

module _ (t : List ℕ) (g : Group) (e : read_header t ≡ Ok g) where
  judged_read : judged g ≡ Ok tt
  unfolding read_header
  judged_read = in_lines (read_lines t) e
    where
      in_verdict : (h : Group) (v : Result ⊤ Refusal) → judged h ≡ v → verdict_reading h v ≡ Ok g → judged g ≡ Ok tt
      in_verdict h (Err r) p f = cc
      in_verdict h (Ok tt) p f = let m : h ≡ g = cc in ap judged (sym m) ∙ p

      in_lines : (x : Header Function Grid) → judged_reading x ≡ Ok g → judged g ≡ Ok tt
      in_lines (stopped r) f = cc
      in_lines (header h rs ds) f = in_verdict (group_of_lines h rs ds) (judged (group_of_lines h rs ds)) refl f

  written_back : (out : List ℕ) → length t ≤ length out → (Ok (length t) ≡ written g (length out)) × (put 0 t out ≡ bytes_after g out)
  written_back out l =
      let s = same_bytes t g e in
      count_answer g out judged_read (length t) (put 0 t out) (ap length (sym s)) (subst (λ (x : List ℕ). length x ≤ length out) (sym s) l) (ap (λ (x : List ℕ). put 0 x out) (sym s))

pub text_read : (t : List ℕ) → TextRead t (read_header t)
text_read t =
    record {
      read = (read_told t).zero;
      accepted = judged_read t;
      told = λ g e out l. ap refusal_of (sym (written_back t g e out l).0);
      count = λ g e out l. ap written_count (sym (written_back t g e out l).0);
      bytes = λ g e out l. subst (InFront t out) (written_back t g e out l).1 (put_front t out);
    }

-- ---- writing

module _ (g : Group) (out : List ℕ) where
  counted : (n : ℕ) → written g (length out) ≡ Ok n → (judged g ≡ Ok tt) × (n ≡ length (header_text g)) × (length (header_text g) ≤ length out)
  unfolding written
  counted n e =
      let a = passed_verdict Err (Ok n) (no_answer n) (judged g) _ e in
      let b = passed_if Err (Ok n) (no_answer n) (ltb (length out) (length (header_text g))) 12 0 _ a.1 in
      (a.0, sym (ap written_count b.1), ltb-false (length out) (length (header_text g)) b.0)

  after_count : (n : ℕ) → written g (length out) ≡ Ok n → bytes_after g out ≡ put 0 (header_text g) out
  after_count n e = let c = counted n e in sym (count_answer g out c.0 (length (header_text g)) (put 0 (header_text g) out) refl c.2 refl).1

  unchanged : (q : Refusal) → written g (length out) ≡ Err q → bytes_after g out ≡ out
  unfolding bytes_after
  unchanged q e =
      lent_kept (refusal_of (written g (length out))) (put 0 (header_text g) out) out
      (not_zero _ ((written_told g (length out)).refused (λ c. no_answer c.0 q (sym e ∙ c.1))))

  back : Shaped g → (n : ℕ) → written g (length out) ≡ Ok n → read_header (take n (bytes_after g out)) ≡ Ok g
  back s n e =
      let c = counted n e in
      ap read_header ((λ i. take (c.1 i) (after_count n e i)) ∙ (put_front (header_text g) out).front) ∙ same_group g s c.0

  behind : (n : ℕ) → written g (length out) ≡ Ok n → drop n (bytes_after g out) ≡ drop n out
  behind n e =
      let c = counted n e in
      (λ i. drop (c.1 i) (after_count n e i)) ∙ (put_front (header_text g) out).behind ∙ ap (λ (k : ℕ). drop k out) (sym c.1)

pub text_written : (g : Group) → Shaped g → (out : List ℕ) → TextWritten g out (written g (length out)) (bytes_after g out)
text_written g s out =
    let counts = (written_told g (length out)).zero in
    record {
      back = λ z. let c = counts z in ap (λ (n : ℕ). read_header (take n (bytes_after g out))) (ap written_count c.1) ∙ back g out s c.0 c.1;
      behind = λ z.
          let c = counts z in let n = ap written_count c.1 in
          ap (λ (k : ℕ). drop k (bytes_after g out)) n ∙ behind g out c.0 c.1 ∙ ap (λ (k : ℕ). drop k out) (sym n);
      unchanged = λ n. by_answer n (written g (length out)) refl;
    }
  where
    by_answer : ((refusal_of (written g (length out))).number ≡ 0 → ⊥) → (w : Result ℕ Refusal) → written g (length out) ≡ w → bytes_after g out ≡ out
    by_answer n (Ok k) e = absurd (n (ap (λ (w : Result ℕ Refusal). (refusal_of w).number) e))
    by_answer n (Err q) e = unchanged g out q e

-- ---- a record and its text

pub judged_as_text : (g : Group) → Formed g → JudgedAsText g
judged_as_text g f =
    record {
      refused = λ r e. as_text g f ∙ ap (verdict_reading g) e;
      accepted = λ e. as_text g f ∙ ap (verdict_reading g) e;
    }
