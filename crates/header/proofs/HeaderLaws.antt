-- What the code meets once the lines of a text are read, and once a group is judged for writing.
use Prim.Native.Nat.{ℕ, ◌+◌, ◌<◌, ◌≤◌}
use mathlib.Core.Path.{◌≡◌, refl, sym, ap, ◌∙◌}
use mathlib.Core.List.{List, [], ◌∷◌, ◌++◌}
use native.Mathlib.Omega.{arith}
use lib.ListN.{length, take, drop, length-take}
use lib.Seq.{take-append_seam}
use borrow.Author.Tests.{lt-ltb, le-ltb}
use lib.Dec.{ltb}
use Rattle.text.specs.Put.{put}
use Rattle.text.specs.Wrote.{Wrote}
use Rattle.group.specs.declared.Function.{Function}
use Rattle.group.specs.declared.Grid.{Grid}
use Rattle.group.specs.declared.Group.{Group}
use Rattle.group.specs.Refusals.{refusal, no_refusal, refuse_if, lent_after, refusal_of}
use Rattle.group.proofs.RefusalLaws.{if_here, if_past, not_zero, lent_new, lent_kept}
use Rattle.header.specs.Items.{closed}
use Rattle.line.specs.Lines.{head_text, function_text, grid_text}
use Rattle.group.specs.declared.Refusal.{Refusal}
use Rattle.judge.specs.Judge.{judged}
use Rattle.judge.proofs.TableLaws.{judged_table}
use Rattle.header.specs.Whole.{Header, stopped, header, read_lines, group_of_lines, lines_reading, head_of_group, header_text}
use Rattle.header.specs.Header.{verdict_reading, judged_reading, read_header, written, bytes_after}
use Rattle.std.specs.Prelude.{Result, Ok, Err, ⊤}

module _ (t : List ℕ) (q : Result Group Refusal) (e : q ≡ lines_reading (read_lines t)) where
  pub lines_refused : (r : Refusal) → q ≡ Err r → Err r ≡ read_header t
  unfolding read_header
  lines_refused r v = go (read_lines t) (sym v ∙ e)
    where
      go : (x : Header Function Grid) → Err r ≡ lines_reading x → Err r ≡ judged_reading x
      go (stopped s) f = f
      go (header h rs ds) f = cc

  pub judged_as : (g : Group) → q ≡ Ok g → read_header t ≡ verdict_reading g (judged g)
  unfolding read_header
  judged_as g v = go (read_lines t) (sym v ∙ e)
    where
      go : (x : Header Function Grid) → Ok g ≡ lines_reading x → judged_reading x ≡ verdict_reading g (judged g)
      go (stopped s) f = cc
      go (header h rs ds) f = let m : g ≡ group_of_lines h rs ds = cc in sym (λ i. verdict_reading (m i) (judged (m i)))

  module _ (g : Group) (w : q ≡ Ok g) (v : Result ⊤ Refusal) (j : v ≡ judged g) where
    pub header_refused : (r : Refusal) → v ≡ Err r → Err r ≡ read_header t
    header_refused r f = sym (judged_as g w ∙ ap (verdict_reading g) (sym j ∙ f))

    pub header_accepted : v ≡ Ok tt → q ≡ read_header t
    header_accepted f = w ∙ sym (judged_as g w ∙ ap (verdict_reading g) (sym j ∙ f))

-- ---- writing

-- the three runs of lines of a group
module _ (g : Group) where
  abbrev pub head_run : List ℕ
  head_run = head_text (head_of_group g) ++ (10 ∷ [])

  abbrev pub function_run : List ℕ
  function_run = closed function_text (take g.functions g.function)

  abbrev pub grid_run : List ℕ
  grid_run = closed grid_text (take g.grids g.grid)

  pub runs_wrote : (out : List ℕ) (n : ℕ) (after : List ℕ) → Wrote 0 (head_run ++ (function_run ++ grid_run)) out n after → Wrote 0 (header_text g) out n after
  unfolding header_text
  runs_wrote out n after w = w

  pub runs_room : (out : List ℕ) → length (header_text g) ≤ length out → 0 + length (head_run ++ (function_run ++ grid_run)) ≤ length out
  unfolding header_text
  runs_room out h = omega arith

-- the bytes in front, after a text was written there
pub front_of : (t out : List ℕ) (n : ℕ) (after : List ℕ) → Wrote 0 t out n after → take n after ≡ t
unfolding put
front_of t out n after w =
    let p = w.place in
    let e : n ≡ length t = omega arith in
    (λ i. take (e i) (w.holds i)) ∙ take-append_seam t (drop (0 + length t) out)

pub front_le : (t out : List ℕ) (n : ℕ) (after : List ℕ) → Wrote 0 t out n after → n ≤ length after
front_le t out n after w =
    let p = w.place in
    let f = ap length (front_of t out n after w) in
    let l = length-take n after in
    omega arith

module _ (g : Group) (out : List ℕ) where
  -- what is left, by the answer
  left : (w : Result ℕ Refusal) → w ≡ written g (length out) → lent_after (refusal_of w) (put 0 (header_text g) out) out ≡ bytes_after g out
  unfolding bytes_after
  left w e = ap (λ (x : Result ℕ Refusal). lent_after (refusal_of x) (put 0 (header_text g) out) out) e

  pub refused_answer : (r : Refusal) → judged g ≡ Err r → (Err r ≡ written g (length out)) × (out ≡ bytes_after g out)
  unfolding written
  refused_answer r e =
      let a : Err r ≡ written g (length out) = rw e refl in
      (a, sym (lent_kept r (put 0 (header_text g) out) out (not_zero r.number (judged_table g r e))) ∙ left (Err r) a)

  module _ (e : judged g ≡ Ok tt) where
    fitted : written g (length out) ≡ refuse_if Err (ltb (length out) (length (header_text g))) 12 0 (Ok (length (header_text g)))
    unfolding written
    fitted = rw e refl

    pub short_answer : length out < length (header_text g) → (Err (refusal 12 0) ≡ written g (length out)) × (out ≡ bytes_after g out)
    short_answer h =
        let a = sym (fitted ∙ if_here Err (ltb (length out) (length (header_text g))) 12 0 _ (lt-ltb _ _ h)) in
        (a, sym (lent_kept (refusal 12 0) (put 0 (header_text g) out) out (not_zero 12 refl)) ∙ left (Err (refusal 12 0)) a)

    pub count_answer : (n : ℕ) (after : List ℕ) → n ≡ length (header_text g) → length (header_text g) ≤ length out → after ≡ put 0 (header_text g) out → (Ok n ≡ written g (length out)) × (after ≡ bytes_after g out)
    count_answer n after p h q =
        let a = ap Ok p ∙ sym (fitted ∙ if_past Err (ltb (length out) (length (header_text g))) 12 0 _ (le-ltb _ _ h)) in
        (a, q ∙ sym (lent_new no_refusal (put 0 (header_text g) out) out refl) ∙ left (Ok n) a)
