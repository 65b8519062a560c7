-- Our own writer: what it comes to, and that its line is the one line which says of a position what the lookup says.
use Prim.Native.Nat.{ℕ, suc, ◌-◌, ◌≤◌, ◌<◌}
use mathlib.Core.Path.{◌≡◌, refl, sym, ap, ◌∙◌, subst}
use mathlib.Core.Bool.{true}
use mathlib.Core.List.{List, [], ◌∷◌, ◌++◌}
use mathlib.Core.Logic.{inl, inr, ◌↔◌}
use native.Mathlib.Decide.{dec_lt}
use native.Mathlib.Omega.{arith}
use lib.IntN.{ℤ, pos}
use lib.ListN.{length, take, drop}
use Rattle.text.specs.Put.{put}
use Rattle.group.specs.declared.Group.{Group}
use Rattle.group.specs.declared.Position.{Position}
use Rattle.group.specs.declared.Refusal.{Refusal}
use Rattle.group.specs.Record.{grid_at}
use Rattle.group.specs.Refusals.{refusal, no_refusal, refusal_of}
use Rattle.judge.proofs.Accepted.{accepted}
use Rattle.line.specs.Names.{is_name}
use Rattle.line.proofs.NameLaws.{fits_is_name}
use Rattle.line.proofs.KindLaws.{grid_name_lem}
use Rattle.abi.specs.Abi.{list_of}
use Rattle.abi.proofs.ListLaws.{length_list_of, get_or_list_of, list_of_is}
use Rattle.fix.specs.declared.Fix.{Fix}
use Rattle.fix.specs.Answers.{lookup_grid, result_in, results_of}
use Rattle.lookup.specs.Lookup.{looked}
use Rattle.lookup.specs.Demand2.{TableRow, NothingRefused, ◌then◌}
use Rattle.lookup.proofs.RowLaws.{Single, single_then, single_row, single_none}
use Rattle.lookup.proofs.RefusedLaws.{refused_exactly}
use Rattle.exercise.specs.Exercise.{point_at}
use Rattle.header.specs.Header.{written_count}
use Rattle.header.proofs.Demand2.{put_front}
use Rattle.logs.specs.Line.{entry_text, grid_name}
use Rattle.logs.specs.Writing.{line_most, entry_found, line_text, found_written, found_after, line_written, line_after}
use Rattle.logs.specs.Order4.{found_for, LookupRefuses, written_bytes, OwnLine, LineWritten}
use Rattle.logs.proofs.LengthLaws.{fix_found, text_most}
use Rattle.logs.proofs.WrittenLaws.{fix_short, fix_count, lookup_refused}
use Rattle.logs.proofs.KindLaws.{refused_some, the_grid}
use Rattle.std.specs.Prelude.{Result, Ok, Err}

-- ---- the line of a fix

module _ (g : Group) (nodes : List ℤ) (p : Position) (f : Fix) (h : looked g nodes (point_at p) p.day ≡ Ok f) where
  name_good : is_name (grid_name g f.grid) ≡ true
  name_good =
      let w = fix_found g nodes p f h in
      let s = w.some in let m = w.among in
      let d = grid_at g (f.grid - 1) in
      fits_is_name d.name (grid_name_lem d ((accepted g w.accepted).grid (f.grid - 1) (omega arith)))

  own_line : OwnLine g nodes p (line_text g p f)
  unfolding line_text
  own_line =
      let s = (fix_found g nodes p f h).some in
      let k : f.grid ≡ suc (f.grid - 1) = omega arith in
      record {
        e = entry_found g p f;
        at = refl;
        bytes_are = refl;
        says = record { text = refl; name = name_good; values = length_list_of (result_in f) g.parameters };
        accepted = ap refusal_of h;
        named = (f.grid - 1, ap lookup_grid h ∙ k, refl);
        equal = λ q l. get_or_list_of (result_in f) g.parameters q (pos 0) l ∙ ap (λ (r : Result Fix Refusal). results_of r q) (sym h);
      }

  -- and it is the only one
  only_line : (line : List ℕ) → OwnLine g nodes p line → line ≡ line_text g p f
  unfolding line_text
  only_line line o =
      let e = o.e in
      let t : found_for g nodes e ≡ Ok f = ap (λ (x : Position). looked g nodes (point_at x) x.day) o.at ∙ h in
      let n : e.name ≡ grid_name g f.grid = o.named.2 ∙ sym (the_grid g nodes e f t o.named.0 o.named.1) in
      let s : list_of (result_in f) g.parameters ≡ e.shifts
      = list_of_is (result_in f) (pos 0) g.parameters e.shifts o.says.values (λ q l. sym (o.equal q l ∙ ap (λ (r : Result Fix Refusal). results_of r q) t)) in
      o.bytes_are ∙ (λ i. entry_text (record { position = o.at i; name = n i; shifts = sym s i }) ++ 10 ∷ [])

-- ---- what writing it comes to

data Outcome (g : Group) (nodes : List ℤ) (p : Position) (out : List ℕ) : Type 0 where
  refusing : (r : Refusal) → looked g nodes (point_at p) p.day ≡ Err r → line_written g nodes p (length out) ≡ Err r → line_after g nodes p out ≡ out
      → Outcome g nodes p out
  short : (f : Fix) → looked g nodes (point_at p) p.day ≡ Ok f → length out < length (line_text g p f)
      → line_written g nodes p (length out) ≡ Err (refusal 12 0) → line_after g nodes p out ≡ out → Outcome g nodes p out
  whole : (f : Fix) → looked g nodes (point_at p) p.day ≡ Ok f → length (line_text g p f) ≤ length out
      → line_written g nodes p (length out) ≡ Ok (length (line_text g p f)) → line_after g nodes p out ≡ put 0 (line_text g p f) out → Outcome g nodes p out

outcome : (g : Group) (nodes : List ℤ) (p : Position) (out : List ℕ) → Outcome g nodes p out
unfolding line_written line_after
outcome g nodes p out = go (looked g nodes (point_at p) p.day) refl
  where
    go : (l : Result Fix Refusal) → looked g nodes (point_at p) p.day ≡ l → Outcome g nodes p out
    go (Err r) h = let w = lookup_refused g nodes p r h out in refusing r h (sym w.0) (sym w.1)
    go (Ok f) h =
        let a = ap (found_written g p (length out)) h in
        let b = ap (λ (l : Result Fix Refusal). found_after g p l out) h in
        elim (dec_lt (length out) (length (line_text g p f))) [
          | yes l ↦ let w = fix_short g p f out l in short f h l (a ∙ sym w.0) (b ∙ sym w.1)
          | no l ↦
              let w = fix_count g p f out (length (line_text g p f)) (put 0 (line_text g p f) out) refl (omega arith) refl in
              whole f h (omega arith) (a ∙ sym w.0) (b ∙ sym w.1)
        ]

-- ---- its refusals

module _ (g : Group) (nodes : List ℤ) (p : Position) (out : List ℕ) where
  abbrev TooShort : Type 0
  TooShort = (line : List ℕ) × OwnLine g nodes p line × (length out < length line)

  abbrev RefusesLine : Refusal → Type 0
  RefusesLine = LookupRefuses g nodes p then TableRow 12 TooShort then NothingRefused

  -- an accepted lookup refuses nothing
  none_refused : (f : Fix) → looked g nodes (point_at p) p.day ≡ Ok f → (r : Refusal) → LookupRefuses g nodes p r → ⊥
  none_refused f h r w = w.1 (sym ((refused_exactly g nodes (point_at p) p.day r).1 w.0) ∙ ap refusal_of h)

  stands : Outcome g nodes p out → RefusesLine (refusal_of (line_written g nodes p (length out)))
  stands (refusing r h w a) =
      subst RefusesLine (sym (ap refusal_of w)) (inl ((refused_exactly g nodes (point_at p) p.day r).0 (ap refusal_of h), refused_some g nodes p r h))
  stands (short f h l w a) =
      subst RefusesLine (sym (ap refusal_of w)) (inr (none_refused f h, inl (refl, (line_text g p f, own_line g nodes p f h, l))))
  stands (whole f h l w a) =
      subst RefusesLine (sym (ap refusal_of w)) (inr (none_refused f h, inr (λ r t. long_enough t.1, refl)))
    where
      long_enough : TooShort → ⊥
      long_enough t = let q = ap length (only_line g nodes p f h t.0 t.1) in let b = t.2 in omega arith

  in_one_way : Single RefusesLine
  in_one_way =
      single_then _ _ (λ r s v w. sym ((refused_exactly g nodes (point_at p) p.day r).1 v.0) ∙ (refused_exactly g nodes (point_at p) p.day s).1 w.0)
      (single_then _ _ (single_row 12 TooShort) single_none)

  line_refused : (r : Refusal) → (refusal_of (line_written g nodes p (length out)) ≡ r) ↔ RefusesLine r
  line_refused r = (λ e. subst RefusesLine e (stands (outcome g nodes p out)), λ h. in_one_way _ r (stands (outcome g nodes p out)) h)

  -- ---- what it leaves

  -- an accepted writing
  wrote : Outcome g nodes p out → refusal_of (line_written g nodes p (length out)) ≡ no_refusal
      → (f : Fix) × (looked g nodes (point_at p) p.day ≡ Ok f) × (line_written g nodes p (length out) ≡ Ok (length (line_text g p f)))
      × (line_after g nodes p out ≡ put 0 (line_text g p f) out)
  wrote (refusing r h w a) z = absurd (refused_some g nodes p r h (sym (ap refusal_of w) ∙ z))
  wrote (short f h l w a) z = absurd (let q = ap (λ (r : Refusal). r.number) (sym (ap refusal_of w) ∙ z) in omega arith)
  wrote (whole f h l w a) z = (f, h, w, a)

  kept : Outcome g nodes p out → (refusal_of (line_written g nodes p (length out)) ≡ no_refusal → ⊥) → line_after g nodes p out ≡ out
  kept (refusing r h w a) n = a
  kept (short f h l w a) n = a
  kept (whole f h l w a) n = absurd (n (ap refusal_of w))

  module _ (z : refusal_of (line_written g nodes p (length out)) ≡ no_refusal) where
    abbrev text : List ℕ
    text = line_text g p (wrote (outcome g nodes p out) z).0

    pub written_fix : (f : Fix) × (looked g nodes (point_at p) p.day ≡ Ok f)
    written_fix = let w = wrote (outcome g nodes p out) z in (w.0, w.1)

    written_text : written_bytes g nodes p out ≡ text
    written_text =
        let w = wrote (outcome g nodes p out) z in
        (λ i. take (written_count (w.2 i)) (w.3 i)) ∙ (put_front text out).front

    pub written_own : OwnLine g nodes p (written_bytes g nodes p out)
    written_own = let w = wrote (outcome g nodes p out) z in subst (OwnLine g nodes p) (sym written_text) (own_line g nodes p w.0 w.1)

    written_only : (bytes : List ℕ) → OwnLine g nodes p bytes → bytes ≡ written_bytes g nodes p out
    written_only bytes o = let w = wrote (outcome g nodes p out) z in only_line g nodes p w.0 w.1 bytes o ∙ sym written_text

    written_counted : length (written_bytes g nodes p out) ≡ written_count (line_written g nodes p (length out))
    written_counted = ap length written_text ∙ sym (ap written_count (wrote (outcome g nodes p out) z).2)

    written_behind : drop (written_count (line_written g nodes p (length out))) (line_after g nodes p out) ≡ drop (written_count (line_written g nodes p (length out))) out
    written_behind =
        let w = wrote (outcome g nodes p out) z in
        (λ i. drop (written_count (w.2 i)) (w.3 i)) ∙ (put_front text out).behind ∙ ap (λ (x : Result ℕ Refusal). drop (written_count x) out) (sym w.2)

  -- ---- its length

  most : Outcome g nodes p out → written_count (line_written g nodes p (length out)) ≤ line_most
  most (refusing r h w a) = let q = ap written_count w in omega arith
  most (short f h l w a) = let q = ap written_count w in omega arith
  most (whole f h l w a) = let q = ap written_count w in let m = text_most g p f (fix_found g nodes p f h) in omega arith

  enough : Outcome g nodes p out → line_most ≤ length out
      → refusal_of (line_written g nodes p (length out)) ≡ refusal_of (looked g nodes (point_at p) p.day)
  enough (refusing r h w a) b = ap refusal_of w ∙ sym (ap refusal_of h)
  enough (short f h l w a) b = let m = text_most g p f (fix_found g nodes p f h) in absurd (omega arith)
  enough (whole f h l w a) b = ap refusal_of w ∙ sym (ap refusal_of h)

  pub own_writing : LineWritten g nodes p out
  own_writing =
      let o = outcome g nodes p out in
      record {
        refused = line_refused;
        line = written_own;
        only = written_only;
        count = written_counted;
        behind = written_behind;
        unchanged = kept o;
        most = most o;
        enough = enough o;
      }
