-- The screen's promises, of its own answers: results are shown exactly, degrees are rounded once.
use Rattle.std.proofs.Common.{◌≡◌, ℕ, Result, Err, zero, suc, ◌*◌, ◌^◌, ◌<◌, ◌≤◌, Bool, true, false, not, ℤ, pos, nat_abs, sym, refl, ap, ◌∙◌, subst, mul-one, arith, lit<, lit≤, le-ltb, lt-ltb, le-leb}
use lib.Ieee.{binary64, round, of_int}
use Rattle.numbers.proofs.Bools.{both}
use Rattle.group.specs.declared.Point.{Point}
use Rattle.group.specs.declared.Refusal.{Refusal}
use Rattle.group.proofs.RefusalLaws.{if_past}
use Rattle.fix.specs.declared.Fix.{Fix}
use Rattle.fix.specs.Answers.{result_in}
use Rattle.screen.specs.declared.Shifts.{Shifts}
use Rattle.screen.specs.Screen.{plus_zero, shown_shift, degrees_of, admitted, shown, answer_of, record_of}
use Rattle.screen.specs.Shown.{below_zero, Times, nearest_to, shift_at, ShowsResults, ShowsPoint}
use Rattle.screen.proofs.Exact.{div_at, cast_exact, like, shift_exact}
use Rattle.screen.proofs.TableLaws.{answer_told}
use Rattle.std.specs.Prelude.{Result, Ok}
use Rattle.group.specs.Refusals.{refusal_of}

-- ---- results

-- one shift
shift_shown : (q np p : ℕ) (n : ℤ) → q ≤ 20 → nat_abs n ≤ 2 ^ 53 → p < np → Times (shown_shift q np p n) (2 ^ q) n
unfolding shown_shift
shift_shown q np p n k h l = rw (lt-ltb p np l) (shift_exact n q h k)

shift_missing : (q np p : ℕ) (n : ℤ) → np ≤ p → shown_shift q np p n ≡ plus_zero
unfolding shown_shift
shift_missing q np p n l = rw (le-ltb p np l) refl

module _ (f : Fix) (q np : ℕ) (k : q ≤ 20) (m : np ≤ 3) where
  each : ((p : ℕ) → p < np → nat_abs (result_in f p) ≤ 2 ^ 53) → (p : ℕ) → p < np → Times (shift_at (shown (Ok f) q np) p) (2 ^ q) (result_in f p)
  unfolding shown
  each h zero l = shift_shown q np 0 f.first k (h 0 l) l
  each h (suc zero) l = shift_shown q np 1 f.second k (h 1 l) l
  each h (suc (suc zero)) l = shift_shown q np 2 f.third k (h 2 l) l
  each h (suc (suc (suc p))) l = absurd (omega arith)

  none : (p : ℕ) → np ≤ p → shift_at (shown (Ok f) q np) p ≡ plus_zero
  unfolding shown
  none zero l = shift_missing q np 0 f.first l
  none (suc zero) l = shift_missing q np 1 f.second l
  none (suc (suc zero)) l = shift_missing q np 2 f.third l
  none (suc (suc (suc p))) l = refl

  by_fix : ((p : ℕ) → p < np → nat_abs (result_in f p) ≤ 2 ^ 53) → ShowsResults (result_in f) q np (shown (Ok f) q np)
  unfolding shown
  by_fix h = record { accepted = refl; exact = each h; missing = none }

-- each of the first NP results of a fix, up to 2^53 in size, is shown exactly
pub shown_exactly : (f : Fix) (q np : ℕ) → q ≤ 20 → 1 ≤ np → np ≤ 3 → ((p : ℕ) → p < np → nat_abs (result_in f p) ≤ 2 ^ 53)
    → ShowsResults (result_in f) q np (answer_of (Ok f) q np)
unfolding answer_of
shown_exactly f q np k l m h =
    let t : admitted q np ≡ true = both (le-leb q 20 k) (both (le-leb 1 np l) (le-leb np 3 m)) in
    subst (ShowsResults (result_in f) q np) (sym (if_past Err (not (admitted q np)) 2 0 (shown (Ok f) q np) (ap not t))) (by_fix f q np k m h)

-- ---- degrees

pub degrees_rounded : (mas : ℤ) → nat_abs mas ≤ 2 ^ 53 → degrees_of mas ≡ nearest_to mas 3600000
unfolding degrees_of
degrees_rounded mas h =
    div_at binary64 (of_int binary64 mas) (of_int binary64 (pos 3600000)) (below_zero mas) false (nat_abs mas) 1 3600000 1 (lit< tt) (lit< tt) (lit< tt)
    (cast_exact mas h) (cast_exact (pos 3600000) (lit≤ tt))
    ∙ ap (λ (s : Bool). round binary64 s (nat_abs mas * 1) 3600000) (like (below_zero mas))
    ∙ ap (λ (a : ℕ). round binary64 (below_zero mas) a 3600000) (mul-one (nat_abs mas))

-- the record of an answer that is no refusal
pub record_shown : (point : Point) (found : Result Fix Refusal) (q np : ℕ) → (refusal_of (answer_of found q np)).number ≡ 0
    → ShowsPoint point (answer_of found q np) (record_of point (answer_of found q np))
unfolding record_of
record_shown point found q np z =
    let u = (answer_told found q np).zero z in
    subst (λ (s : Result Shifts Refusal). ShowsPoint point s (record_of point s)) (sym u.1)
    (record {
      longitude = degrees_rounded point.lon.0;
      latitude = degrees_rounded point.lat.0;
      first = refl;
      second = refl;
      third = refl;
    })
