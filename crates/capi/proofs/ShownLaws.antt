-- Every result of an accepted lookup is shown exactly, by the library's calls and by the C functions.
use Prim.Native.Nat.{ℕ, zero, suc, ◌^◌, ◌≤◌}
use mathlib.Core.Path.{◌≡◌, refl, sym, ap, subst}
use mathlib.Core.Bool.{true}
use mathlib.Core.List.{List}
use native.Mathlib.Nat.{le_trans}
use lib.Dec.{lit≤}
use lib.IntN.{ℤ, nat_abs}
use Rattle.numbers.specs.Order.{within}
use Rattle.numbers.proofs.Bools.{and_left, and_right}
use Rattle.numbers.proofs.OrderLaws.{within_size}
use Rattle.group.specs.Numbers.{lon_most, lat_most}
use Rattle.group.specs.declared.Group.{Group}
use Rattle.group.specs.declared.Point.{Point}
use Rattle.group.specs.declared.Refusal.{Refusal}
use Rattle.judge.proofs.LimitLaws.{parameters_between}
use Rattle.judge.proofs.Accepted.{accepted}
use Rattle.fix.specs.declared.Fix.{Fix}
use Rattle.fix.specs.Answers.{result_in, results_of}
use Rattle.lookup.specs.Lookup.{point_fits, looked}
use Rattle.lookup.proofs.FoundLaws.{found}
use Rattle.lookup.proofs.ResultLaws.{answered}
use Rattle.lookup.proofs.TableLaws.{zero_fix}
use Rattle.screen.specs.Screen.{answer_of}
use Rattle.screen.specs.Shown.{Times, shift_at, ShowsResults}
use Rattle.screen.proofs.ShownLaws.{shown_exactly, record_shown}
use Rattle.abi.specs.Abi.{group_of_words, number_at}
use Rattle.lookup.specs.Answer.{answer_record}
use Rattle.capi.specs.Answers.{fix_numbers, found_answer, point_of, lookup_answer}
use Rattle.capi.specs.Screen.{lookup_of, shown_of}
use Rattle.capi.specs.Shown.{LookupShown, LeftShown}
use Rattle.std.specs.Prelude.{Result, Ok}
use Rattle.group.specs.Refusals.{refusal_of}

-- ---- the library's calls

-- every admitted longitude and latitude is at most 2^53 in size
point_sizes : (p : Point) → point_fits p ≡ true → (nat_abs p.lon.0 ≤ 2 ^ 53) × (nat_abs p.lat.0 ≤ 2 ^ 53)
point_sizes p e =
    let x = within lon_most p.lon.0 in let y = within lat_most p.lat.0 in
    (le_trans (within_size lon_most p.lon.0 (and_left x y e)) (lit≤ tt), le_trans (within_size lat_most p.lat.0 (and_right x y e)) (lit≤ tt))

module _ (g : Group) (nodes : List ℤ) (p : Point) (t : ℤ) (q : ℕ) where
  fix_shown : (f : Fix) → looked g nodes p t ≡ Ok f → q ≤ 20 → ShowsResults (result_in f) q g.parameters (answer_of (Ok f) q g.parameters)
  fix_shown f e k =
      let n = parameters_between g (accepted g (found g nodes p t f e).ready.accepted).head in
      shown_exactly f q g.parameters k n.0 n.1 (λ i l. le_trans (answered g nodes p t f e i l).small (lit≤ tt))

  pub lookup_shown : (refusal_of (looked g nodes p t)).number ≡ 0 → q ≤ 20 → LookupShown g nodes p t q
  lookup_shown z k =
      let u = (zero_fix g nodes p t).0 z in
      let r = subst (λ (a : Result Fix Refusal). ShowsResults (results_of a) q g.parameters (answer_of a q g.parameters)) (sym u.1) (fix_shown u.0 u.1 k) in
      record {
        results = r;
        point = record_shown p (looked g nodes p t) q g.parameters (ap (λ (s : Refusal). s.number) r.accepted);
        sizes = point_sizes p (found g nodes p t u.0 u.1).ready.point;
      }

-- ---- the C functions

-- the results of a fix among its four numbers
among : (f : Fix) (p : ℕ) → result_in f p ≡ number_at (fix_numbers (answer_record (Ok f))) (suc p)
among f zero = refl
among f (suc zero) = refl
among f (suc (suc zero)) = refl
among f (suc (suc (suc p))) = refl

of_fix : (f : Fix) (q np : ℕ) → ShowsResults (result_in f) q np (answer_of (Ok f) q np) → LeftShown (found_answer (answer_record (Ok f))) q np
unfolding shown_of lookup_of
of_fix f q np r =
    record {
      accepted = r.accepted;
      exact = λ p l. subst (Times (shift_at (answer_of (Ok f) q np) p) (2 ^ q)) (among f p) (r.exact p l);
      missing = r.missing;
    }

pub left_shown : (group nodes : List ℤ) (lon lat day : ℤ) (q : ℕ) → (lookup_answer group nodes lon lat day).refusal.number ≡ 0 → q ≤ 20
    → LeftShown (lookup_answer group nodes lon lat day) q (group_of_words group).parameters
unfolding lookup_answer
left_shown group nodes lon lat day q z k =
    let g = group_of_words group in
    let u = (zero_fix g nodes (point_of lon lat) day).0 z in
    subst (λ (a : Result Fix Refusal). LeftShown (found_answer (answer_record a)) q g.parameters) (sym u.1)
    (of_fix u.0 q g.parameters (fix_shown g nodes (point_of lon lat) day q u.0 u.1 k))
