-- An accepted lookup answers the fix in the chosen grid: no stage before it refuses.
use Prim.Native.Nat.{ℕ, zero, suc, ◌<◌}
use mathlib.Core.Path.{◌≡◌, refl, sym, ap}
use mathlib.Core.Bool.{false, not}
use mathlib.Core.List.{List}
use native.Mathlib.Omega.{arith}
use borrow.Author.Tests.{not-false}
use lib.IntN.{ℤ}
use lib.ListN.{length}
use Rattle.group.specs.declared.Group.{Group}
use Rattle.group.specs.declared.Point.{Point}
use Rattle.group.specs.Record.{grid_at}
use Rattle.group.proofs.RefusalLaws.{passed_if, passed_first, passed_verdict, no_answer, ok_same}
use Rattle.judge.specs.Judge.{judged}
use Rattle.ingroup.specs.InGroup.{chosen_in}
use Rattle.group.specs.Numbers.{is_mark, day_fits}
use Rattle.cell.specs.Cell.{is_beyond}
use Rattle.day.specs.Day.{factor_of}
use Rattle.fix.specs.declared.Offset.{Offset}
use Rattle.fix.specs.declared.Fix.{Fix}
use Rattle.fix.specs.Answers.{result_in}
use Rattle.fix.specs.Fix.{corner_some, result_at, fix_in}
use Rattle.lookup.specs.Lookup.{point_fits, ends_early, offset_of, fix_at, looked_in, looked, LookupReady}
use Rattle.std.specs.Prelude.{Ok, Err}

choice_stage : (c : ℕ) (offset : ℕ → Offset) (nodes : List ℤ) (factor : ℤ) (f : Fix) → fix_at c offset nodes factor ≡ Ok f
    → (k : ℕ) × ((c ≡ suc k) × (fix_in (offset k) nodes factor (suc k) ≡ Ok f))
unfolding fix_at
choice_stage zero offset nodes factor f e = absurd (no_answer f _ e)
choice_stage (suc k) offset nodes factor f e = (k, (refl, e))

-- what is known of an accepted lookup: grid k, from 0, is chosen, and no used corner is the mark or beyond the limits
pub record Found (g : Group) (nodes : List ℤ) (p : Point) (t : ℤ) (f : Fix) : Type 0 where
  pub k : ℕ
  pub ready : LookupReady g (length nodes) p t
  pub chosen : chosen_in g p.lon.0 p.lat.0 ≡ suc k
  pub no_mark : corner_some is_mark (offset_of (grid_at g k) g.parameters p) nodes ≡ false
  pub no_beyond : corner_some is_beyond (offset_of (grid_at g k) g.parameters p) nodes ≡ false
  pub number : f.grid ≡ suc k
  pub results : (q : ℕ) → q < 3 → result_in f q ≡ result_at (offset_of (grid_at g k) g.parameters p) nodes (factor_of g.function g.functions t) q

each : (f : Fix) (r : ℕ → ℤ) (n : ℕ) → ◌≡◌ {A = Fix} (record { grid = n; first = r 0; second = r 1; third = r 2 }) f → (q : ℕ) → q < 3 → result_in f q ≡ r q
each f r n w zero h = ap (λ (x : Fix). x.first) (sym w)
each f r n w (suc zero) h = ap (λ (x : Fix). x.second) (sym w)
each f r n w (suc (suc zero)) h = ap (λ (x : Fix). x.third) (sym w)
each f r n w (suc (suc (suc q))) h = absurd (omega arith)

pub found : (g : Group) (nodes : List ℤ) (p : Point) (t : ℤ) (f : Fix) → looked g nodes p t ≡ Ok f → Found g nodes p t f
unfolding looked looked_in fix_in
found g nodes p t f e =
    let a = passed_verdict Err (Ok f) (no_answer f) (judged g) (looked_in g nodes p t) e in
    let b = passed_if Err (Ok f) (no_answer f) (not (point_fits p)) 6 0 _ a.1 in
    let c = passed_if Err (Ok f) (no_answer f) (not (day_fits t)) 9 0 _ b.1 in
    let d = passed_first Err (Ok f) (no_answer f) (ends_early g (length nodes)) g.grids 13 1 _ c.1 in
    let s = choice_stage (chosen_in g p.lon.0 p.lat.0) (λ k. offset_of (grid_at g k) g.parameters p) nodes (factor_of g.function g.functions t) f d.1 in
    let k = s.0 in let l = offset_of (grid_at g k) g.parameters p in
    let m = passed_if Err (Ok f) (no_answer f) (corner_some is_mark l nodes) 8 0 _ s.1.1 in
    let n = passed_if Err (Ok f) (no_answer f) (corner_some is_beyond l nodes) 11 0 _ m.1 in
    let w = ok_same _ f n.1 in
    record {
      k = k;
      ready =
          record {
            accepted = a.0;
            point = not-false (point_fits p) b.0;
            day = not-false (day_fits t) c.0;
            ends = d.0;
          };
      chosen = s.1.0;
      no_mark = m.0;
      no_beyond = n.0;
      number = ap (λ (x : Fix). x.grid) (sym w);
      results = each f (result_at l nodes (factor_of g.function g.functions t)) (suc k) w;
    }
