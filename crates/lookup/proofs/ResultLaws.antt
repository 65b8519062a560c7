-- The results of an accepted lookup: how near they are, within what range, at a node, with no functions, and how large.
use Prim.Native.Nat.{ℕ, zero, suc, ◌*◌, ◌≤◌, ◌<◌}
use mathlib.Core.Path.{◌≡◌, refl, sym, ap, ◌∙◌, subst}
use mathlib.Core.List.{List}
use native.Mathlib.Omega.{arith}
use native.Mathlib.Decide.{dec_lt}
use borrow.Author.Tests.{lt-ltb, le-ltb}
use lib.IntN.{ℤ, pos, ◌+ℤ◌, ◌-ℤ◌, ◌*ℤ◌, nat_abs, +ℤ_comm, +ℤ-neg_ℤ_cancel}
use Rattle.numbers.proofs.OrderLaws.{size_mul}
use Rattle.group.specs.declared.Group.{Group}
use Rattle.group.specs.declared.Point.{Point}
use Rattle.group.specs.Numbers.{result_most}
use Rattle.group.specs.Record.{grid_at}
use Rattle.extent.specs.Extent.{lon_span, lon_used}
use Rattle.judge.proofs.Accepted.{accepted, accepted_head}
use Rattle.cell.proofs.ValueLaws.{value_half_step, value_least, value_most_lem}
use Rattle.day.specs.Day.{factor_of, result_of}
use Rattle.day.proofs.DayLaws.{factor_none, factor_bound, result_plain, result_bound}
use Rattle.fix.specs.declared.Offset.{Offset}
use Rattle.fix.specs.declared.Fix.{Fix}
use Rattle.fix.specs.Answers.{result_in}
use Rattle.fix.specs.Fix.{node_at, corners_of, value_in, result_at}
use Rattle.fix.specs.Inside.{InsideGrid}
use Rattle.fix.proofs.OffsetLaws as P
use Rattle.fix.proofs.NodeLaws.{value_node}
use Rattle.lookup.specs.Lookup.{offset_of, looked}
use Rattle.lookup.specs.Demand2.{seen_from, BestGrid, Answered}
use Rattle.lookup.proofs.OffsetLaws.{offset_inside}
use Rattle.lookup.proofs.BestLaws.{chosen_is_best}
use Rattle.lookup.proofs.FoundLaws.{Found, found}
use Rattle.std.specs.Prelude.{Ok}

-- how far a node lies from the first one
node_distance : (x a s : ℤ) (i : ℕ) → x ≡ a +ℤ pos i *ℤ s → nat_abs (x -ℤ a) ≡ i * nat_abs s
node_distance x a s i e =
    ap (λ (z : ℤ). nat_abs (z -ℤ a)) (e ∙ +ℤ_comm a (pos i *ℤ s)) ∙ ap nat_abs (+ℤ-neg_ℤ_cancel (pos i *ℤ s) a) ∙ size_mul (pos i) s

module _ (g : Group) (nodes : List ℤ) (p : Point) (t : ℤ) (f : Fix) (e : looked g nodes p t ≡ Ok f) where
  abbrev w : Found g nodes p t f
  w = found g nodes p t f e

  abbrev l : Offset
  l = seen_from g p w.k

  pub best : BestGrid g p w.k
  best = chosen_is_best g p w.ready.accepted w.ready.point w.k w.chosen

  inside : InsideGrid l
  inside = offset_inside g w.ready.accepted p w.k best.among best.held

  in_offset : (q : ℕ) → q < g.parameters → q < l.np
  unfolding offset_of
  in_offset q h = h

  result_is : (q : ℕ) → q < g.parameters → q < 3 → result_in f q ≡ result_of (value_in l nodes q) (factor_of g.function g.functions t)
  unfolding result_at
  result_is q h m = w.results q m ∙ rw (lt-ltb q l.np (in_offset q h)) refl

  pub answered : (q : ℕ) → q < g.parameters → Answered g nodes p t l q (result_in f q)
  unfolding value_in
  answered q h =
      let a = w.ready.accepted in let n = (accepted_head g a).parameters in
      let r = result_is q h (omega arith) in let c = P.cell_weighed inside in let v = corners_of l nodes q in
      record {
        result = r;
        near = value_half_step c v;
        least = value_least c v;
        most = value_most_lem c v;
        plain = λ none. r ∙ ap (result_of (value_in l nodes q)) (factor_none g.function t g.functions none) ∙ result_plain (value_in l nodes q);
        small =
            subst (λ (z : ℤ). nat_abs z ≤ result_most) (sym r)
            (result_bound (value_in l nodes q) _ (P.value_most_lem inside nodes w.no_beyond q (in_offset q h))
            (factor_bound g.function t g.functions (accepted_head g a).functions (accepted g a).function));
      }

  -- at node (i, j) of the chosen grid the value is the node's, whatever the cell's other corners hold
  pub at_node : (i j q : ℕ) → i < (grid_at g w.k).ni → j < (grid_at g w.k).nj → q < g.parameters
      → lon_used (lon_span (grid_at g w.k)) p.lon.0 ≡ (grid_at g w.k).lon.0 +ℤ pos i *ℤ (grid_at g w.k).dlon
      → p.lat.0 ≡ (grid_at g w.k).lat.0 +ℤ pos j *ℤ (grid_at g w.k).dlat
      → result_in f q ≡ result_of (node_at l nodes i j q) (factor_of g.function g.functions t)
  unfolding offset_of
  at_node i j q hi hj hq ex ey =
      let c = grid_at g w.k in
      (answered q hq).result
      ∙ ap (λ (z : ℤ). result_of z (factor_of g.function g.functions t))
      (value_node inside nodes q i j hi hj (node_distance (lon_used (lon_span c) p.lon.0) c.lon.0 c.dlon i ex) (node_distance p.lat.0 c.lat.0 c.dlat j ey))

  -- the results behind NP are 0
  pub rest_zero : (q : ℕ) → g.parameters ≤ q → result_in f q ≡ pos 0
  unfolding result_at offset_of
  rest_zero q h = elim (dec_lt q 3) [ yes lt ↦ w.results q lt ∙ rw (le-ltb q g.parameters h) refl | no ge ↦ past q (omega arith) ]
    where
      past : (q : ℕ) → 3 ≤ q → result_in f q ≡ pos 0
      past zero m = absurd (omega arith)
      past (suc zero) m = absurd (omega arith)
      past (suc (suc zero)) m = absurd (omega arith)
      past (suc (suc (suc q))) m = refl
