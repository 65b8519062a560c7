-- What the limits of each line say of the sizes of its numbers.
use Prim.Native.Nat.{ℕ, ◌<◌, ◌≤◌}
use mathlib.Core.Path.{◌≡◌, refl}
use mathlib.Core.Bool.{true, ◌&&◌, and-false}
use mathlib.Core.List.{List, [], ◌∷◌}
use native.Mathlib.Omega.{arith}
use lib.Dec.{leb}
use lib.ListN.{length}
use lib.IntN.{ℤ, pos, negsuc, nat_abs}
use lib.Signed.{le_z, lt_z}
use borrow.Author.Tests.{leb-true, lt-leb}
use Rattle.numbers.specs.Order.{between, beyond, count_of}
use Rattle.numbers.proofs.Bools.{and_right, and_parts}
use Rattle.numbers.proofs.OrderLaws.{within_size}
use Rattle.text.proofs.FieldLaws.{false_not_true}
use Rattle.group.specs.Numbers.{lon_edge_most, lat_edge_most, lon_edge_fits, lat_edge_fits, quantum_most, parameters_most, functions_most, grids_most, spacing_most, nodes_least, nodes_most, rank_most, start_most, day_most, day_fits, function_factor_most, function_factor_fits}
use Rattle.group.proofs.LimitLaws.{spacing_size}
use Rattle.group.specs.Limits.{spacing_fits, head_numbers_fit, ramp_numbers_fit, step_numbers_fit, ramp2_numbers_fit, origin_fits, counts_fit, name_fits, shape_fits, grid_fits}
use Rattle.group.specs.Shapes.{shape_ints}
use Rattle.group.specs.declared.Name.{Name}
use Rattle.group.specs.declared.Unit as U
use Rattle.group.specs.declared.Shape.{Shape}
use Rattle.group.specs.declared.Shape.TheVariants as S
use Rattle.line.specs.Lines.{head_fit, head_of, grid_fit, grid_of}
use Rattle.line.specs.Counted.{counted_head, counted_grid}
use Rattle.line.proofs.LineLaws.{Small, four_of_lem, eight_of}

-- a number of a span that begins at 0 or above
pub count_in : (lo hi : ℕ) (z : ℤ) → between (pos lo) (pos hi) z ≡ true → (nat_abs z ≤ hi) × (pos (nat_abs z) ≡ z)
count_in lo hi (pos n) e = (leb-true n hi (and_right (leb lo n) (leb n hi) e), refl)
count_in lo hi (negsuc n) e = false_not_true e

module _ (a b c d : ℤ) where
  pub head_sizes : head_numbers_fit a b c d ≡ true → ((nat_abs a ≤ quantum_most) × (pos (nat_abs a) ≡ a)) × ((nat_abs b ≤ parameters_most) × (pos (nat_abs b) ≡ b)) × ((nat_abs c ≤ functions_most) × (pos (nat_abs c) ≡ c)) × ((nat_abs d ≤ grids_most) × (pos (nat_abs d) ≡ d))
  head_sizes e =
      let p = and_parts (between (pos 0) (pos quantum_most) a && between (pos 1) (pos parameters_most) b && between (pos 0) (pos functions_most) c) (between (pos 1) (pos grids_most) d) e in
      let q = and_parts (between (pos 0) (pos quantum_most) a && between (pos 1) (pos parameters_most) b) (between (pos 0) (pos functions_most) c) p.0 in
      let r = and_parts (between (pos 0) (pos quantum_most) a) (between (pos 1) (pos parameters_most) b) q.0 in
      (count_in 0 quantum_most a r.0, count_in 1 parameters_most b r.1, count_in 0 functions_most c q.1, count_in 1 grids_most d p.1)

  pub ramp_sizes : ramp_numbers_fit a b c d ≡ true → (nat_abs a ≤ day_most) × (nat_abs b ≤ function_factor_most) × (nat_abs c ≤ day_most) × (nat_abs d ≤ function_factor_most)
  ramp_sizes e =
      let o = and_parts (day_fits a && function_factor_fits b && day_fits c && function_factor_fits d) (le_z a c) e in
      let p = and_parts (day_fits a && function_factor_fits b && day_fits c) (function_factor_fits d) o.0 in
      let q = and_parts (day_fits a && function_factor_fits b) (day_fits c) p.0 in
      let r = and_parts (day_fits a) (function_factor_fits b) q.0 in
      (within_size day_most a r.0, within_size function_factor_most b r.1, within_size day_most c q.1, within_size function_factor_most d p.1)

  pub ramp2_sizes : ramp2_numbers_fit a b c d ≡ true → (nat_abs a ≤ day_most) × (nat_abs b ≤ day_most) × (nat_abs c ≤ day_most) × (nat_abs d ≤ function_factor_most)
  ramp2_sizes e =
      let o = and_parts (day_fits a && day_fits b && day_fits c && function_factor_fits d) (lt_z a b) e in
      let p = and_parts (day_fits a && day_fits b && day_fits c) (function_factor_fits d) o.0 in
      let q = and_parts (day_fits a && day_fits b) (day_fits c) p.0 in
      let r = and_parts (day_fits a) (day_fits b) q.0 in
      (within_size day_most a r.0, within_size day_most b r.1, within_size day_most c q.1, within_size function_factor_most d p.1)

  pub origin_sizes : origin_fits a b c d ≡ true → (nat_abs a ≤ lon_edge_most) × (nat_abs b ≤ lat_edge_most) × (nat_abs c ≤ spacing_most) × (nat_abs d ≤ spacing_most)
  origin_sizes e =
      let p = and_parts (lon_edge_fits a && lat_edge_fits b && spacing_fits c) (spacing_fits d) e in
      let q = and_parts (lon_edge_fits a && lat_edge_fits b) (spacing_fits c) p.0 in
      let r = and_parts (lon_edge_fits a) (lat_edge_fits b) q.0 in
      (within_size lon_edge_most a r.0, within_size lat_edge_most b r.1, spacing_size c q.1, spacing_size d p.1)

  pub counts_sizes : counts_fit a b c d ≡ true → ((nat_abs a ≤ nodes_most) × (pos (nat_abs a) ≡ a)) × ((nat_abs b ≤ nodes_most) × (pos (nat_abs b) ≡ b)) × ((nat_abs c ≤ rank_most) × (pos (nat_abs c) ≡ c)) × ((nat_abs d ≤ start_most) × (pos (nat_abs d) ≡ d))
  counts_sizes e =
      let p = and_parts (between (pos nodes_least) (pos nodes_most) a && between (pos nodes_least) (pos nodes_most) b && between (pos 1) (pos rank_most) c) (between (pos 0) (pos start_most) d) e in
      let q = and_parts (between (pos nodes_least) (pos nodes_most) a && between (pos nodes_least) (pos nodes_most) b) (between (pos 1) (pos rank_most) c) p.0 in
      let r = and_parts (between (pos nodes_least) (pos nodes_most) a) (between (pos nodes_least) (pos nodes_most) b) q.0 in
      (count_in nodes_least nodes_most a r.0, count_in nodes_least nodes_most b r.1, count_in 1 rank_most c q.1, count_in 0 start_most d p.1)

pub step_sizes : (a b c : ℤ) → step_numbers_fit a b c ≡ true → (nat_abs a ≤ day_most) × (nat_abs b ≤ day_most) × (nat_abs c ≤ function_factor_most)
step_sizes a b c e =
    let p = and_parts (day_fits a && day_fits b) (function_factor_fits c) e in
    let q = and_parts (day_fits a) (day_fits b) p.0 in
    (within_size day_most a q.0, within_size day_most b q.1, within_size function_factor_most c p.1)

-- ---- the numbers of a line within its limits are told apart

pub head_small : (zs : List ℤ) → length zs ≡ 4 → head_fit zs ≡ true → Small zs
head_small =
    four_of_lem (λ zs. head_fit zs ≡ true → Small zs)
    (λ a b c d e. let s = head_sizes a b c d e in let u = s.0.0 in let v = s.1.0 in let w = s.2.0 in let x = s.3.0 in (omega arith, (omega arith, (omega arith, (omega arith, tt)))))

pub shape_small : (s : Shape) → shape_fits s ≡ true → Small (shape_ints s)
shape_small (S.Ramp r) e =
    let s = ramp_sizes r.a r.s0 r.b r.s1 e in let u = s.0 in let v = s.1 in let w = s.2 in let x = s.3 in
    (omega arith, (omega arith, (omega arith, (omega arith, tt))))
shape_small (S.Step r) e =
    let s = step_sizes r.event r.reference r.mult e in let u = s.0 in let v = s.1 in let w = s.2 in
    (omega arith, (omega arith, (omega arith, tt)))
shape_small (S.Ramp2 r) e =
    let s = ramp2_sizes r.start r.end r.reference r.mult e in let u = s.0 in let v = s.1 in let w = s.2 in let x = s.3 in
    (omega arith, (omega arith, (omega arith, (omega arith, tt))))

pub grid_small : (zs : List ℤ) → length zs ≡ 8 → grid_fit zs ≡ true → Small zs
grid_small =
    eight_of (λ zs. grid_fit zs ≡ true → Small zs)
    (λ a b c d e f g h t.
    let p = and_parts (origin_fits a b c d) (counts_fit e f g h) t in
    let s = origin_sizes a b c d p.0 in let u = s.0 in let v = s.1 in let w = s.2 in let x = s.3 in
    let r = counts_sizes e f g h p.1 in let i = r.0.0 in let j = r.1.0 in let k = r.2.0 in let l = r.3.0 in
    (omega arith, (omega arith, (omega arith, (omega arith, (omega arith, (omega arith, (omega arith, (omega arith, tt)))))))))

-- ---- a number below zero is judged as one beyond every limit

between_counted : (lo hi : ℕ) (z : ℤ) → hi < beyond → between (pos lo) (pos hi) (pos (count_of z)) ≡ between (pos lo) (pos hi) z
between_counted lo hi (pos n) h = refl
between_counted lo hi (negsuc n) h = simp (lt-leb beyond hi h, and-false)

counted_in : (z : ℤ) → pos (nat_abs z) ≡ z → count_of z ≡ nat_abs z
counted_in (pos n) e = refl
counted_in (negsuc n) e = let x : ◌≡◌ {A = ℕ} 0 1 = cc in absurd (omega arith)

module _ (a b c d : ℤ) where
  pub head_counted : head_numbers_fit (pos (count_of a)) (pos (count_of b)) (pos (count_of c)) (pos (count_of d)) ≡ head_numbers_fit a b c d
  head_counted = rw (between_counted 0 quantum_most a (omega arith), between_counted 1 parameters_most b (omega arith), between_counted 0 functions_most c (omega arith), between_counted 1 grids_most d (omega arith))

  counts_counted : counts_fit (pos (count_of a)) (pos (count_of b)) (pos (count_of c)) (pos (count_of d)) ≡ counts_fit a b c d
  counts_counted = rw (between_counted nodes_least nodes_most a (omega arith), between_counted nodes_least nodes_most b (omega arith), between_counted 1 rank_most c (omega arith), between_counted 0 start_most d (omega arith))

  pub head_made : (n : Name) (u : U.Unit) → head_numbers_fit a b c d ≡ true → counted_head n u a b c d ≡ head_of (n, u) (a ∷ b ∷ c ∷ d ∷ [])
  head_made n u e =
      let s = head_sizes a b c d e in
      λ i. record { name = n; unit = u; quantum = counted_in a s.0.1 i; parameters = counted_in b s.1.1 i; functions = counted_in c s.2.1 i; grids = counted_in d s.3.1 i }

module _ (n : Name) (a b c d e f g h : ℤ) where
  pub grid_judged : name_fits n ≡ true → grid_fits (counted_grid n a b c d e f g h) ≡ grid_fit (a ∷ b ∷ c ∷ d ∷ e ∷ f ∷ g ∷ h ∷ [])
  unfolding grid_fits
  grid_judged m = rw (m, counts_counted e f g h)

  pub grid_made : grid_fit (a ∷ b ∷ c ∷ d ∷ e ∷ f ∷ g ∷ h ∷ []) ≡ true → counted_grid n a b c d e f g h ≡ grid_of n (a ∷ b ∷ c ∷ d ∷ e ∷ f ∷ g ∷ h ∷ [])
  grid_made t =
      let s = counts_sizes e f g h (and_right (origin_fits a b c d) (counts_fit e f g h) t) in
      λ i. record {
        name = n;
        lon = record { 0 = a };
        lat = record { 0 = b };
        dlon = c;
        dlat = d;
        ni = counted_in e s.0.1 i;
        nj = counted_in f s.1.1 i;
        rank = counted_in g s.2.1 i;
        start = counted_in h s.3.1 i;
      }
