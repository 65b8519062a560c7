-- What passes the test of an unused entry is the blank entry, and the blank entry passes it.
use Prim.Native.Nat.{ℕ}
use mathlib.Core.Path.{◌≡◌, refl, sym, ◌∙◌}
use mathlib.Core.Bool.{true, ◌&&◌}
use mathlib.Core.Logic.{⊎_elim}
use native.Mathlib.Omega.{arith}
use borrow.Author.Tests.{ltb-true, eqb-true}
use lib.Dec.{leb, ltb, eqb}
use lib.ListN.{length, get_or, replicate, length-replicate, get_or-replicate}
use lib.Seq.{ext_get_or}
use Rattle.numbers.specs.First.{first, every}
use Rattle.numbers.proofs.Bools.{and_left, and_right, and_parts, or_cases, true_false}
use Rattle.numbers.proofs.FirstLaws.{every_at}
use Rattle.numbers.proofs.OrderLaws.{zero_of}
use Rattle.group.specs.Numbers.{name_most, is_zero}
use Rattle.group.specs.Blank.{blank_name, blank_function, blank_grid}
use Rattle.group.specs.Limits.{name_byte, byte_fits, name_blank, shape_blank, function_blank, grid_blank}
use Rattle.group.specs.declared.Name.{Name}
use Rattle.group.specs.declared.Shape.{Shape}
use Rattle.group.specs.declared.Shape.TheVariants as S
use Rattle.group.specs.declared.Function.{Function}
use Rattle.group.specs.declared.Grid.{Grid}

-- a byte of no name
blank_byte : (n : Name) (j : ℕ) → n.len ≡ 0 → byte_fits n j ≡ true → get_or n.bytes j 0 ≡ 0
unfolding byte_fits
blank_byte n j z e =
    let b = get_or n.bytes j 0 in
    ⊎_elim (λ p. absurd (let l = ltb-true j n.len (and_left (ltb j n.len) (name_byte b) p) in omega arith))
    (λ p. eqb-true b 0 (and_right (leb n.len j) (eqb b 0) p))
    (or_cases (ltb j n.len && name_byte b) (leb n.len j && eqb b 0) e)

pub blank_name_lem : (n : Name) → length n.bytes ≡ name_most → name_blank n ≡ true → n ≡ blank_name
unfolding name_blank
blank_name_lem n l e =
    let z = eqb-true n.len 0 (and_left (eqb n.len 0) (every (byte_fits n) name_most) e) in
    let f = and_right (eqb n.len 0) (every (byte_fits n) name_most) e in
    let b =
    ext_get_or 0 n.bytes (replicate name_most 0) (l ∙ sym (length-replicate {A = ℕ} name_most 0))
    (λ j m. blank_byte n j z (every_at (byte_fits n) name_most j f (omega arith)) ∙ sym (get_or-replicate {A = ℕ} name_most j 0 0 (omega arith))) in
    λ i. record { bytes = b i; len = z i }

blank_shape : (s : Shape) → shape_blank s ≡ true → s ≡ blank_function.shape
blank_shape (S.Ramp r) e =
    let p = and_parts (is_zero r.a && is_zero r.s0 && is_zero r.b) (is_zero r.s1) e in
    let q = and_parts (is_zero r.a && is_zero r.s0) (is_zero r.b) p.0 in
    let s = and_parts (is_zero r.a) (is_zero r.s0) q.0 in
    λ i. S.Ramp (record { a = zero_of r.a s.0 i; s0 = zero_of r.s0 s.1 i; b = zero_of r.b q.1 i; s1 = zero_of r.s1 p.1 i })
blank_shape (S.Step s) e = absurd (true_false refl (sym e))
blank_shape (S.Ramp2 r) e = absurd (true_false refl (sym e))

pub blank_function_lem : (f : Function) → function_blank f ≡ true → f ≡ blank_function
blank_function_lem f e = λ i. record { shape = blank_shape f.shape e i }

pub blank_grid_lem : (g : Grid) → length g.name.bytes ≡ name_most → grid_blank g ≡ true → g ≡ blank_grid
unfolding grid_blank
blank_grid_lem g l e =
    let o = is_zero g.lon.0 && is_zero g.lat.0 && is_zero g.dlon && is_zero g.dlat in
    let n = eqb g.ni 0 && eqb g.nj 0 && eqb g.rank 0 && eqb g.start 0 in
    let a = and_parts (name_blank g.name && o) n e in
    let b = and_parts (name_blank g.name) o a.0 in
    let p = and_parts (is_zero g.lon.0 && is_zero g.lat.0 && is_zero g.dlon) (is_zero g.dlat) b.1 in
    let q = and_parts (is_zero g.lon.0 && is_zero g.lat.0) (is_zero g.dlon) p.0 in
    let r = and_parts (is_zero g.lon.0) (is_zero g.lat.0) q.0 in
    let u = and_parts (eqb g.ni 0 && eqb g.nj 0 && eqb g.rank 0) (eqb g.start 0) a.1 in
    let v = and_parts (eqb g.ni 0 && eqb g.nj 0) (eqb g.rank 0) u.0 in
    let w = and_parts (eqb g.ni 0) (eqb g.nj 0) v.0 in
    let m = blank_name_lem g.name l b.0 in
    let lon = zero_of g.lon.0 r.0 in let lat = zero_of g.lat.0 r.1 in
    let dlon = zero_of g.dlon q.1 in let dlat = zero_of g.dlat p.1 in
    let ni = eqb-true g.ni 0 w.0 in let nj = eqb-true g.nj 0 w.1 in
    let rank = eqb-true g.rank 0 v.1 in let start = eqb-true g.start 0 u.1 in
    λ i. record {
      name = m i;
      lon = record { 0 = lon i };
      lat = record { 0 = lat i };
      dlon = dlon i;
      dlat = dlat i;
      ni = ni i;
      nj = nj i;
      rank = rank i;
      start = start i;
    }

pub name_blank_lem : name_blank blank_name ≡ true
unfolding name_blank byte_fits first
name_blank_lem = refl

pub grid_blank_lem : grid_blank blank_grid ≡ true
unfolding grid_blank name_blank byte_fits first
grid_blank_lem = refl
