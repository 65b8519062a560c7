-- A position as the code tells its numbers apart is looked up as the position that the line says: what is beyond the one limit is beyond the other.
use Prim.Native.Nat.{ℕ, zero, suc, ◌<◌, min}
use mathlib.Core.Path.{◌≡◌, refl, sym, ◌∙◌}
use mathlib.Core.Bool.{Bool, true, false, ◌&&◌}
use mathlib.Core.List.{List, [], ◌∷◌, map}
use native.Mathlib.Omega.{arith}
use lib.IntN.{ℤ, pos, negsuc, nat_abs}
use Rattle.numbers.specs.Order.{within}
use Rattle.numbers.proofs.Bools.{and_left, and_right}
use Rattle.numbers.proofs.OrderLaws.{leb_same, within_test, within_size}
use Rattle.text.specs.Number.{number_most, clamp}
use Rattle.text.proofs.FieldLaws.{clamp_id}
use Rattle.group.specs.declared.Group.{Group}
use Rattle.group.specs.declared.Point.{Point}
use Rattle.group.specs.Numbers.{lon_most, lat_most, day_most, lon_admitted, lat_admitted, day_fits}
use Rattle.group.specs.Shapes.{int_at}
use Rattle.judge.specs.Judge.{judged}
use Rattle.lookup.specs.Lookup.{point_fits, looked_in, looked}
use Rattle.lookup.proofs.StageLaws.{looked_group, looked_accepted, looked_6, looked_9}
use Rattle.std.specs.Prelude.{Result, Ok, Err, ⊤}
use Rattle.group.specs.declared.Refusal.{Refusal}

-- number k of a list whose numbers are told apart
pub clamp_at : (zs : List ℤ) (k : ℕ) → int_at (map clamp zs) k ≡ clamp (int_at zs k)
clamp_at [] k = refl
clamp_at (z ∷ zs) zero = refl
clamp_at (z ∷ zs) (suc k) = clamp_at zs k

size_clamped : (z : ℤ) → nat_abs (clamp z) ≡ min (nat_abs z) number_most
size_clamped (pos n) = refl
size_clamped (negsuc n) = omega arith

within_clamped : (m : ℕ) (z : ℤ) → m < number_most → within m (clamp z) ≡ within m z
within_clamped m z h =
    let s = size_clamped z in
    within_test m (clamp z) ∙ leb_same (nat_abs (clamp z)) m (nat_abs z) m (λ l. omega arith) (λ l. omega arith) ∙ sym (within_test m z)

abbrev pub point_of : ℤ → ℤ → Point
point_of x y = record { lon = record { 0 = x }; lat = record { 0 = y } }

module _ (g : Group) (nodes : List ℤ) (x y t : ℤ) where
  point_clamped : point_fits (point_of (clamp x) (clamp y)) ≡ point_fits (point_of x y)
  point_clamped = λ i. within_clamped lon_most x (omega arith) i && within_clamped lat_most y (omega arith) i

  day_clamped : day_fits (clamp t) ≡ day_fits t
  day_clamped = within_clamped day_most t (omega arith)

  in_clamped : looked_in g nodes (point_of (clamp x) (clamp y)) (clamp t) ≡ looked_in g nodes (point_of x y) t
  in_clamped = go (point_fits (point_of x y)) (day_fits t) refl refl
    where
      same : (m : ℕ) (z : ℤ) → m < number_most → within m z ≡ true → clamp z ≡ z
      same m z h e = let s = within_size m z e in clamp_id z (omega arith)

      go : (p d : Bool) → point_fits (point_of x y) ≡ p → day_fits t ≡ d → looked_in g nodes (point_of (clamp x) (clamp y)) (clamp t) ≡ looked_in g nodes (point_of x y) t
      go false d e f = looked_6 g nodes (point_of (clamp x) (clamp y)) (clamp t) (point_clamped ∙ e) ∙ sym (looked_6 g nodes (point_of x y) t e)
      go true false e f =
          looked_9 g nodes (point_of (clamp x) (clamp y)) (clamp t) (point_clamped ∙ e) (day_clamped ∙ f) ∙ sym (looked_9 g nodes (point_of x y) t e f)
      go true true e f =
          let a = same lon_most x (omega arith) (and_left (lon_admitted x) (lat_admitted y) e) in
          let b = same lat_most y (omega arith) (and_right (lon_admitted x) (lat_admitted y) e) in
          let c = same day_most t (omega arith) f in
          λ i. looked_in g nodes (point_of (a i) (b i)) (c i)

  pub looked_clamped : looked g nodes (point_of (clamp x) (clamp y)) (clamp t) ≡ looked g nodes (point_of x y) t
  looked_clamped = go (judged g) refl
    where
      go : (v : Result ⊤ Refusal) → judged g ≡ v → looked g nodes (point_of (clamp x) (clamp y)) (clamp t) ≡ looked g nodes (point_of x y) t
      go (Err r) e = looked_group g nodes (point_of (clamp x) (clamp y)) (clamp t) r e ∙ sym (looked_group g nodes (point_of x y) t r e)
      go (Ok tt) e =
          looked_accepted g nodes (point_of (clamp x) (clamp y)) (clamp t) e ∙ in_clamped ∙ sym (looked_accepted g nodes (point_of x y) t e)
