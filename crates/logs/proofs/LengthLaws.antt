-- What an accepted lookup of a position says of the sizes of its numbers, and how long its line can then be: at most 102 bytes.
use Prim.Native.Nat.{ℕ, zero, suc, ◌*◌, ◌-◌, ◌≤◌}
use mathlib.Core.Path.{◌≡◌, sym, subst}
use mathlib.Core.List.{List, [], ◌∷◌, map}
use native.Mathlib.Nat.{suc-mul}
use native.Mathlib.Decide.{dec_lt}
use native.Mathlib.Omega.{arith}
use lib.IntN.{ℤ, nat_abs}
use lib.ListN.{length, length-append, length-take}
use Rattle.numbers.proofs.Bools.{and_left, and_right}
use Rattle.numbers.proofs.OrderLaws.{within_size}
use Rattle.text.specs.Decimal.{int_text}
use Rattle.text.proofs.PutLaws.{lengths, line_length}
use Rattle.text.proofs.DecimalLaws.{int_text_length}
use Rattle.group.specs.declared.Group.{Group}
use Rattle.group.specs.declared.Position.{Position}
use Rattle.group.specs.Numbers.{name_most, lon_most, lat_most, lon_admitted, lat_admitted, day_most, result_most}
use Rattle.group.specs.Record.{grid_at}
use Rattle.judge.proofs.Accepted.{accepted, accepted_head}
use Rattle.line.proofs.NameLaws.{name_len}
use Rattle.line.proofs.KindLaws.{grid_name_lem}
use Rattle.abi.specs.Abi.{list_of}
use Rattle.fix.specs.declared.Fix.{Fix}
use Rattle.fix.specs.Answers.{result_in}
use Rattle.lookup.specs.Lookup.{looked}
use Rattle.lookup.proofs.FoundLaws.{found}
use Rattle.lookup.proofs.ResultLaws.{best, answered, rest_zero}
use Rattle.exercise.specs.Exercise.{point_at}
use Rattle.logs.specs.Line.{fix_keyword, grid_name, entry_text}
use Rattle.logs.specs.Writing.{entry_found, line_text, line_most}
use Rattle.logs.specs.Reading.{FixFound}
use Rattle.std.specs.Prelude.{Ok}

pub fix_found : (g : Group) (nodes : List ℤ) (p : Position) (f : Fix) → looked g nodes (point_at p) p.day ≡ Ok f → FixFound g p f
fix_found g nodes p f e =
    let w = found g nodes (point_at p) p.day f e in
    let x = lon_admitted p.lon.0 in let y = lat_admitted p.lat.0 in
    let n = w.number in
    let b = (best g nodes (point_at p) p.day f e).among in
    record {
      accepted = w.ready.accepted;
      some = omega arith;
      among = omega arith;
      lon = within_size lon_most p.lon.0 (and_left x y w.ready.point);
      lat = within_size lat_most p.lat.0 (and_right x y w.ready.point);
      day = within_size day_most p.day w.ready.day;
      results = λ q.
          elim (dec_lt q g.parameters) [
            | yes lt ↦ (answered g nodes (point_at p) p.day f e q lt).small
            | no ge ↦ subst (λ (z : ℤ). nat_abs z ≤ result_most) (sym (rest_zero g nodes (point_at p) p.day f e q (omega arith))) (omega arith)
          ];
    }

-- the name of its grid is one of an accepted group
pub name_most_lem : (g : Group) (p : Position) (f : Fix) → FixFound g p f → (grid_at g (f.grid - 1)).name.len ≤ name_most
name_most_lem g p f w =
    let z = w.some in let m = w.among in
    let d = grid_at g (f.grid - 1) in
    (name_len d.name (grid_name_lem d ((accepted g w.accepted).grid (f.grid - 1) (omega arith)))).1

-- n numbers of at most twelve digits, each with its tab
numbers_length : (r : ℕ → ℤ) → ((q : ℕ) → nat_abs (r q) ≤ result_most) → (n : ℕ) → lengths (map int_text (list_of r n)) ≤ n * 14
unfolding list_of
numbers_length r h zero = omega arith
numbers_length r h (suc n) =
    let s = h 0 in
    let a = int_text_length 11 (r 0) (omega arith) in
    let b = numbers_length (λ q. r (suc q)) (λ q. h (suc q)) n in
    omega (arith, suc-mul n 14)

pub text_most : (g : Group) (p : Position) (f : Fix) → FixFound g p f → length (line_text g p f) ≤ line_most
unfolding line_text
text_most g p f w =
    let x = w.lon in let y = w.lat in let d = w.day in
    let a = int_text_length 8 p.lon.0 (omega arith) in
    let b = int_text_length 8 p.lat.0 (omega arith) in
    let c = int_text_length 6 p.day (omega arith) in
    let m = (grid_at g (f.grid - 1)).name in
    let l = name_most_lem g p f w in
    let t = length-take m.len m.bytes in
    let n = (accepted_head g w.accepted).parameters in
    let r = numbers_length (result_in f) w.results g.parameters in
    let v = length-append (entry_text (entry_found g p f)) (10 ∷ []) in
    let q = line_length fix_keyword (int_text p.lon.0 ∷ int_text p.lat.0 ∷ int_text p.day ∷ grid_name g f.grid ∷ map int_text (list_of (result_in f) g.parameters)) in
    omega arith
