-- The number of the grid that a lookup answers is at most that of the grids, so that it is stored as it is; and the words of an answer in
-- memory, as C has them.
use Prim.Native.Nat.{◌≤◌}
use mathlib.Core.Path.{◌≡◌, refl, sym}
use mathlib.Core.List.{List}
use native.Mathlib.Omega.{arith}
use lib.IntN.{ℤ}
use Rattle.group.specs.declared.Group.{Group}
use Rattle.group.specs.declared.Point.{Point}
use Rattle.group.specs.Numbers.{grids_most}
use Rattle.abi.proofs.NumberLaws.{as_it_is}
use Rattle.judge.proofs.Accepted.{accepted_head}
use Rattle.ingroup.proofs.InGroupLaws.{chosen_most}
use Rattle.fix.specs.declared.Fix.{Fix}
use Rattle.lookup.specs.declared.Answer.{Answer}
use Rattle.lookup.specs.contracts.Answer as answer
use Rattle.lookup.specs.Answer.{record_with, answer_record, stored_record}
use Rattle.lookup.specs.Lookup.{looked}
use Rattle.lookup.proofs.FoundLaws.{found}
use Rattle.std.specs.Prelude.{Result, Ok, Err}
use Rattle.group.specs.declared.Refusal.{Refusal}

fix_small : (g : Group) (nodes : List ℤ) (p : Point) (t : ℤ) (f : Fix) → looked g nodes p t ≡ Ok f → f.grid ≤ grids_most
fix_small g nodes p t f e =
    let w = found g nodes p t f e in
    let n = w.number in
    let c = w.chosen in
    let s = (accepted_head g w.ready.accepted).grids in
    omega (arith, chosen_most g p.lon.0 p.lat.0)

pub answer_stored : (g : Group) (nodes : List ℤ) (p : Point) (t : ℤ) (f : Result Fix Refusal) → f ≡ looked g nodes p t → stored_record f ≡ answer_record f
answer_stored g nodes p t (Ok f) e =
    let h = fix_small g nodes p t f (sym e) in
    let n = as_it_is f.grid (omega arith) in
    λ i. record_with (λ m. n i) (Ok f)
answer_stored g nodes p t (Err r) e = refl

pub answer_words_lem : (a : Answer) → (answer.the_type).to a ≡ (a.number, (a.place, (a.grid, (a.first, (a.second, (a.third, tt))))))
answer_words_lem a = refl
