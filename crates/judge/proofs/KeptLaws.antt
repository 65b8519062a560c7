-- An accepted group of 8 functions, 64 grids and names of 24 bytes is read back as it was stored.
use Prim.Native.Nat.{ℕ, ◌<◌}
use mathlib.Core.Path.{◌≡◌, refl, sym, ap, subst, ◌∙◌}
use mathlib.Core.Bool.{Bool, true, false, not, ◌&&◌, ◌||◌}
use mathlib.Core.Logic.{⊎_elim}
use native.Mathlib.Omega.{arith}
use borrow.Author.Tests.{leb-true, leb-false, eqb-true, not-false}
use lib.Dec.{leb, ltb, eqb}
use lib.ListN.{length, get_or, length-replicate, get_or-replicate}
use Rattle.numbers.specs.First.{every}
use Rattle.numbers.proofs.Bools.{and_left, and_right, or_cases}
use Rattle.numbers.proofs.FirstLaws.{every_at}
use Rattle.group.specs.Numbers.{name_most, functions_most, grids_most}
use Rattle.group.specs.declared.Name.{Name}
use Rattle.group.specs.declared.Grid.{Grid}
use Rattle.group.specs.declared.Group.{Group}
use Rattle.group.specs.Limits.{name_byte, byte_fits, name_fits, grid_fits, grid_blank, head_fits}
use Rattle.group.specs.Blank.{blank_grid}
use Rattle.group.specs.Record.{grid_at}
use Rattle.group.proofs.BlankLaws.{blank_grid_lem}
use Rattle.judge.specs.Judge.{unused_grid, judged}
use Rattle.judge.proofs.Accepted.{accepted}
use Rattle.judge.proofs.LimitLaws.{name_good, ni_between, nj_between, rank_between, start_most, quantum_most_lem, parameters_between, functions_most_lem, grids_between}
use Rattle.abi.specs.Abi.{KeptName, KeptGrid, KeptHead, KeptGroup}
use Rattle.std.specs.Prelude.{Ok}

letter : (b : ℕ) → name_byte b ≡ true → b < 127
letter b e =
    let u = leb 65 b && leb b 90 in
    let l = leb 97 b && leb b 122 in
    let d = leb 48 b && leb b 57 in
    let up_to : (lo hi : ℕ) → hi < 127 → (leb lo b && leb b hi) ≡ true → b < 127 = λ lo hi h p. (let q = leb-true b hi (and_right (leb lo b) (leb b hi) p) in omega arith) in
    ⊎_elim
    (λ p.
    ⊎_elim
    (λ q.
    ⊎_elim (λ r. ⊎_elim (up_to 65 90 (omega arith)) (up_to 97 122 (omega arith)) (or_cases u l r)) (up_to 48 57 (omega arith)) (or_cases (u || l) d q))
    (λ q. let z = eqb-true b 95 q in omega arith)
    (or_cases (u || l || d) (eqb b 95) p))
    (λ p. let z = eqb-true b 45 p in omega arith)
    (or_cases (u || l || d || eqb b 95) (eqb b 45) e)

pub plain_byte : (n : Name) (k : ℕ) → byte_fits n k ≡ true → get_or n.bytes k 0 < 127
unfolding byte_fits
plain_byte n k e =
    let b = get_or n.bytes k 0 in
    ⊎_elim (λ p. letter b (and_right (ltb k n.len) (name_byte b) p))
    (λ p. let z = eqb-true b 0 (and_right (leb n.len k) (eqb b 0) p) in omega arith)
    (or_cases (ltb k n.len && name_byte b) (leb n.len k && eqb b 0) e)

fitting_name : (n : Name) → length n.bytes ≡ name_most → name_fits n ≡ true → KeptName n
unfolding name_fits
fitting_name n b e =
    let l = leb-true n.len name_most (and_right (leb 1 n.len) (leb n.len name_most) (and_left (leb 1 n.len && leb n.len name_most) (every (byte_fits n) name_most) e)) in
    let h = and_right (leb 1 n.len && leb n.len name_most) (every (byte_fits n) name_most) e in
    record { bytes = b; plain = λ j m. (let p = plain_byte n j (every_at (byte_fits n) name_most j h m) in omega arith); len = omega arith }

pub head_name : (g : Group) → head_fits g ≡ true → name_fits g.name ≡ true
unfolding head_fits
head_name g e = and_left (name_fits g.name) _ e

pub fitting_kept : (d : Grid) → length d.name.bytes ≡ name_most → grid_fits d ≡ true → KeptGrid d
fitting_kept d b e =
    record {
      name = fitting_name d.name b (name_good d e);
      ni = omega (arith, ni_between d e);
      nj = omega (arith, nj_between d e);
      rank = omega (arith, rank_between d e);
      start = omega (arith, start_most d e);
    }

-- the unused grid, which is blank
blank_kept_grid : KeptGrid blank_grid
blank_kept_grid =
    record {
      name = record { bytes = length-replicate {A = ℕ} name_most 0; plain = λ j l. (let z = get_or-replicate {A = ℕ} name_most j 0 0 l in omega arith); len = omega arith };
      ni = omega arith;
      nj = omega arith;
      rank = omega arith;
      start = omega arith;
    }

pub blank_kept : (d : Grid) → length d.name.bytes ≡ name_most → grid_blank d ≡ true → KeptGrid d
blank_kept d b e = subst KeptGrid (sym (blank_grid_lem d b e)) blank_kept_grid

pub head_kept : (g : Group) → length g.name.bytes ≡ name_most → head_fits g ≡ true → KeptHead g
head_kept g b h =
    record {
      name = fitting_name g.name b (head_name g h);
      quantum = omega (arith, quantum_most_lem g h);
      parameters = omega (arith, parameters_between g h);
      functions = omega (arith, functions_most_lem g h);
      grids = omega (arith, grids_between g h);
    }

-- a grid line that fits, or an unused entry that is all zero
pub grid_kept : (g : Group) (k : ℕ) → length (grid_at g k).name.bytes ≡ name_most → unused_grid g k ≡ false → (k < g.grids → grid_fits (grid_at g k) ≡ true)
    → KeptGrid (grid_at g k)
grid_kept g k b u f = go (leb g.grids k) refl
  where
    go : (t : Bool) → leb g.grids k ≡ t → KeptGrid (grid_at g k)
    go true q =
        blank_kept (grid_at g k) b
        (not-false (grid_blank (grid_at g k)) (sym (ap (λ (t : Bool). t && not (grid_blank (grid_at g k))) q) ∙ u))
    go false q = fitting_kept (grid_at g k) b (f (leb-false g.grids k q))

pub accepted_kept : (g : Group) → judged g ≡ Ok tt → length g.name.bytes ≡ name_most → length g.function ≡ functions_most → length g.grid ≡ grids_most
    → ((k : ℕ) → k < grids_most → length (grid_at g k).name.bytes ≡ name_most) → KeptGroup g
accepted_kept g e b r d n =
    let s = accepted g e in
    record {
      head = head_kept g b s.head;
      function = r;
      grid = d;
      kept = λ k l. grid_kept g k (n k l) (s.no_grid k l) (s.grid k);
    }
