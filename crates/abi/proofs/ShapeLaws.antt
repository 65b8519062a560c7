-- What a record that the machine holds has by its type: all functions and grids, and names of 24 bytes.
use Prim.Native.Nat.{ℕ, zero, suc, ◌<◌}
use mathlib.Core.List.{List, [], ◌∷◌}
use native.Mathlib.Nat.{le_of_suc-le-suc, not-suc-le-zero}
use lib.ListN.{length, get_or}
use native.Mathlib.Omega.{arith}
use mir.Syntax.{w8}
use mir.Val.{Val}
use denote.RattleType.{RattleType}
use denote.Shadow.{shadow}
use denote.Laws.{Is}
use denote.Plain.{UInt}
use denote.Array.{each}
use denote.Struct.Declared.{row}
use Rattle.group.specs.Record.{no_grid}
use Rattle.group.specs.declared.Name.{Name}
use Rattle.group.specs.declared.Group.{Group}
use Rattle.group.specs.contracts.Name as name
use Rattle.group.specs.contracts.Grid as grid
use Rattle.group.specs.contracts.Group as group
use Rattle.abi.specs.Abi.{MachineName, MachineGroup}

-- what each element of an array has
each_at : (R : RattleType) (P : R.Denot → Type 0) → ((x : R.Denot) (vs : List Val) → Is R x vs → P x) → (xs : List R.Denot) (us : List Val)
    → shadow (each R.Denot R.own_val xs us) → (d : R.Denot) (k : ℕ) → k < length xs → P (get_or xs k d)
each_at R P h [] us s d k l = absurd (not-suc-le-zero l)
each_at R P h (x ∷ xs) [] s d k l = absurd s
each_at R P h (x ∷ xs) (u ∷ us) s d zero l = h x (u ∷ []) s.0
each_at R P h (x ∷ xs) (u ∷ us) s d (suc k) l = each_at R P h xs us s.1 d k (le_of_suc-le-suc l)

shaped_name : (n : Name) (vs : List Val) → Is (row name.the_type) n vs → MachineName n
shaped_name n vs p =
    let b = p.1.1.0 in
    record {
      bytes = b.1.0.1;
      small = λ j l. each_at (UInt w8) (λ x. x < 256) (λ x us q. q.1) n.bytes b.0 b.1.1 0 j (omega (arith, b.1.0.1));
    }

pub machine_shaped : (g : Group) (vs : List Val) → Is (row group.the_type) g vs → MachineGroup g
machine_shaped g vs p =
    let f = p.1.1 in
    let functions = f.1.1.1.1.1.1.0 in
    let grids = f.1.1.1.1.1.1.1.0 in
    record {
      name = shaped_name g.name p.0.0 f.0;
      function = functions.1.0.1;
      grid = grids.1.0.1;
      names = λ k l.
          each_at grid.the_row (λ d. MachineName d.name) (λ d us q. shaped_name d.name q.0.0 q.1.1.0) g.grid grids.0 grids.1.1 no_grid k
          (omega (arith, grids.1.0.1));
    }
