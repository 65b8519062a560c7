-- `corners_at` meets its contract: the four positions are within the node list.
use borrow.Author.Rules.{rules}
use Prim.Native.Nat.{ℕ, ◌+◌, ◌<◌}
use mathlib.Core.Path.{◌≡◌, ap, ◌∙◌}
use mathlib.Core.List.{List}
use native.Mathlib.Omega.{arith}
use lib.IntN.{ℤ, pos}
use lib.ListN.{get_or}
use mir.Syntax.{w32}
use mir.Val.{SFits, to_z, of_z}
use mir.ValLaws.{to_z-of_z}
use Rattle.fix.specs.declared.Offset.{Offset}
use Rattle.fix.specs.Inside.{InsideGrid}
use Rattle.fix.specs.Fix.{position, cell_of, corners_at, corners_of}
use Rattle.fix.proofs.OffsetLaws.{cell_i, cell_j, Around, around}
use Rattle.fix.proofs.corners_at.Goals as goal

-- a node read at a position
read : (nodes : List ℤ) {m : ℕ} (n : ℕ) → SFits w32 (get_or nodes m (pos 0)) → m ≡ n → to_z w32 (of_z w32 (get_or nodes m (pos 0))) ≡ get_or nodes n (pos 0)
read nodes {m} n h e = to_z-of_z w32 _ h ∙ ap (λ (k : ℕ). get_or nodes k (pos 0)) e

-- the four positions around the cell
known : {l : Offset} {p : ℕ} (h : InsideGrid l) → p < l.np → Around h (cell_of l).i (cell_of l).j p
known {l} {p} h k = around h (cell_of l).i (cell_of l).j p (cell_i h) (cell_j h) k

pub overflow_add-low : goal.overflow_add-low
overflow_add-low c =
    omega (arith, known c.requires.0 c.requires.3)

pub overflow_mul-high : goal.overflow_mul-high
overflow_mul-high c =
    omega (arith, known c.requires.0 c.requires.3)

pub overflow_add-high : goal.overflow_add-high
overflow_add-high c =
    omega (arith, known c.requires.0 c.requires.3)

pub overflow_add-j : goal.overflow_add-j
overflow_add-j c =
    omega (arith, known c.requires.0 c.requires.3)

pub overflow_add-m : goal.overflow_add-m
overflow_add-m c =
    omega (arith, known c.requires.0 c.requires.3)

pub offset_bounds-nodes-i : goal.offset_bounds-nodes-i
offset_bounds-nodes-i c =
    omega (arith, known c.requires.0 c.requires.3)

pub bounds-nodes-i : goal.bounds-nodes-i
bounds-nodes-i c =
    omega (arith, known c.requires.0 c.requires.3)

pub offset_bounds-nodes-j : goal.offset_bounds-nodes-j
offset_bounds-nodes-j c =
    omega (arith, known c.requires.0 c.requires.3)

pub bounds-nodes-j : goal.bounds-nodes-j
bounds-nodes-j c =
    omega (arith, known c.requires.0 c.requires.3)

pub offset_bounds-nodes-k : goal.offset_bounds-nodes-k
offset_bounds-nodes-k c =
    omega (arith, known c.requires.0 c.requires.3)

pub bounds-nodes-k : goal.bounds-nodes-k
bounds-nodes-k c =
    omega (arith, known c.requires.0 c.requires.3)

pub offset_bounds-nodes-m : goal.offset_bounds-nodes-m
offset_bounds-nodes-m c =
    omega (arith, known c.requires.0 c.requires.3)

pub bounds-nodes-m : goal.bounds-nodes-m
bounds-nodes-m c =
    omega (arith, known c.requires.0 c.requires.3)

pub returns : goal.returns
unfolding corners_at corners_of
returns c =
    let nodes = c.args.nodes.now in let k = known c.requires.0 c.requires.3 in
    let l = c.args.l in let i = (cell_of l).i in let j = (cell_of l).j in let p = c.args.p in
    let e00 = read nodes (position l i j p) (search rules) (omega (arith, k)) in
    let e10 = read nodes (position l (i + 1) j p) (search rules) (omega (arith, k)) in
    let e01 = read nodes (position l i (j + 1) p) (search rules) (omega (arith, k)) in
    let e11 = read nodes (position l (i + 1) (j + 1) p) (search rules) (omega (arith, k)) in
    λ k. record { v00 = e00 k; v10 = e10 k; v01 = e01 k; v11 = e11 k }
