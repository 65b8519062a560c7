-- At a node the value is the node's, whatever the cell's other corners hold.
use Prim.Native.Nat.{ℕ, ◌+◌, ◌*◌, ◌<◌}
use mathlib.Core.Path.{◌≡◌, ◌∙◌}
use mathlib.Core.List.{List}
use mathlib.Core.Logic.{◌⊎◌, inl, inr}
use lib.IntN.{ℤ}
use Rattle.cell.specs.Cell.{cell_along}
use Rattle.cell.proofs.AlongLaws.{along_node}
use Rattle.cell.proofs.ValueLaws.{node_00, node_10, node_01, node_11}
use Rattle.fix.specs.declared.Offset.{Offset}
use Rattle.fix.specs.Fix.{cell_of, node_at, corners_at, corners_of, value_in}
use Rattle.fix.specs.Inside.{InsideGrid}
use Rattle.fix.proofs.OffsetLaws.{distances}

-- the point is node i of an axis: the first or the last node of its cell
abbrev AtNode : (d s n i : ℕ) → Type 0
AtNode d s n i =
    (((cell_along d s n).index ≡ i) × ((cell_along d s n).rest ≡ 0)) ⊎ (((cell_along d s n).index + 1 ≡ i) × ((cell_along d s n).rest ≡ s))

module _ {l : Offset} (h : InsideGrid l) (nodes : List ℤ) (q : ℕ) where
  by_corner : (i j : ℕ) → AtNode l.dx l.sx l.ni i → AtNode l.dy l.sy l.nj j → value_in l nodes q ≡ node_at l nodes i j q
  unfolding value_in corners_of corners_at cell_of
  by_corner i j (inl a) (inl b) = node_00 (distances h) _ a.1 b.1 ∙ (λ k. node_at l nodes (a.0 k) (b.0 k) q)
  by_corner i j (inr a) (inl b) = node_10 (distances h) _ a.1 b.1 ∙ (λ k. node_at l nodes (a.0 k) (b.0 k) q)
  by_corner i j (inl a) (inr b) = node_01 (distances h) _ a.1 b.1 ∙ (λ k. node_at l nodes (a.0 k) (b.0 k) q)
  by_corner i j (inr a) (inr b) = node_11 (distances h) _ a.1 b.1 ∙ (λ k. node_at l nodes (a.0 k) (b.0 k) q)

  pub value_node : (i j : ℕ) → i < l.ni → j < l.nj → l.dx ≡ i * l.sx → l.dy ≡ j * l.sy → value_in l nodes q ≡ node_at l nodes i j q
  value_node i j hi hj ex ey =
      by_corner i j
      (rw ex (along_node i l.sx l.ni h.sx_pos h.ni_least hi))
      (rw ey (along_node j l.sy l.nj h.sy_pos h.nj_least hj))
