-- The weights of a cell's corners.
use Prim.Native.Nat.{ℕ, ◌+◌, ◌-◌, ◌*◌, ◌≤◌}
use mathlib.Core.Path.{◌≡◌, sym, ap, ◌∙◌}
use native.Mathlib.Nat.{mul-le-mul, mul-pos, mul-add, add-mul, sub-add_cancel}
use native.Mathlib.Omega.{arith}
use Rattle.cell.specs.Cell.{weights_of}
use Rattle.cell.specs.Sizes.{Distances, Weighed}

-- the four weights add to sx·sy
weights_add : {sx sy fx fy : ℕ} → fx ≤ sx → fy ≤ sy
    → (sx - fx) * (sy - fy) + fx * (sy - fy) + (sx - fx) * fy + fx * fy ≡ sx * sy
weights_add {sx} {sy} {fx} {fy} h k =
    let gx = sx - fx in let gy = sy - fy in
    let p : gx * gy + fx * gy ≡ sx * gy = sym (add-mul gx fx gy) ∙ ap (λ (n : ℕ). n * gy) (sub-add_cancel h) in
    let q : gx * fy + fx * fy ≡ sx * fy = sym (add-mul gx fx fy) ∙ ap (λ (n : ℕ). n * fy) (sub-add_cancel h) in
    let r : sx * gy + sx * fy ≡ sx * sy = sym (mul-add sx gy fy) ∙ ap (λ (n : ℕ). sx * n) (sub-add_cancel k) in
    omega arith

pub weighed : {sx sy fx fy : ℕ} → Distances sx sy fx fy → Weighed (weights_of sx sy fx fy)
unfolding weights_of
weighed p =
    record {
      sum = weights_add p.fx_most p.fy_most;
      positive = mul-pos p.sx_pos p.sy_pos;
      most = mul-le-mul p.sx_most p.sy_most;
    }
