-- Document 01's cell: its index along an axis, the weights of its corners, which of them are used, and the value at a point.
use Rattle.std.specs.Prelude.{ℕ, ◌-◌, ◌*◌, ◌/◌, min, Bool, not, ◌&&◌, ◌||◌, ltb, ℤ, pos, ◌+ℤ◌, ◌*ℤ◌}
use Rattle.numbers.specs.Round.{round_z}
use Rattle.group.specs.Numbers.{value_fits}
use Rattle.cell.specs.declared.Along.{Along}
use Rattle.cell.specs.declared.Weights.{Weights}
use Rattle.cell.specs.declared.Corners.{Corners}

-- the whole number of spacings from node 0, but never above count − 2
unfoldable pub cell_index : (distance spacing count : ℕ) → ℕ
cell_index distance spacing count = min (distance / spacing) (count - 2)

-- with the distance from the cell's node of lower index
unfoldable pub cell_along : (distance spacing count : ℕ) → Along
cell_along distance spacing count =
    record {
      index = cell_index distance spacing count;
      rest = distance - cell_index distance spacing count * spacing;
    }

unfoldable pub weights_of : (sx sy fx fy : ℕ) → Weights
weights_of sx sy fx fy =
    record {
      w00 = (sx - fx) * (sy - fy);
      w10 = fx * (sy - fy);
      w01 = (sx - fx) * fy;
      w11 = fx * fy;
      total = sx * sy;
    }

-- beyond the limit of node values
abbrev pub is_beyond : ℤ → Bool
is_beyond v = not (value_fits v)

-- a corner of weight 0 isn't used
abbrev pub used : ℕ → Bool
used w = ltb 0 w

-- some used corner passes a test
unfoldable pub used_some : (ℤ → Bool) → Weights → Corners → Bool
used_some test w v =
    (used w.w00 && test v.v00) || (used w.w10 && test v.v10) || (used w.w01 && test v.v01)
    || (used w.w11 && test v.v11)

-- the weighted sum of the corners
abbrev pub weighted_sum : Weights → Corners → ℤ
weighted_sum w v =
    pos w.w00 *ℤ v.v00 +ℤ pos w.w10 *ℤ v.v10 +ℤ pos w.w01 *ℤ v.v01 +ℤ pos w.w11 *ℤ v.v11

-- over sx·sy, to the nearest whole step, a tie to the even one
unfoldable pub value_of : Weights → Corners → ℤ
value_of w v = round_z (weighted_sum w v) w.total
