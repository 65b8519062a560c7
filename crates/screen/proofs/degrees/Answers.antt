-- `degrees`: one division.
use Rattle.std.proofs.Common.{pos, ap, ◌∙◌, w64}
use lib.Ieee.{Float, binary64, of_int, of_bits, div}
use mir.ValLaws.{to_z-of_z}
use Rattle.group.specs.Numbers.{mas_in_degree}
use Rattle.screen.specs.Screen.{degrees_of}
use Rattle.screen.proofs.degrees.Goals as goal

pub returns : goal.returns
unfolding degrees_of of_bits of_int
returns c =
    ap (λ (x : Float). div binary64 x (of_int binary64 (pos mas_in_degree)))
    (c.nearest_i64_to_f64.ensures ∙ ap (of_int binary64) (to_z-of_z w64 c.args.mas c.ranges.mas))
