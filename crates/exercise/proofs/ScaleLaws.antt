-- The scale of a day: its factor within the limit, 0 outside it.
use mathlib.Core.Path.{◌≡◌, refl, ap}
use mathlib.Core.Bool.{Bool, true, false, cond}
use lib.IntN.{ℤ, pos}
use Rattle.group.specs.declared.Group.{Group}
use Rattle.group.specs.Numbers.{day_fits}
use Rattle.day.specs.Day.{factor_of}
use Rattle.exercise.specs.Tables.{scale_for, no_scale}

module _ (g : Group) (t : ℤ) where
  pub scale_out : day_fits t ≡ false → scale_for g t ≡ record { day = t; factor = pos 0 }
  unfolding scale_for
  scale_out e = ap (λ (b : Bool). record { day = t; factor = cond b (factor_of g.function g.functions t) (pos 0) }) e

  pub scale_in : day_fits t ≡ true → scale_for g t ≡ record { day = t; factor = factor_of g.function g.functions t }
  unfolding scale_for
  scale_in e = ap (λ (b : Bool). record { day = t; factor = cond b (factor_of g.function g.functions t) (pos 0) }) e

  pub scale_day : (scale_for g t).day ≡ t
  unfolding scale_for
  scale_day = refl

  pub scale_same : scale_for g t ≡ scale_for g (scale_for g t).day
  unfolding scale_for
  scale_same = refl

pub scale_none : (g : Group) → no_scale ≡ scale_for g no_scale.day
unfolding scale_for
scale_none g = refl
