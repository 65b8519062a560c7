-- The function of a kind and four numbers, kind by kind; and what was stored is read back.
use mathlib.Core.Path.{◌≡◌, refl}
use mathlib.Core.Bool.{true, false, ◌&&◌}
use mathlib.Core.List.{[], ◌∷◌}
use lib.IntN.{ℤ, pos}
use Rattle.group.specs.Numbers.{is_zero}
use Rattle.group.specs.Shapes.{ramp_of, step_of, ramp2_of}
use Rattle.group.specs.declared.Shape.{Shape}
use Rattle.group.specs.declared.Shape.TheVariants as S
use Rattle.abi.specs.Abi.{is_kind, no_function, function_of, kind_of, shape_int}

module _ (kind a b c d : ℤ) where
  pub is_ramp : is_kind 0 kind ≡ true → function_of kind a b c d ≡ record { shape = ramp_of (a ∷ b ∷ c ∷ d ∷ []) }
  unfolding function_of
  is_ramp e = rw e

  pub is_step : is_kind 0 kind ≡ false → (is_kind 1 kind && is_zero d) ≡ true
      → function_of kind a b c d ≡ record { shape = step_of (a ∷ b ∷ c ∷ d ∷ []) }
  unfolding function_of
  is_step e f = rw (e, f)

  pub is_ramp2 : is_kind 0 kind ≡ false → (is_kind 1 kind && is_zero d) ≡ false → is_kind 2 kind ≡ true
      → function_of kind a b c d ≡ record { shape = ramp2_of (a ∷ b ∷ c ∷ d ∷ []) }
  unfolding function_of
  is_ramp2 e f g = rw (e, f, g)

  pub is_none : is_kind 0 kind ≡ false → (is_kind 1 kind && is_zero d) ≡ false → is_kind 2 kind ≡ false → function_of kind a b c d ≡ no_function
  unfolding function_of
  is_none e f g = rw (e, f, g)

pub shape_back : (s : Shape) → function_of (pos (kind_of s)) (shape_int s 0) (shape_int s 1) (shape_int s 2) (shape_int s 3) ≡ record { shape = s }
unfolding function_of
shape_back (S.Ramp r) = refl
shape_back (S.Step s) = refl
shape_back (S.Ramp2 r) = refl
