-- What a scan of a number meets.
use Rattle.std.specs.Prelude.{Some}
use Prim.Native.Nat.{ℕ, suc, ◌+◌, ◌-◌, ◌*◌, ◌<◌, min}
use mathlib.Core.Path.{◌≡◌, refl, sym, ap, ◌∙◌}
use mathlib.Core.Bool.{Bool, true, false, cond}
use mathlib.Core.List.{List, [], ◌∷◌}
use mathlib.Core.Option as M
use native.Mathlib.Numerals.{add-one}
use native.Mathlib.Omega.{arith}
use lib.ListN.{length, drop, get_or}
use lib.Seq.{drop-cons}
use Rattle.text.specs.Decimal.{is_digit, digits_from}
use Rattle.text.specs.Number.{number_most, natural_of}

-- a number that is capped on the way is capped alike at the end
pub capped : (t : List ℕ) (m : ℕ) → natural_of (digits_from (min m number_most) t) ≡ natural_of (digits_from m t)
capped [] m = ap Some (omega arith)
capped (d ∷ ds) m = go (is_digit d) (sym (capped ds (min m number_most * 10 + (d - 48))) ∙ ap (λ (k : ℕ). natural_of (digits_from k ds)) e ∙ capped ds (m * 10 + (d - 48)))
  where
    e : min (min m number_most * 10 + (d - 48)) number_most ≡ min (m * 10 + (d - 48)) number_most
    e = omega arith

    go : (b : Bool) → natural_of (digits_from (min m number_most * 10 + (d - 48)) ds) ≡ natural_of (digits_from (m * 10 + (d - 48)) ds)
        → natural_of (cond b (digits_from (min m number_most * 10 + (d - 48)) ds) M.none) ≡ natural_of (cond b (digits_from (m * 10 + (d - 48)) ds) M.none)
    go true h = h
    go false h = refl

module _ (s : List ℕ) (i : ℕ) where
  pub digits_step : (m : ℕ) → i < length s → is_digit (get_or s i 0) ≡ true → natural_of (digits_from m (drop i s)) ≡ natural_of (digits_from (min (m * 10 + (get_or s i 0 - 48)) number_most) (drop (i + 1) s))
  digits_step m h e =
      rw (drop-cons s i 0 h, e, add-one)
      (sym (capped (drop (suc i) s) (m * 10 + (get_or s i 0 - 48))))
