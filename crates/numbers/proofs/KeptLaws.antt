-- What of a list stays while it is filled from its start on.
use Prim.Native.Nat.{ℕ, ◌≤◌, ◌<◌}
use mathlib.Core.Path.{refl, ◌∙◌}
use mathlib.Core.List.{List}
use native.Mathlib.Omega.{arith}
use lib.ListN.{set, length-set}
use lib.Seq.{get_or-set_other}
use Rattle.numbers.specs.Lists.{Kept}

pub kept_all : {n : ℕ} {list : List ℕ} → Kept n list list
kept_all {n} {list} = record { long = refl; same = λ j h. refl }

-- less of it stays
pub kept_more : {n m : ℕ} {first list : List ℕ} → Kept n first list → n ≤ m → Kept m first list
kept_more {n} {m} {first} {list} k h = record { long = k.long; same = λ j q. k.same j (omega arith) }

-- a number is stored before what stays
pub kept_set : {n : ℕ} {first list : List ℕ} (i v : ℕ) → Kept n first list → i < n → Kept n first (set list i v)
kept_set {n} {first} {list} i v k l =
    record {
      long = length-set list i v ∙ k.long;
      same = λ j q. get_or-set_other list i j v 0 (λ e. omega arith) ∙ k.same j q;
    }

-- one filling behind another
pub kept_on : {n : ℕ} {first list after : List ℕ} → Kept n first list → Kept n list after → Kept n first after
kept_on k m = record { long = m.long ∙ k.long; same = λ j h. m.same j h ∙ k.same j h }
