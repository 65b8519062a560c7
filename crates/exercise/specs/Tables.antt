-- What the code of a call for many points works on, made once: the tables of an accepted group, and the factor of the day last looked up.
use Rattle.std.specs.Prelude.{ℕ, ◌+◌, ◌*◌, ◌≤◌, ◌≡◌, Bool, cond, false, List, [], ◌∷◌, ℤ, pos, length, Result, Ok, Err, ⊤}
use Rattle.numbers.specs.First.{some}
use Rattle.group.specs.declared.Group.{Group}
use Rattle.group.specs.Numbers.{day_most, day_fits}
use Rattle.abi.specs.Abi.{stored}
use Rattle.flat.specs.Lists.{Flat}
use Rattle.flat.specs.Turned.{RankedRows}
use Rattle.judge.specs.Judge.{judged}
use Rattle.day.specs.Day.{factor_of}
use Rattle.lookup.specs.declared.Answer.{Answer}
use Rattle.lookup.specs.Lookup.{ends_early}
use Rattle.exercise.specs.declared.Scale.{Scale}
use Rattle.exercise.specs.declared.Tables.{Tables}
use Rattle.exercise.specs.Exercise.{many_verdict}
use Rattle.group.specs.declared.Refusal.{Refusal}

-- the tables hold a group's rows in the order of ranks, with their owners, shifts and count, and its frames
pub record Tabled (g : Group) (t : Tables) : Type 0 where
  pub sides : List ℕ
  pub ranks : List ℕ
  pub room : g.grids * 4 ≤ length sides
  pub flat : Flat g g.grids sides ranks t.frames
  pub rows : RankedRows sides ranks t.rows t.owners t.shifts g.grids t.count

-- what judging a call answers: the tables are filled where nothing is refused
abbrev pub CallJudged : Group → (nodes : ℕ) → Bool → Result ⊤ Refusal → Tables → Type 0
CallJudged g nodes agree (Ok u) t = (many_verdict g nodes agree ≡ Ok tt) × Tabled g t
CallJudged g nodes agree (Err r) t = many_verdict g nodes agree ≡ Err r

-- what the lookup of each point may rely on
pub record CallReady (g : Group) (nodes : ℕ) (t : Tables) : Type 0 where
  pub accepted : judged g ≡ Ok tt
  pub ends : some (ends_early g nodes) g.grids ≡ false
  pub tabled : Tabled g t

-- a day and its factor
unfoldable pub scale_for : Group → ℤ → Scale
scale_for g t = record { day = t; factor = cond (day_fits t) (factor_of g.function g.functions t) (pos 0) }

-- a day outside the limit, which stands for none
abbrev pub no_scale : Scale
no_scale = record { day = pos (day_most + 1); factor = pos 0 }

-- the numbers of an answer as the code stores them
abbrev pub stored_numbers : Answer → List ℤ
stored_numbers a = stored a.number ∷ stored a.place ∷ a.grid ∷ a.first ∷ a.second ∷ a.third ∷ []
