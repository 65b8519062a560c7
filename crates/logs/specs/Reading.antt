-- What the inner functions of the judge and of the writer answer, and may rely on.
use Rattle.std.specs.Prelude.{ℕ, ◌≤◌, ◌<◌, ◌≡◌, List, map, ℤ, nat_abs, take, Option, Some, None, Result, Ok}
use Rattle.std.proofs.Math.Option.{none, some}
use Rattle.text.specs.Number.{clamp}
use Rattle.group.specs.declared.Group.{Group}
use Rattle.group.specs.declared.Position.{Position}
use Rattle.group.specs.Numbers.{lon_most, lat_most, day_most, result_most}
use Rattle.judge.specs.Judge.{judged}
use Rattle.fix.specs.declared.Fix.{Fix}
use Rattle.fix.specs.Answers.{result_in}
use Rattle.exercise.specs.declared.Scale.{Scale}
use Rattle.exercise.specs.declared.Tables.{Tables}
use Rattle.exercise.specs.Tables.{CallReady, scale_for}
use Rattle.logs.specs.declared.Entry.{Entry}
use Rattle.logs.specs.declared.Turn.{Turn}
use Rattle.logs.specs.Line.{position_of, read_entry, line_kind}
use Rattle.group.specs.declared.Refusal.{Refusal}

-- what a line of the form says: the numbers of its position and its shifts, and its name's field
pub record Said (np : ℕ) (line : List ℕ) (place : List ℤ) (name : List ℕ) (values : List ℤ) : Type 0 where
  pub zs : List ℤ
  pub vs : List ℤ
  pub entry : read_entry np line ≡ some (record { position = position_of zs; name = name; shifts = vs })
  pub placed : map clamp zs ≡ place
  pub valued : map clamp vs ≡ take np values

abbrev pub EntryRead : ℕ → List ℕ → Option Entry → Type 0
EntryRead np line None = read_entry np line ≡ none
EntryRead np line (Some e) = Said np line e.place e.name.now e.shifts

-- an accepted group, and a fix in one of its grids
pub record FoundIn (g : Group) (l : Result Fix Refusal) : Type 0 where
  pub accepted : judged g ≡ Ok tt
  pub grid : (f : Fix) → l ≡ Ok f → (0 < f.grid) × (f.grid ≤ g.grids)

-- the scale of a day is that of its group
abbrev pub Scaled : Group → Scale → Type 0
Scaled g s = s ≡ scale_for g s.day

-- what a line's turn may rely on, and what it answers: the line's kind, and the scale of the day last looked up
pub record TurnReady (g : Group) (nodes : ℕ) (tables : Tables) (s : Scale) : Type 0 where
  pub call : CallReady g nodes tables
  pub scale : Scaled g s

pub record TurnTaken (g : Group) (nodes : List ℤ) (line : List ℕ) (t : Turn) : Type 0 where
  pub kind : t.kind ≡ line_kind g nodes line
  pub scale : Scaled g t.scale

-- what the writer of a fix may rely on: its grid is one of an accepted group's, and no number is longer than a lookup's can be
pub record FixFound (g : Group) (p : Position) (f : Fix) : Type 0 where
  pub accepted : judged g ≡ Ok tt
  pub some : 0 < f.grid
  pub among : f.grid ≤ g.grids
  pub lon : nat_abs p.lon.0 ≤ lon_most
  pub lat : nat_abs p.lat.0 ≤ lat_most
  pub day : nat_abs p.day ≤ day_most
  pub results : (q : ℕ) → nat_abs (result_in f q) ≤ result_most
