-- `judge_line` meets its contract.
use Prim.Native.Nat.{ℕ}
use mathlib.Core.Path.{◌≡◌, sym, ap, ◌∙◌, subst}
use mathlib.Core.Option.{none}
use native.Mathlib.Omega.{arith}
use borrow.Author.Rules.{rules}
use mir.Syntax.{w64}
use mir.ValLaws.{to_z-of_z}
use Rattle.abi.specs.Abi.{number_at, group_of_words}
use Rattle.judge.proofs.Accepted.{accepted_head}
use Rattle.lookup.specs.Lookup.{looked}
use Rattle.exercise.specs.declared.Scale.{Scale}
use Rattle.exercise.specs.Tables.{scale_for}
use Rattle.exercise.proofs.ScaleLaws.{scale_day, scale_same}
use Rattle.logs.specs.Line.{found_kind, read_entry}
use Rattle.logs.specs.Reading.{Said, EntryRead, Scaled}
use Rattle.logs.proofs.PlaceLaws.{point_of}
use Rattle.logs.proofs.TurnLaws.{line_unformed, line_formed, found_in}
use Rattle.logs.proofs.judge_line.Goals as goal
use Rattle.logs.proofs.judge_line.Goals.{In-Some, After-scale_on-next, After-look_at-found}

-- the line says so many shifts as the group has parameters
said : (c : In-Some) → Said (group_of_words c.args.words.now).parameters c.args.line.now c.in-Some.said.place c.in-Some.said.name.now c.in-Some.said.shifts
said c =
    subst (λ (n : ℕ). Said n c.args.line.now c.in-Some.said.place c.in-Some.said.name.now c.in-Some.said.shifts) c.parameter_count-np.ensures c.in-Some.ensures

scaled : (c : After-scale_on-next) → Scaled (group_of_words c.args.words.now) c.scale_on-next.result
scaled c =
    let e = c.scale_on-next.ensures in
    e ∙ scale_same (group_of_words c.args.words.now) _ ∙ ap (λ (s : Scale). scale_for (group_of_words c.args.words.now) s.day) (sym e)

-- what is looked up is the position that was read, whose numbers come by way of their bits
found : (c : After-look_at-found)
    → c.look_at-found.result
    ≡ looked (group_of_words c.args.words.now) c.args.nodes.now (point_of (number_at c.in-Some.said.place 0) (number_at c.in-Some.said.place 1)) (number_at c.in-Some.said.place 2)
found c =
    let g = group_of_words c.args.words.now in
    let place = c.in-Some.said.place in
    let x = to_z-of_z w64 (number_at place 0) (search rules) in
    let y = to_z-of_z w64 (number_at place 1) (search rules) in
    let t = to_z-of_z w64 (number_at place 2) (search rules) in
    let day : c.scale_on-next.result.day ≡ number_at place 2 = ap (λ (s : Scale). s.day) c.scale_on-next.ensures ∙ scale_day g _ ∙ t in
    c.look_at-found.ensures ∙ (λ i. looked g c.args.nodes.now (point_of (x i) (y i)) (day i))

pub read_entry-requires : goal.read_entry-requires
read_entry-requires c =
    let e = c.parameter_count-np.ensures in
    let m = (accepted_head (group_of_words c.args.words.now) c.requires.call.accepted).parameters in
    omega arith

pub returns-in_default : goal.returns-in_default
returns-in_default c =
    let unread = subst (EntryRead c.parameter_count-np.result c.args.line.now) c.in_default.is c.read_entry.ensures in
    record {
      kind = sym (line_unformed (group_of_words c.args.words.now) c.args.nodes.now c.args.line.now (subst (λ (n : ℕ). read_entry n c.args.line.now ≡ none) c.parameter_count-np.ensures unread));
      scale = c.requires.scale;
    }

pub look_at-found-requires : goal.look_at-found-requires
look_at-found-requires c = record { call = c.requires.call; scale = scaled (goal.at.look_at-found-requires c).After-scale_on-next }

pub kind_of-requires : goal.kind_of-requires
kind_of-requires c =
    let q = (goal.at.kind_of-requires c).After-look_at-found in
    (found_in (group_of_words c.args.words.now) c.args.nodes.now _ _ _ _ c.requires.call.accepted (found q), search rules)

pub returns : goal.returns
returns c =
    let g = group_of_words c.args.words.now in
    let q = goal.at.returns c in
    record {
      kind = c.kind_of.ensures
          ∙ ap (found_kind g c.in-Some.said.name.now c.in-Some.said.shifts) (found q.After-look_at-found)
          ∙ sym (line_formed g c.args.nodes.now c.args.line.now c.in-Some.said.place c.in-Some.said.name.now c.in-Some.said.shifts (said q.In-Some));
      scale = scaled q.After-scale_on-next;
    }
