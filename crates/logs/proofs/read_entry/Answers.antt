-- `read_entry` meets its contract.
use Prim.Native.Nat.{ℕ, ◌+◌, ◌≤◌}
use mathlib.Core.Path.{◌≡◌, sym, ap, subst, ◌∙◌}
use mathlib.Core.Bool.{true}
use mathlib.Core.List.{List, [], ◌∷◌}
use native.Mathlib.Omega.{arith}
use lib.IntN.{ℤ, pos}
use lib.ListN.{length, take, drop}
use lib.Seq.{length-take-le, take_at}
use Rattle.text.specs.Parts.{split, field_of}
use Rattle.text.specs.Fields.{read_ints}
use Rattle.group.specs.Numbers.{parameters_most}
use Rattle.line.specs.Names.{is_name}
use Rattle.line.specs.Numbers.{NumbersRead}
use Rattle.logs.proofs.EntryLaws.{entry_miss, entry_count, entry_unnamed, entry_unplaced, entry_unvalued, entry_said}
use Rattle.logs.proofs.read_entry.Goals as goal
use Rattle.logs.proofs.read_entry.Goals.{Else-not-cut_as, Else-not-is_name, After-read_numbers, After-read_numbers-2}

counted : (c : Else-not-cut_as) → length (split 9 c.args.line.now) ≡ 5 + c.args.np
counted c = entry_count c.args.np c.args.line.now _ c.cut_as.ensures.value c.if-not-cut_as.false

named : (c : Else-not-is_name) → is_name (field_of c.args.line.now 4) ≡ true
named c = ap is_name (sym c.cut_field-name.ensures) ∙ sym c.is_name.ensures ∙ c.if-not-is_name.false

-- the shifts before they are read
abbrev zeros : List ℤ
zeros = pos 0 ∷ pos 0 ∷ pos 0 ∷ []

-- so many of them
some_zeros : (np : ℕ) → np ≤ parameters_most → length (take np zeros) ≡ np
some_zeros np h = length-take-le np zeros (omega arith)

-- as many are read as the line has to have
read : (c : After-read_numbers-2) → NumbersRead (read_ints (take c.args.np (drop 5 (split 9 c.args.line.now)))) c.read_numbers-2.result c.read_numbers-2.new.numbers
read c =
    subst (λ (m : ℕ). NumbersRead (read_ints (take m (drop 5 (split 9 c.args.line.now)))) c.read_numbers-2.result c.read_numbers-2.new.numbers)
    (some_zeros c.args.np c.requires) c.read_numbers-2.ensures

pub returns-then-not-cut_as : goal.returns-then-not-cut_as
returns-then-not-cut_as c = entry_miss c.args.np c.args.line.now _ c.cut_as.ensures.value c.if-not-cut_as.true

pub cut_field-name-requires : goal.cut_field-name-requires
cut_field-name-requires c =
    let n = counted (goal.at.cut_field-name-requires c).Else-not-cut_as in
    (omega arith, c.cut_as.ensures.cuts 4 (omega arith) (omega arith))

pub returns-then-not-is_name : goal.returns-then-not-is_name
returns-then-not-is_name c =
    entry_unnamed c.args.np c.args.line.now _ c.cut_as.ensures.value c.if-not-cut_as.false
    (ap is_name (sym c.cut_field-name.ensures) ∙ sym c.is_name.ensures ∙ c.if-not-is_name.true)

pub read_numbers-requires : goal.read_numbers-requires
read_numbers-requires c =
    let n = counted (goal.at.read_numbers-requires c).Else-not-cut_as in
    (c.cut_as.ensures.cuts, omega arith, omega arith)

pub returns-then-not-read_numbers : goal.returns-then-not-read_numbers
returns-then-not-read_numbers c =
    entry_unplaced c.args.np c.args.line.now _ c.cut_as.ensures.value c.if-not-cut_as.false (named (goal.at.returns-then-not-read_numbers c).Else-not-is_name)
    _ _ c.read_numbers.ensures c.if-not-read_numbers.true

pub slice_bounds-read_numbers-end-2 : goal.slice_bounds-read_numbers-end-2
slice_bounds-read_numbers-end-2 c = sym (some_zeros c.args.np c.requires)

pub read_numbers-requires-2 : goal.read_numbers-requires-2
read_numbers-requires-2 c =
    let n = counted (goal.at.read_numbers-requires-2 c).Else-not-cut_as in
    let m = c.requires in
    let l = some_zeros c.args.np c.requires in
    (c.cut_as.ensures.cuts, omega arith, omega arith)

pub returns-then-not-read_numbers-2 : goal.returns-then-not-read_numbers-2
returns-then-not-read_numbers-2 c =
    let q = goal.at.returns-then-not-read_numbers-2 c in
    entry_unvalued c.args.np c.args.line.now _ c.cut_as.ensures.value c.if-not-cut_as.false (named q.Else-not-is_name)
    _ _ _ _ c.read_numbers.ensures c.if-not-read_numbers.false (read q.After-read_numbers-2) c.if-not-read_numbers-2.true

pub returns : goal.returns
returns c =
    let q = goal.at.returns c in let n = counted q.Else-not-cut_as in
    entry_said c.args.np c.args.line.now _ c.cut_as.ensures.value c.if-not-cut_as.false (named q.Else-not-is_name)
    _ _ _ _ c.read_numbers.ensures c.if-not-read_numbers.false (read q.After-read_numbers-2) c.if-not-read_numbers-2.false
    c.cut_field-name.ensures
    (λ e. sym (take_at c.read_numbers-2.new.numbers _ c.args.np e))
