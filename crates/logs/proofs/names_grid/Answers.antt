-- `names_grid` meets its contract.
use Prim.Native.Nat.{ℕ, ◌<◌}
use mathlib.Core.Path.{◌≡◌, sym, ◌∙◌}
use mathlib.Core.List.{List}
use native.Mathlib.Omega.{arith}
use lib.ListN.{length, get_or}
use lib.IntN.{ℤ}
use Rattle.text.proofs.FieldLaws.{same_unequal, same_step, same_differ, same_end}
use Rattle.line.specs.Names.{name_text}
use Rattle.abi.specs.Abi.{grid_of_words}
use Rattle.logs.proofs.EntryLaws.{grid_name_length, grid_name_at}
use Rattle.logs.proofs.names_grid.Goals as goal
use Rattle.logs.proofs.names_grid.Goals.{Else-name-grid_name_length, After-grid_name_byte}

abbrev text : List ℤ → ℕ → List ℕ
text words k = name_text (grid_of_words words k).name

-- the names are equally long
long : (c : Else-name-grid_name_length) → length (text c.args.words.now c.args.k) ≡ length c.args.name.now
long c =
    let e = c.grid_name_length.ensures in let t = grid_name_length c.args.words.now c.args.k c.requires.1 in let q = c.if-name-grid_name_length.false in
    omega arith

-- the byte that is read is the name's
byte : (c : After-grid_name_byte) → c.loop-i.i < length c.args.name.now → c.grid_name_byte.result ≡ get_or (text c.args.words.now c.args.k) c.loop-i.i 0
byte c h =
    let t = grid_name_length c.args.words.now c.args.k c.requires.1 in let e = c.grid_name_length.ensures in let q = c.if-name-grid_name_length.false in
    c.grid_name_byte.ensures ∙ sym (grid_name_at c.args.words.now c.args.k c.requires.1 c.loop-i.i (omega arith))

pub returns-then-name-grid_name_length : goal.returns-then-name-grid_name_length
returns-then-name-grid_name_length c =
    let e = c.grid_name_length.ensures in let t = grid_name_length c.args.words.now c.args.k c.requires.1 in
    sym (same_unequal c.args.name.now (text c.args.words.now c.args.k) (λ q. c.if-name-grid_name_length.true (q ∙ t ∙ sym e)))

pub returns-then-b-grid_name_byte : goal.returns-then-b-grid_name_byte
returns-then-b-grid_name_byte c =
    let q = goal.at.returns-then-b-grid_name_byte c in
    let h = c.loop-i-test.true in let l = long q.Else-name-grid_name_length in
    sym (sym c.loop-i.invariant
    ∙ same_differ c.args.name.now (text c.args.words.now c.args.k) c.loop-i.i h (omega arith) (λ e. c.if-b-grid_name_byte.true (e ∙ sym (byte q.After-grid_name_byte h))))

pub loop-i-preserved : goal.loop-i-preserved
loop-i-preserved c =
    let q = goal.at.loop-i-preserved c in
    let h = c.loop-i-test.true in let l = long q.Else-name-grid_name_length in
    sym (same_step c.args.name.now (text c.args.words.now c.args.k) c.loop-i.i h (omega arith) (c.if-b-grid_name_byte.false ∙ byte q.After-grid_name_byte h))
    ∙ c.loop-i.invariant

pub returns : goal.returns
returns c =
    let h = c.loop-i-test.false in let l = long (goal.at.returns c).Else-name-grid_name_length in
    sym (sym c.loop-i.invariant ∙ same_end c.args.name.now (text c.args.words.now c.args.k) c.loop-i.i h (omega arith))
