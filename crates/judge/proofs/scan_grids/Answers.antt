-- `scan_grids` meets its contract: each turn takes one grid more.
use Prim.Native.Nat.{◌+◌}
use mathlib.Core.Path.{◌≡◌, refl, sym, ap, ◌∙◌}
use mathlib.Core.Bool.{not}
use native.Mathlib.Omega.{arith}
use Rattle.numbers.proofs.FirstLaws.{passed_end, passed_found}
use Rattle.group.specs.declared.Grid.{Grid}
use Rattle.group.specs.Record.{grid_at}
use Rattle.group.specs.Limits.{grid_fits}
use Rattle.abi.specs.Abi.{group_of_words}
use Rattle.abi.proofs.EntryLaws.{grid_of_words_lem}
use Rattle.flat.specs.Lists.{FlatRoom}
use Rattle.judge.specs.Judge.{bad_grid}
use Rattle.judge.specs.Rules.{KeyRoom}
use Rattle.judge.proofs.ScanLaws.{scanned_none, scanned_passed, scanned_more}
use Rattle.judge.proofs.scan_grids.Goals as goal
use Rattle.judge.proofs.scan_grids.Goals.{After-grid_of_words-g}

-- the grid that a turn reads, and the room for what it leaves of it
grid_read : (c : After-grid_of_words-g) → c.grid_of_words-g.result ≡ grid_at (group_of_words c.args.words.now) c.loop-i.i
grid_read c = c.grid_of_words-g.ensures ∙ sym (grid_of_words_lem c.args.words.now c.loop-i.i (omega (arith, c.requires.2.room.few, c.loop-i-test.true)))

key_room : (c : After-grid_of_words-g) → KeyRoom c.loop-i.fours c.loop-i.keys (c.loop-i.i + 1)
key_room c =
    let l = c.loop-i in let p = c.requires.1 in let t = c.loop-i-test.true in
    record { fours_room = omega (arith, p.fours_room, l.invariant.1, t); keys_room = omega (arith, p.keys_room, l.invariant.2, t) }

flat_room : (c : After-grid_of_words-g) → FlatRoom c.loop-i.sides c.loop-i.ranks c.loop-i.frames (c.loop-i.i + 1)
flat_room c =
    let l = c.loop-i in let p = c.requires.2 in let t = c.loop-i-test.true in
    record {
      room = record { few = omega (arith, p.room.few, t); sides_room = omega (arith, p.room.sides_room, l.invariant.3, t); ranks_room = omega (arith, p.room.ranks_room, l.invariant.4, t) };
      frames_room = omega (arith, p.frames_room, l.invariant.5, t);
    }

pub loop-i-init : goal.loop-i-init
loop-i-init c = (omega arith, refl, refl, refl, refl, refl, scanned_none)

pub returns-then-not-grid_fits : goal.returns-then-not-grid_fits
returns-then-not-grid_fits c =
    let q = goal.at.returns-then-not-grid_fits c in let l = c.loop-i in (
      passed_found (bad_grid (group_of_words c.args.words.now)) c.args.n l.i (scanned_passed c.args.n l.invariant.0 l.invariant.6) c.loop-i-test.true
          (ap (λ (d : Grid). not (grid_fits d)) (sym (grid_read q.After-grid_of_words-g)) ∙ ap not (sym c.if-not-grid_fits.ensures)),
      λ h. absurd (let t = c.loop-i-test.true in omega arith),
    )

pub list_grid-inside-requires : goal.list_grid-inside-requires
list_grid-inside-requires c =
    let q = (goal.at.list_grid-inside-requires c).After-grid_of_words-g in
    (sym c.if-not-grid_fits.ensures, c.requires.0, key_room q, flat_room q)

pub loop-i-preserved : goal.loop-i-preserved
loop-i-preserved c =
    let q = (goal.at.loop-i-preserved c).After-grid_of_words-g in let g = c.list_grid-inside in let l = c.loop-i in (
      omega (arith, c.loop-i-test.true),
      g.auto.fours ∙ l.invariant.1,
      g.auto.keys ∙ l.invariant.2,
      g.auto.sides ∙ l.invariant.3,
      g.auto.ranks ∙ l.invariant.4,
      g.auto.frames ∙ l.invariant.5,
      scanned_more (group_of_words c.args.words.now) c.args.np l.i l.edge l.fours l.keys l.sides l.ranks l.frames l.invariant.6
          (key_room q) (flat_room q) (grid_read q) (sym c.if-not-grid_fits.ensures) g.ensures.0 c.edge_after-edge.ensures g.ensures.1 g.ensures.2 g.ensures.3,
    )

pub returns : goal.returns
returns c =
    let l = c.loop-i in let e : l.i ≡ c.args.n = omega arith in (
      sym e ∙ passed_end (bad_grid (group_of_words c.args.words.now)) c.args.n l.i (scanned_passed c.args.n l.invariant.0 l.invariant.6) c.loop-i-test.false,
      λ h. rw e at l.invariant.6,
    )
