-- `text::cut_fields` meets its contract.
use Prim.Native.Nat.{◌+◌}
use mathlib.Core.Path.{◌≡◌, sym, ◌∙◌}
use native.Mathlib.Omega.{arith}
use lib.ListN.{drop, set, length-drop}
use lib.Seq.{set_out}
use Rattle.text.proofs.PartLaws.{up_to_le}
use Rattle.text.proofs.CutLaws.{none_cut, one_more, last_cut, next_cut}
use Rattle.text.proofs.cut_fields.Goals.{Joined-n-lt-CUTS, then-n-lt-CUTS, else-n-lt-CUTS}
use Rattle.text.proofs.cut_fields.Goals as goal

pub loop-n-init : goal.loop-n-init
loop-n-init c = none_cut c.args.line.now c.args.cuts.now c.requires

pub overflow_add-i : goal.overflow_add-i
overflow_add-i c =
    let w = c.loop-n.invariant in
    let s = c.args.line.now in
    omega (arith, w.within, w.below, up_to_le 9 (drop c.loop-n.i s), length-drop c.loop-n.i s)

pub overflow_add-n : goal.overflow_add-n
overflow_add-n c =
    let w = c.loop-n.invariant in
    let s = c.args.line.now in
    omega (arith, w.within, w.below, up_to_le 9 (drop c.loop-n.i s), length-drop c.loop-n.i s)

-- a place is stored where there is room for it
stored : (c : Joined-n-lt-CUTS) → c.if-n-lt-CUTS.cuts ≡ set c.loop-n.cuts (c.loop-n.n + 1) (c.find_from-e.result + 1)
stored c =
    let l = c.loop-n in
    let r = l.invariant.room in
    elim c.if-n-lt-CUTS.branch [
      | then-n-lt-CUTS w ↦ w.cuts-is
      | else-n-lt-CUTS w ↦ w.cuts-is ∙ sym (set_out l.cuts (l.n + 1) (c.find_from-e.result + 1) (let t = w.if-n-lt-CUTS.false in omega arith))
    ]

pub returns-then-line-e : goal.returns-then-line-e
returns-then-line-e c =
    let s = c.args.line.now in
    let l = c.loop-n in
    let e = c.find_from-e in
    let n = last_cut s l.cuts l.n l.i e.result l.invariant e.ensures c.if-line-e.true in
    record {
      value = n;
      cuts = λ k h m. rw (stored (goal.at.returns-then-line-e c).Joined-n-lt-CUTS) (one_more s l.cuts l.n l.i e.result l.invariant e.ensures k (omega arith) m);
    }

pub loop-n-preserved : goal.loop-n-preserved
loop-n-preserved c =
    let l = c.loop-n in
    let e = c.find_from-e in
    rw (stored (goal.at.loop-n-preserved c).Joined-n-lt-CUTS) (next_cut c.args.line.now l.cuts l.n l.i e.result l.invariant e.ensures (omega arith))
