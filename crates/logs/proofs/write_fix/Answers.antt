-- `write_fix` meets its contract.
use Prim.Native.Nat.{ℕ}
use mathlib.Core.Path.{ap, ◌∙◌}
use mathlib.Core.List.{List}
use native.Mathlib.Omega.{arith}
use lib.ListN.{length}
use Rattle.text.specs.Put.{put}
use Rattle.abi.specs.Abi.{group_of_words}
use Rattle.header.proofs.HeaderLaws.{front_of, front_le}
use Rattle.logs.proofs.LengthLaws.{text_most}
use Rattle.logs.proofs.WrittenLaws.{fix_short, fix_count}
use Rattle.logs.proofs.write_fix.Goals as goal

pub put_line-n-requires : goal.put_line-n-requires
put_line-n-requires c =
    (c.requires, text_most (group_of_words c.args.words.now) c.args.position c.args.f c.requires)

pub returns-then-out-n : goal.returns-then-out-n
returns-then-out-n c =
    let a = c.args in
    let w = c.put_line-n.ensures.place in
    let l = c.if-out-n.true in
    let p = fix_short (group_of_words a.words.now) a.position a.f a.out.now (omega arith) in
    record { answer = p.0; bytes = p.1 }

pub put_front-requires : goal.put_front-requires
put_front-requires c =
    let k = c.put_line-n in
    let l = c.if-out-n.false in
    let w = k.ensures.place in
    let f = ap length (front_of _ _ _ _ k.ensures) in
    (front_le _ _ _ _ k.ensures, omega arith)

pub returns : goal.returns
returns c =
    let a = c.args in
    let k = c.put_line-n in
    let l = c.if-out-n.false in
    let w = k.ensures.place in
    let p =
    fix_count (group_of_words a.words.now) a.position a.f a.out.now k.result c.put_front.new.out (omega arith) (omega arith)
    (c.put_front.ensures.holds ∙ ap (λ (t : List ℕ). put 0 t a.out.now) (front_of _ _ _ _ k.ensures)) in
    record { answer = p.0; bytes = p.1 }
