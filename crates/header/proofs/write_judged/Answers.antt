-- `write_judged` meets its contract.
use Prim.Native.Nat.{ℕ}
use mathlib.Core.Path.{◌≡◌, sym, ap, ◌∙◌}
use mathlib.Core.List.{List}
use native.Mathlib.Omega.{arith}
use borrow.Author.Rules.{rules}
use lib.ListN.{length}
use Rattle.text.specs.Put.{put}
use Rattle.judge.specs.Judge.{judged}
use Rattle.header.proofs.LengthLaws.{length_most}
use Rattle.header.proofs.HeaderLaws.{front_of, front_le, refused_answer, short_answer, count_answer}
use Rattle.header.proofs.write_judged.Goals as goal
use Rattle.std.specs.Prelude.{Ok, Err}

pub returns-in_err-verdict-clause-answer : goal.returns-in_err-verdict-clause-answer
returns-in_err-verdict-clause-answer c =
    let refused : c.from_residual.result ≡ Err c.in_err-verdict.field-0.0 = search rules in
    refused ∙ (refused_answer c.args.group c.args.out.now _ (sym c.requires ∙ c.in_err-verdict.was)).0

pub returns-in_err-verdict-clause-bytes : goal.returns-in_err-verdict-clause-bytes
returns-in_err-verdict-clause-bytes c = (refused_answer c.args.group c.args.out.now _ (sym c.requires ∙ c.in_err-verdict.was)).1

pub put_group-n-requires : goal.put_group-n-requires
put_group-n-requires c =
    let fine : judged c.args.group ≡ Ok tt = sym c.requires ∙ c.in_ok-verdict.was in
    (fine, length_most c.args.group fine)

pub returns-then-out-n : goal.returns-then-out-n
returns-then-out-n c =
    let fine : judged c.args.group ≡ Ok tt = sym c.requires ∙ c.in_ok-verdict.was in
    let s = c.args in
    let w = c.put_group-n.ensures.place in
    let l = c.if-out-n.true in
    let p = short_answer s.group s.out.now fine (omega arith) in
    record { answer = p.0; bytes = p.1 }

pub put_front-requires : goal.put_front-requires
put_front-requires c =
    let k = c.put_group-n in
    let l = c.if-out-n.false in
    let w = k.ensures.place in
    let f = ap length (front_of _ _ _ _ k.ensures) in
    (front_le _ _ _ _ k.ensures, omega arith)

pub returns : goal.returns
returns c =
    let fine : judged c.args.group ≡ Ok tt = sym c.requires ∙ c.in_ok-verdict.was in
    let s = c.args in
    let k = c.put_group-n in
    let l = c.if-out-n.false in
    let w = k.ensures.place in
    let p =
    count_answer s.group s.out.now fine k.result c.put_front.new.out (omega arith) (omega arith)
    (c.put_front.ensures.holds ∙ ap (λ (t : List ℕ). put 0 t s.out.now) (front_of _ _ _ _ k.ensures)) in
    record { answer = p.0; bytes = p.1 }
