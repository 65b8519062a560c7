-- `line::put_numbers` meets its contract.
use Prim.Native.Nat.{ℕ, suc, ◌<◌, ◌≤◌}
use mathlib.Core.Path.{refl, sym, subst}
use mathlib.Core.List.{List, [], ◌∷◌}
use native.Mathlib.Numerals.{add-one}
use borrow.Author.Rules.{rules}
use lib.IntN.{ℤ, pos}
use lib.ListN.{length, take, drop, get_or, drop_of_length-le}
use lib.Seq.{drop-cons}
use Rattle.text.proofs.PutLaws.{Left, left_all, left_none, int_room, int_more}
use Rattle.line.proofs.put_numbers.Invariants.{text}
use Rattle.line.proofs.put_numbers.Goals as goal

module _ {at k next : ℕ} {out bytes : List ℕ} (zs : List ℤ) (w : Left at (text zs) out (text (drop k zs)) next bytes) where
  number_left : k < length zs → Left at (text zs) out (text (get_or zs k (pos 0) ∷ drop (suc k) zs)) next bytes
  number_left h = subst (λ (ys : List ℤ). Left at (text zs) out (text ys) next bytes) (drop-cons zs k (pos 0) h) w

  none_left : length zs ≤ k → Left at (text zs) out [] next bytes
  none_left h = subst (λ (ys : List ℤ). Left at (text zs) out (text ys) next bytes) (drop_of_length-le zs {i = k} h) w

pub loop-z-init : goal.loop-z-init
loop-z-init c = left_all c.args.at (text (take c.args.n c.args.numbers.now)) c.args.out.now _ refl c.requires.1

pub put_number-next-requires : goal.put_number-next-requires
put_number-next-requires c =
    let zs = take c.args.n c.args.numbers.now in let k = c.loop-z.z-index in
    int_room (get_or zs k (pos 0)) (text (drop (suc k) zs)) (search rules) (number_left zs c.loop-z.invariant c.loop-z-test.true)

pub loop-z-preserved : goal.loop-z-preserved
loop-z-preserved c =
    let zs = take c.args.n c.args.numbers.now in let k = c.loop-z.z-index in
    let p = c.put_number-next in
    subst (λ (j : ℕ). Left c.args.at (text zs) c.args.out.now (text (drop j zs)) p.result p.new.out) (sym (add-one k))
    (int_more (get_or zs k (pos 0)) (text (drop (suc k) zs)) (search rules) (number_left zs c.loop-z.invariant c.loop-z-test.true) p.ensures)

pub returns : goal.returns
returns c =
    let zs = take c.args.n c.args.numbers.now in
    left_none (none_left zs c.loop-z.invariant c.loop-z-test.false)
