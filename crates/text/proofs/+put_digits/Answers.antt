-- `text::put_digits` meets its contract: the digits of n are those of n / 10 and one more.
use Rattle.std.proofs.Common.{ℕ, ◌+◌, ◌/◌, ◌%◌, ◌∙◌, List, ap, sym, arith}
use Rattle.std.proofs.Math.ListN.{set}
use Rattle.text.specs.Decimal.{decimal}
use Rattle.text.specs.Put.{put}
use Rattle.text.proofs.DecimalLaws.{decimal_digit, decimal_more, length_digit, length_more}
use Rattle.text.proofs.PutLaws.{put_one, put_snoc}
use Rattle.text.proofs.+put_digits.Goals as goal

pub bounds-out-at : goal.bounds-out-at
bounds-out-at t c = omega (arith, length_digit c.args.n c.if-n-lt10.true)

pub returns-then-n-lt10 : goal.returns-then-n-lt10
returns-then-n-lt10 t c =
    let a = c.args in
    let l = length_digit a.n c.if-n-lt10.true in
    record {
      place = omega arith;
      holds = put_one a.at (48 + a.n) a.out.now (omega arith) ∙ ap (λ (l : List ℕ). put a.at l a.out.now) (sym (decimal_digit a.n c.if-n-lt10.true));
    }

pub put_digits-p-requires : goal.put_digits-p-requires
put_digits-p-requires t c = (omega (arith, c.decreases), omega (arith, length_more c.args.n c.if-n-lt10.false))

pub bounds-out-p : goal.bounds-out-p
bounds-out-p t c = omega (arith, length_more c.args.n c.if-n-lt10.false, c.put_digits-p.auto.out)

pub overflow_add-result-2 : goal.overflow_add-result-2
overflow_add-result-2 t c = omega (arith, length_more c.args.n c.if-n-lt10.false)

pub returns : goal.returns
returns t c =
    let a = c.args in
    let k = c.put_digits-p in
    let m = length_more a.n c.if-n-lt10.false in
    record {
      place = omega arith;
      holds = ap (λ (l : List ℕ). set l k.result (48 + a.n % 10)) k.ensures.holds
          ∙ put_snoc a.at (48 + a.n % 10) k.result (decimal (a.n / 10)) a.out.now (omega arith) k.ensures.place
          ∙ ap (λ (l : List ℕ). put a.at l a.out.now) (sym (decimal_more a.n c.if-n-lt10.false));
    }
