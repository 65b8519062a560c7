-- `line::group_line` meets its contract.
use Prim.Native.Nat.{ℕ}
use mathlib.Core.Path.{◌≡◌, refl, sym, ap, ◌∙◌}
use mathlib.Core.Bool.{Bool, true, false, cond, ◌&&◌}
use mathlib.Core.List.{List}
use borrow.Author.Rules.{rules}
use lib.Dec.{eqb}
use lib.IntN.{ℤ, pos}
use lib.ListN.{length, take, drop}
use Rattle.std.specs.Prelude.{Option, Some, None, Result, Ok, Err}
use Rattle.numbers.specs.Order.{count_of}
use Rattle.text.specs.Parts.{split, field_of}
use Rattle.text.specs.Fields.{same, read_ints}
use Rattle.group.specs.Limits.{head_numbers_fit}
use Rattle.group.specs.Refusals.{refusal}
use Rattle.group.specs.Shapes.{int_at}
use Rattle.group.specs.declared.Refusal.{Refusal}
use Rattle.group.specs.declared.Name.{Name}
use Rattle.group.specs.declared.Unit as U
use Rattle.line.specs.declared.Head.{Head}
use Rattle.line.specs.Names.{read_name, read_unit}
use Rattle.line.specs.Lines.{group_keyword, head_texts, head_fit, head_of, head_line}
use Rattle.line.specs.Counted.{counted_head}
use Rattle.line.specs.Numbers.{as_read}
use Rattle.line.proofs.LimitLaws.{head_small, head_counted, head_made}
use Rattle.line.proofs.ReadLaws.{kind_miss, kind_textless, kind_unread, kind_read, head_unnamed, head_unitless, head_named, numbers_told}
use Rattle.line.proofs.group_line.Goals as goal

module _ (line : List ℕ) (r : Bool) (e : r ≡ (same (field_of line 0) group_keyword && eqb (length (split 9 line)) 7)) where
  of_other : r ≡ false → Err (refusal 1 1) ≡ head_line 1 line
  of_other f = sym (kind_miss 2 4 head_texts head_fit head_of (refusal 1 1) (refusal 2 1) group_keyword line r e f)

  module _ (t : r ≡ true) where
    textless : head_texts (drop 1 (split 9 line)) ≡ None → Err (refusal 1 1) ≡ head_line 1 line
    textless = kind_textless 2 4 head_texts head_fit head_of (refusal 1 1) (refusal 2 1) group_keyword line r e t

    module _ (o : Option (List ℤ)) (told : o ≡ as_read (read_ints (take 4 (drop 3 (split 9 line))))) where
      unread : o ≡ None → Err (refusal 1 1) ≡ head_line 1 line
      unread = kind_unread 2 4 head_texts head_fit head_of (refusal 1 1) (refusal 2 1) group_keyword line r e t o told

      -- where each field is read, the record that is made of them and the test of its numbers
      module _ (n : Name) (u : U.Unit) (p : read_name (field_of line 1) ≡ Some n) (q : read_unit (field_of line 2) ≡ Some u) (zs : List ℤ) (w : o ≡ Some zs)
          (h : Head) (made : h ≡ counted_head n u (int_at zs 0) (int_at zs 1) (int_at zs 2) (int_at zs 3))
          (b : Bool) (tested : b ≡ head_numbers_fit (pos h.quantum) (pos h.parameters) (pos h.functions) (pos h.grids)) where
        fits : b ≡ head_fit zs
        fits =
            tested
            ∙ ap (λ (h : Head). head_numbers_fit (pos h.quantum) (pos h.parameters) (pos h.functions) (pos h.grids)) made
            ∙ head_counted (int_at zs 0) (int_at zs 1) (int_at zs 2) (int_at zs 3)

        judged : cond (head_fit zs) (Ok (head_of (n, u) zs)) (Err (refusal 2 1)) ≡ head_line 1 line
        judged = kind_read 2 4 head_texts head_fit head_of (refusal 1 1) (refusal 2 1) group_keyword line r e t o told head_small (n, u) (head_named line n u p q) zs w

        read : cond b (Ok h) (Err (refusal 2 1)) ≡ head_line 1 line
        read = ap (λ (t : Bool). cond t (Ok h) (Err (refusal 2 1))) fits ∙ go (head_fit zs) refl ∙ judged
          where
            go : (t : Bool) → head_fit zs ≡ t → ◌≡◌ {A = Result Head Refusal} (cond t (Ok h) (Err (refusal 2 1))) (cond t (Ok (head_of (n, u) zs)) (Err (refusal 2 1)))
            go true f = ap Ok (made ∙ head_made (int_at zs 0) (int_at zs 1) (int_at zs 2) (int_at zs 3) n u f)
            go false f = refl

pub returns-then-not-cut_as : goal.returns-then-not-cut_as
returns-then-not-cut_as c = of_other c.args.line.now _ c.cut_as.ensures.value c.if-not-cut_as.true

pub returns-in_err-name : goal.returns-in_err-name
returns-in_err-name c =
    let line = c.args.line.now in
    let name = c.read_name.ensures ∙ ap read_name c.cut_field.ensures in
    let refused : c.from_residual.result ≡ Err (refusal 1 1) = search rules in
    refused ∙ textless line _ c.cut_as.ensures.value c.if-not-cut_as.false (head_unnamed line (sym name ∙ c.in_err-name.ensures.ok_part))

pub returns-in_err-unit : goal.returns-in_err-unit
returns-in_err-unit c =
    let line = c.args.line.now in
    let unit = c.read_unit.ensures ∙ ap read_unit c.cut_field-2.ensures in
    let refused : c.from_residual-in_err-unit.result ≡ Err (refusal 1 1) = search rules in
    refused ∙ textless line _ c.cut_as.ensures.value c.if-not-cut_as.false (head_unitless line (sym unit ∙ c.in_err-unit.ensures.ok_part))

pub returns-in_err-q : goal.returns-in_err-q
returns-in_err-q c =
    let refused : c.from_residual-in_err-q.result ≡ Err (refusal 1 1) = search rules in
    refused ∙ unread c.args.line.now _ c.cut_as.ensures.value c.if-not-cut_as.false _ c.numbers_from.ensures c.in_err-q.ensures.ok_part

pub returns : goal.returns
returns c =
    let name = c.read_name.ensures ∙ ap read_name c.cut_field.ensures in
    let unit = c.read_unit.ensures ∙ ap read_unit c.cut_field-2.ensures in
    let zs = c.in_ok-q.field-0 in let e = c.in_ok-q.ensures.ok_part in
    let told = numbers_told _ zs (sym c.numbers_from.ensures ∙ e) in
    c.limited.ensures
    ∙ read c.args.line.now _ c.cut_as.ensures.value c.if-not-cut_as.false _ c.numbers_from.ensures
    c.in_ok-name.name c.in_ok-unit.unit (sym name ∙ c.in_ok-name.ensures.ok_part) (sym unit ∙ c.in_ok-unit.ensures.ok_part) zs e
    _ (λ i. record {
      name = c.in_ok-name.name;
      unit = c.in_ok-unit.unit;
      quantum = (c.count_of.ensures ∙ ap count_of (told 0)) i;
      parameters = (c.count_of-2.ensures ∙ ap count_of (told 1)) i;
      functions = (c.count_of-3.ensures ∙ ap count_of (told 2)) i;
      grids = (c.count_of-4.ensures ∙ ap count_of (told 3)) i;
    })
    _ c.head_numbers_fit-fits.ensures
