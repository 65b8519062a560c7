-- `line::grid_line` meets its contract.
use Prim.Native.Nat.{ℕ}
use mathlib.Core.Path.{◌≡◌, refl, sym, ap, ◌∙◌}
use mathlib.Core.Bool.{Bool, true, false, cond, ◌&&◌}
use mathlib.Core.List.{List}
use borrow.Author.Rules.{rules}
use lib.Dec.{eqb}
use lib.IntN.{ℤ}
use lib.ListN.{length, take, drop}
use Rattle.std.specs.Prelude.{Option, Some, None, Result, Ok, Err}
use Rattle.numbers.specs.Order.{count_of}
use Rattle.text.specs.Parts.{split, field_of}
use Rattle.text.specs.Fields.{same, read_ints}
use Rattle.group.specs.Limits.{grid_fits}
use Rattle.group.specs.Refusals.{refusal}
use Rattle.group.specs.Shapes.{int_at}
use Rattle.group.specs.declared.Name.{Name}
use Rattle.group.specs.declared.Grid.{Grid}
use Rattle.group.specs.declared.Refusal.{Refusal}
use Rattle.line.specs.Names.{read_name}
use Rattle.line.specs.Lines.{grid_keyword, grid_texts, grid_fit, grid_of, grid_line}
use Rattle.line.specs.Counted.{counted_grid}
use Rattle.line.specs.Numbers.{as_read}
use Rattle.line.proofs.NameLaws.{read_name_fits}
use Rattle.line.proofs.LimitLaws.{grid_small, grid_judged, grid_made}
use Rattle.line.proofs.ReadLaws.{kind_miss, kind_textless, kind_unread, kind_read, grid_texts_lem, numbers_told}
use Rattle.line.proofs.grid_line.Goals as goal

module _ (line : List ℕ) (n : ℕ) (r : Bool) (e : r ≡ (same (field_of line 0) grid_keyword && eqb (length (split 9 line)) 10)) where
  of_other : r ≡ false → Err (refusal 1 n) ≡ grid_line n line
  of_other f = sym (kind_miss 1 8 grid_texts grid_fit grid_of (refusal 1 n) (refusal 2 n) grid_keyword line r e f)

  module _ (t : r ≡ true) where
    unnamed : read_name (field_of line 1) ≡ None → Err (refusal 1 n) ≡ grid_line n line
    unnamed q = kind_textless 1 8 grid_texts grid_fit grid_of (refusal 1 n) (refusal 2 n) grid_keyword line r e t (grid_texts_lem line ∙ q)

    module _ (o : Option (List ℤ)) (told : o ≡ as_read (read_ints (take 8 (drop 2 (split 9 line))))) where
      unread : o ≡ None → Err (refusal 1 n) ≡ grid_line n line
      unread = kind_unread 1 8 grid_texts grid_fit grid_of (refusal 1 n) (refusal 2 n) grid_keyword line r e t o told

      -- where each field is read, the grid that is made of them
      module _ (m : Name) (p : read_name (field_of line 1) ≡ Some m) (zs : List ℤ) (w : o ≡ Some zs) where
        abbrev made : Grid
        made = counted_grid m (int_at zs 0) (int_at zs 1) (int_at zs 2) (int_at zs 3) (int_at zs 4) (int_at zs 5) (int_at zs 6) (int_at zs 7)

        judged : cond (grid_fit zs) (Ok (grid_of m zs)) (Err (refusal 2 n)) ≡ grid_line n line
        judged = kind_read 1 8 grid_texts grid_fit grid_of (refusal 1 n) (refusal 2 n) grid_keyword line r e t o told grid_small m (grid_texts_lem line ∙ p) zs w

        made_read : cond (grid_fits made) (Ok made) (Err (refusal 2 n)) ≡ grid_line n line
        made_read =
            ap (λ (t : Bool). cond t (Ok made) (Err (refusal 2 n)))
            (grid_judged m (int_at zs 0) (int_at zs 1) (int_at zs 2) (int_at zs 3) (int_at zs 4) (int_at zs 5) (int_at zs 6) (int_at zs 7) (read_name_fits (field_of line 1) m p))
            ∙ go (grid_fit zs) refl ∙ judged
          where
            go : (t : Bool) → grid_fit zs ≡ t → ◌≡◌ {A = Result Grid Refusal} (cond t (Ok made) (Err (refusal 2 n))) (cond t (Ok (grid_of m zs)) (Err (refusal 2 n)))
            go true f = ap Ok (grid_made m (int_at zs 0) (int_at zs 1) (int_at zs 2) (int_at zs 3) (int_at zs 4) (int_at zs 5) (int_at zs 6) (int_at zs 7) f)
            go false f = refl

        read : (g : Grid) → g ≡ made → (b : Bool) → b ≡ grid_fits g → cond b (Ok g) (Err (refusal 2 n)) ≡ grid_line n line
        read g d b f = ap (λ (t : Bool). cond t (Ok g) (Err (refusal 2 n))) f ∙ ap (λ (x : Grid). cond (grid_fits x) (Ok x) (Err (refusal 2 n))) d ∙ made_read

pub returns-then-not-cut_as : goal.returns-then-not-cut_as
returns-then-not-cut_as c = of_other c.args.line.now c.args.n _ c.cut_as.ensures.value c.if-not-cut_as.true

pub returns-in_err-name : goal.returns-in_err-name
returns-in_err-name c =
    let name = c.read_name.ensures ∙ ap read_name c.cut_field.ensures in
    let refused : c.from_residual.result ≡ Err (refusal 1 c.args.n) = search rules in
    refused ∙ unnamed c.args.line.now c.args.n _ c.cut_as.ensures.value c.if-not-cut_as.false (sym name ∙ c.in_err-name.ensures.ok_part)

pub returns-in_err-numbers : goal.returns-in_err-numbers
returns-in_err-numbers c =
    let refused : c.from_residual-in_err-numbers.result ≡ Err (refusal 1 c.args.n) = search rules in
    refused ∙ unread c.args.line.now c.args.n _ c.cut_as.ensures.value c.if-not-cut_as.false _ c.numbers_from.ensures c.in_err-numbers.ensures.ok_part

pub returns : goal.returns
returns c =
    let name = c.read_name.ensures ∙ ap read_name c.cut_field.ensures in
    let zs = c.in_ok-numbers.numbers in let e = c.in_ok-numbers.ensures.ok_part in
    let told = numbers_told _ zs (sym c.numbers_from.ensures ∙ e) in
    c.limited.ensures
    ∙ read c.args.line.now c.args.n _ c.cut_as.ensures.value c.if-not-cut_as.false _ c.numbers_from.ensures
    c.in_ok-name.name (sym name ∙ c.in_ok-name.ensures.ok_part) zs e
    _ (λ i. record {
      name = c.in_ok-name.name;
      lon = record { 0 = told 0 i };
      lat = record { 0 = told 1 i };
      dlon = told 2 i;
      dlat = told 3 i;
      ni = (c.count_of.ensures ∙ ap count_of (told 4)) i;
      nj = (c.count_of-2.ensures ∙ ap count_of (told 5)) i;
      rank = (c.count_of-3.ensures ∙ ap count_of (told 6)) i;
      start = (c.count_of-4.ensures ∙ ap count_of (told 7)) i;
    })
    _ c.grid_fits.ensures
