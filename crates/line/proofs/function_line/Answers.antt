-- `line::function_line` meets its contract.
use Prim.Native.Nat.{ℕ}
use mathlib.Core.Path.{◌≡◌, sym, ◌∙◌}
use mathlib.Core.Bool.{Bool, true, false}
use mathlib.Core.List.{List, []}
use native.Mathlib.Omega.{arith}
use borrow.Author.Rules.{rules}
use lib.ListN.{get_or, drop}
use Rattle.std.specs.Prelude.{Result, Err}
use Rattle.text.specs.Parts.{split}
use Rattle.text.specs.Fields.{same}
use Rattle.text.proofs.PartLaws.{some_split}
use Rattle.group.specs.declared.Function.{Function}
use Rattle.group.specs.declared.Refusal.{Refusal}
use Rattle.group.specs.declared.Shape.TheVariants as S
use Rattle.group.specs.Refusals.{refusal}
use Rattle.group.specs.Shapes.{ramp_of, step_of, ramp2_of}
use Rattle.line.specs.Lines.{keyed, ramp_keyword, step_keyword, ramp2_keyword, shape_fields, function_line}
use Rattle.line.proofs.KindLaws.{ramp_shape, step_shape, ramp2_shape}
use Rattle.line.proofs.LineLaws.{keyed_miss, keyed_hit}
use Rattle.line.proofs.ReadLaws.{keyword_told, numbers_told, shape_unread, shape_read}
use Rattle.line.proofs.function_line.Goals as goal

-- what is left of a line's kinds behind each test: no ramp, then no step
abbrev no_step : ℕ → List (List ℕ) → Result Function Refusal
no_step n = keyed ramp2_keyword (shape_fields 4 ramp2_of n) (λ fs. Err (refusal 1 n))

abbrev no_ramp : ℕ → List (List ℕ) → Result Function Refusal
no_ramp n = keyed step_keyword (shape_fields 3 step_of n) (no_step n)

-- the kind of line n, by what the tests of its word tell
module _ (line : List ℕ) (n : ℕ) where
  abbrev Told : List ℕ → Bool → Type 0
  Told word r = same (get_or (split 9 line) 0 []) word ≡ r

  of_ramp : Told ramp_keyword true → function_line n line ≡ shape_fields 4 ramp_of n (drop 1 (split 9 line))
  of_ramp = keyed_hit ramp_keyword (shape_fields 4 ramp_of n) (no_ramp n) line

  module _ (r : Told ramp_keyword false) where
    of_no_ramp : function_line n line ≡ no_ramp n (split 9 line)
    of_no_ramp = keyed_miss ramp_keyword (shape_fields 4 ramp_of n) (no_ramp n) (split 9 line) r

    of_step : Told step_keyword true → function_line n line ≡ shape_fields 3 step_of n (drop 1 (split 9 line))
    of_step s = of_no_ramp ∙ keyed_hit step_keyword (shape_fields 3 step_of n) (no_step n) line s

    module _ (s : Told step_keyword false) where
      of_no_step : function_line n line ≡ no_step n (split 9 line)
      of_no_step = of_no_ramp ∙ keyed_miss step_keyword (shape_fields 3 step_of n) (no_step n) (split 9 line) s

      of_ramp2 : Told ramp2_keyword true → function_line n line ≡ shape_fields 4 ramp2_of n (drop 1 (split 9 line))
      of_ramp2 t = of_no_step ∙ keyed_hit ramp2_keyword (shape_fields 4 ramp2_of n) (λ fs. Err (refusal 1 n)) line t

      of_none : Told ramp2_keyword false → function_line n line ≡ Err (refusal 1 n)
      of_none t = of_no_step ∙ keyed_miss ramp2_keyword (shape_fields 4 ramp2_of n) (λ fs. Err (refusal 1 n)) (split 9 line) t

pub cut_field-word-requires : goal.cut_field-word-requires
cut_field-word-requires c = (omega arith, c.cut_fields-count.ensures.cuts 0 (some_split 9 c.args.line.now) (omega arith))

pub returns-in_err-a : goal.returns-in_err-a
returns-in_err-a c =
    let refused : c.from_residual.result ≡ Err (refusal 1 c.args.n) = search rules in
    refused ∙ shape_unread ramp_shape c.args.n (drop 1 (split 9 c.args.line.now)) _ c.numbers_behind.ensures c.in_err-a.ensures.ok_part
    ∙ sym (of_ramp c.args.line.now c.args.n (keyword_told ramp_keyword c.args.line.now _ _ c.same_bytes.ensures c.cut_field-word.ensures ∙ c.if-same_bytes.true))

pub returns-then-same_bytes : goal.returns-then-same_bytes
returns-then-same_bytes c =
    let zs = c.in_ok-a.field-0 in let e = c.in_ok-a.ensures.ok_part in
    let told = numbers_told _ zs (sym c.numbers_behind.ensures ∙ e) in
    c.function_made.ensures
    ∙ shape_read ramp_shape c.args.n (drop 1 (split 9 c.args.line.now)) _ c.numbers_behind.ensures zs e _
    (λ i. S.Ramp (record { a = told 0 i; s0 = told 1 i; b = told 2 i; s1 = told 3 i }))
    ∙ sym (of_ramp c.args.line.now c.args.n (keyword_told ramp_keyword c.args.line.now _ _ c.same_bytes.ensures c.cut_field-word.ensures ∙ c.if-same_bytes.true))

pub returns-in_err-event : goal.returns-in_err-event
returns-in_err-event c =
    let refused : c.from_residual-in_err-event.result ≡ Err (refusal 1 c.args.n) = search rules in
    refused ∙ shape_unread step_shape c.args.n (drop 1 (split 9 c.args.line.now)) _ c.numbers_behind-then-same_bytes-2.ensures c.in_err-event.ensures.ok_part
    ∙ sym (of_step c.args.line.now c.args.n (keyword_told ramp_keyword c.args.line.now _ _ c.same_bytes.ensures c.cut_field-word.ensures ∙ c.if-same_bytes.false) (keyword_told step_keyword c.args.line.now _ _ c.same_bytes-2.ensures c.cut_field-word.ensures ∙ c.if-same_bytes-2.true))

pub returns-then-same_bytes-2 : goal.returns-then-same_bytes-2
returns-then-same_bytes-2 c =
    let zs = c.in_ok-event.field-0 in let e = c.in_ok-event.ensures.ok_part in
    let told = numbers_told _ zs (sym c.numbers_behind-then-same_bytes-2.ensures ∙ e) in
    c.function_made-then-same_bytes-2.ensures
    ∙ shape_read step_shape c.args.n (drop 1 (split 9 c.args.line.now)) _ c.numbers_behind-then-same_bytes-2.ensures zs e _
    (λ i. S.Step (record { event = told 0 i; reference = told 1 i; mult = told 2 i }))
    ∙ sym (of_step c.args.line.now c.args.n (keyword_told ramp_keyword c.args.line.now _ _ c.same_bytes.ensures c.cut_field-word.ensures ∙ c.if-same_bytes.false) (keyword_told step_keyword c.args.line.now _ _ c.same_bytes-2.ensures c.cut_field-word.ensures ∙ c.if-same_bytes-2.true))

pub returns-in_err-start : goal.returns-in_err-start
returns-in_err-start c =
    let refused : c.from_residual-in_err-start.result ≡ Err (refusal 1 c.args.n) = search rules in
    refused ∙ shape_unread ramp2_shape c.args.n (drop 1 (split 9 c.args.line.now)) _ c.numbers_behind-then-same_bytes-3.ensures c.in_err-start.ensures.ok_part
    ∙ sym (of_ramp2 c.args.line.now c.args.n (keyword_told ramp_keyword c.args.line.now _ _ c.same_bytes.ensures c.cut_field-word.ensures ∙ c.if-same_bytes.false) (keyword_told step_keyword c.args.line.now _ _ c.same_bytes-2.ensures c.cut_field-word.ensures ∙ c.if-same_bytes-2.false) (keyword_told ramp2_keyword c.args.line.now _ _ c.same_bytes-3.ensures c.cut_field-word.ensures ∙ c.if-same_bytes-3.true))

pub returns-then-same_bytes-3 : goal.returns-then-same_bytes-3
returns-then-same_bytes-3 c =
    let zs = c.in_ok-start.field-0 in let e = c.in_ok-start.ensures.ok_part in
    let told = numbers_told _ zs (sym c.numbers_behind-then-same_bytes-3.ensures ∙ e) in
    c.function_made-then-same_bytes-3.ensures
    ∙ shape_read ramp2_shape c.args.n (drop 1 (split 9 c.args.line.now)) _ c.numbers_behind-then-same_bytes-3.ensures zs e _
    (λ i. S.Ramp2 (record { start = told 0 i; end = told 1 i; reference = told 2 i; mult = told 3 i }))
    ∙ sym (of_ramp2 c.args.line.now c.args.n (keyword_told ramp_keyword c.args.line.now _ _ c.same_bytes.ensures c.cut_field-word.ensures ∙ c.if-same_bytes.false) (keyword_told step_keyword c.args.line.now _ _ c.same_bytes-2.ensures c.cut_field-word.ensures ∙ c.if-same_bytes-2.false) (keyword_told ramp2_keyword c.args.line.now _ _ c.same_bytes-3.ensures c.cut_field-word.ensures ∙ c.if-same_bytes-3.true))

pub returns : goal.returns
returns c = sym (of_none c.args.line.now c.args.n (keyword_told ramp_keyword c.args.line.now _ _ c.same_bytes.ensures c.cut_field-word.ensures ∙ c.if-same_bytes.false) (keyword_told step_keyword c.args.line.now _ _ c.same_bytes-2.ensures c.cut_field-word.ensures ∙ c.if-same_bytes-2.false) (keyword_told ramp2_keyword c.args.line.now _ _ c.same_bytes-3.ensures c.cut_field-word.ensures ∙ c.if-same_bytes-3.false))
