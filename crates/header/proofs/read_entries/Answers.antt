-- `header::read_entries` meets its contract.
use Prim.Native.Nat.{ℕ, ◌+◌, ◌≤◌}
use mathlib.Core.Path.{◌≡◌, sym, ap, ◌∙◌}
use mathlib.Core.List.{List}
use borrow.Author.Rules.{rules}
use lib.ListN.{length, take, replicate}
use Rattle.std.specs.Prelude.{Ok, Err}
use Rattle.group.specs.Numbers.{functions_most, grids_most}
use Rattle.group.specs.declared.Function.{Function}
use Rattle.group.specs.declared.Grid.{Grid}
use Rattle.line.specs.Lines.{function_line, grid_line}
use Rattle.header.specs.Items.{read_items, entries}
use Rattle.header.specs.Whole.{grid_lines, lines_reading}
use Rattle.header.proofs.ItemLaws.{part_length, part_filled}
use Rattle.header.proofs.WholeLaws.{functions_stop, grids_stop, more_stops, entries_done}
use Rattle.header.proofs.read_entries.Goals as goal

-- a part of an array of so many entries is read from so many lines
functions_told : (n : ℕ) → n ≤ functions_most → (z : Function) (ps : List (List ℕ)) → read_items function_line n 2 ps ≡ read_items function_line (length (take n (replicate functions_most z))) 2 ps
functions_told n h z ps = ap (λ (m : ℕ). read_items function_line m 2 ps) (sym (part_length functions_most n z h))

grids_told : (n first : ℕ) → n ≤ grids_most → (z : Grid) (ps : List (List ℕ)) → read_items grid_line n first ps ≡ read_items grid_line (length (take n (replicate grids_most z))) first ps
grids_told n first h z ps = ap (λ (m : ℕ). read_items grid_line m first ps) (sym (part_length grids_most n z h))

pub returns-in_err-next : goal.returns-in_err-next
returns-in_err-next c =
    let a = c.args in let h = a.head in
    let refused : c.from_residual.result ≡ Err c.in_err-next.field-0.0 = search rules in
    refused
    ∙ sym (ap lines_reading (functions_stop function_line grid_lines a.text.now a.at h _
    (functions_told h.functions c.requires.1.0 c.blank_function-function.result _ ∙ c.in_err-next.ensures)))

pub returns-in_err-end : goal.returns-in_err-end
returns-in_err-end c =
    let a = c.args in let h = a.head in
    let refused : c.from_residual-in_err-end.result ≡ Err c.in_err-end.field-0.0 = search rules in
    refused
    ∙ sym (ap lines_reading (grids_stop function_line grid_lines a.text.now a.at h _ c.in_ok-next.next
    (functions_told h.functions c.requires.1.0 c.blank_function-function.result _ ∙ c.in_ok-next.ensures.0) _
    (grids_told h.grids (2 + h.functions) c.requires.1.1 c.blank_grid-grid.result _ ∙ c.in_err-end.ensures)))

pub returns-then-end-text : goal.returns-then-end-text
returns-then-end-text c =
    let a = c.args in let h = a.head in
    sym (ap lines_reading (more_stops function_line grid_lines a.text.now a.at h _ c.in_ok-next.next
    (functions_told h.functions c.requires.1.0 c.blank_function-function.result _ ∙ c.in_ok-next.ensures.0) _ c.in_ok-end.end
    (grids_told h.grids (2 + h.functions) c.requires.1.1 c.blank_grid-grid.result _ ∙ c.in_ok-end.ensures.0) c.in_ok-end.ensures.1 c.if-end-text.true))

pub returns : goal.returns
returns c =
    let a = c.args in let h = a.head in
    let rs = c.read_each.new.entries in let ds = c.read_each-2.new.entries in
    let f = part_filled functions_most h.functions c.blank_function-function.result c.requires.1.0 rs c.read_each.auto.entries ∙ ap (λ (z : Function). entries functions_most z rs) c.blank_function-function.ensures in
    let g = part_filled grids_most h.grids c.blank_grid-grid.result c.requires.1.1 ds c.read_each-2.auto.entries ∙ ap (λ (z : Grid). entries grids_most z ds) c.blank_grid-grid.ensures in
    (λ i. Ok (record {
      name = h.name;
      unit = h.unit;
      quantum = h.quantum;
      parameters = h.parameters;
      functions = h.functions;
      grids = h.grids;
      function = f i;
      grid = g i;
    }))
    ∙ sym (ap lines_reading (entries_done function_line grid_lines a.text.now a.at h rs c.in_ok-next.next
    (functions_told h.functions c.requires.1.0 c.blank_function-function.result _ ∙ c.in_ok-next.ensures.0) ds c.in_ok-end.end
    (grids_told h.grids (2 + h.functions) c.requires.1.1 c.blank_grid-grid.result _ ∙ c.in_ok-end.ensures.0) c.in_ok-end.ensures.1 c.if-end-text.false))
