-- `line_words` meets its contract.
use mathlib.Core.Path.{◌≡◌, sym, ap, ◌∙◌}
use lib.ListN.{length}
use mir.Syntax.{w64}
use mir.ValLaws.{to_z-of_z}
use borrow.Author.Rules.{rules}
use Rattle.std.specs.Prelude.{Result, Ok}
use Rattle.std.proofs.lemmas.Result.{err_from_is_err_and}
use Rattle.group.specs.declared.Refusal.{Refusal}
use Rattle.abi.specs.Abi.{group_of_words}
use Rattle.fix.specs.declared.Fix.{Fix}
use Rattle.lookup.specs.Lookup.{looked}
use Rattle.exercise.specs.Exercise.{point_at}
use Rattle.logs.specs.Writing.{found_written, found_after, line_written, line_after}
use Rattle.logs.proofs.LengthLaws.{fix_found}
use Rattle.logs.proofs.WrittenLaws.{lookup_refused}
use Rattle.logs.proofs.line_words.Goals as goal
use Rattle.logs.proofs.line_words.Goals.{In_ok-f}

-- the lookup of the position is the fix
found : (c : In_ok-f) → looked (group_of_words c.args.words.now) c.args.nodes.now (point_at c.args.position) c.args.position.day ≡ Ok c.in_ok-f.f
found c =
    sym (c.in_ok-f.ensures ∙ ap (looked (group_of_words c.args.words.now) c.args.nodes.now (point_at c.args.position)) (to_z-of_z w64 c.args.position.day (search rules)))

pub returns-in_err-f : goal.returns-in_err-f
returns-in_err-f c =
    let a = c.args in let g = group_of_words a.words.now in
    let p = err_from_is_err_and c.from_residual.result c.from_residual.ensures.1 in
    let e = sym (c.in_err-f.ensures ∙ ap (looked g a.nodes.now (point_at a.position)) (to_z-of_z w64 a.position.day (search rules))) in
    let w = lookup_refused g a.nodes.now a.position _ e a.out.now in
    record { answer = rw (p.1, p.2) w.0; bytes = w.1 }

pub write_fix-requires : goal.write_fix-requires
write_fix-requires c =
    fix_found (group_of_words c.args.words.now) c.args.nodes.now c.args.position _ (found (goal.at.write_fix-requires c).In_ok-f)

pub returns : goal.returns
unfolding line_written line_after
returns c =
    let a = c.args in let g = group_of_words a.words.now in
    let e = sym (found (goal.at.returns c).In_ok-f) in
    record {
      answer = c.write_fix.ensures.answer ∙ ap (found_written g a.position (length a.out.now)) e;
      bytes = c.write_fix.ensures.bytes ∙ ap (λ (l : Result Fix Refusal). found_after g a.position l a.out.now) e;
    }
