-- An accepted reading fills a struct that is handed on as the group that was read, and writing it gives the text.
use Prim.Native.Nat.{ℕ}
use mathlib.Core.Path.{◌≡◌, sym, ap, ◌∙◌, subst}
use mathlib.Core.List.{List}
use lib.IntN.{ℤ}
use lib.ListN.{length}
use Rattle.group.specs.declared.Group.{Group}
use Rattle.header.specs.Header.{read_header, written, bytes_after}
use Rattle.header.proofs.Demand2.{text_read}
use Rattle.header.proofs.ShapeLaws.{read_shaped}
use Rattle.abi.specs.Abi.{group_of_words, numbers_of}
use Rattle.abi.proofs.BackLaws.{group_back}
use Rattle.judge.proofs.KeptLaws.{accepted_kept}
use Rattle.capi.specs.Answers.{left_by, read_answer, written_answer, write_answer}
use Rattle.capi.specs.Demand2.{WrittenBack, ReadBack}
use Rattle.capi.proofs.Demand1.{reads}
use Rattle.std.specs.Prelude.{Ok}

module _ (text : List ℕ) (group : List ℤ) (z : (read_answer text group).refusal.number ≡ 0) where
  accepted : (g : Group) × (read_header text ≡ Ok g)
  accepted = (reads text group).told.zero z

  abbrev g : Group
  g = accepted.0

  left_numbers : (read_answer text group).lent ≡ numbers_of g
  unfolding read_answer
  left_numbers = ap (left_by numbers_of group) accepted.1

  same_group : group_of_words (read_answer text group).lent ≡ g
  same_group =
      let s = read_shaped text g accepted.1 in
      ap group_of_words left_numbers
      ∙ group_back g (accepted_kept g ((text_read text).accepted g accepted.1) s.name s.function s.grid s.names)

  back : ReadBack text group
  unfolding write_answer
  back =
      let r = text_read text in
      record {
        same_group = accepted.1 ∙ ap Ok (sym same_group);
        same_bytes = λ out room.
            subst (WrittenBack text out) (sym (ap (λ (h : Group). written_answer (written h (length out)) (bytes_after h out)) same_group))
            (record { accepted = r.told g accepted.1 out room; count = r.count g accepted.1 out room; bytes = r.bytes g accepted.1 out room });
      }

pub read_back : (text : List ℕ) (group : List ℤ) → (read_answer text group).refusal.number ≡ 0 → ReadBack text group
read_back = back
