-- `line::put_line` meets its contract.
use Prim.Native.Nat.{ℕ}
use mathlib.Core.Path.{◌≡◌, sym, ap, ◌∙◌}
use mathlib.Core.List.{List, [], ◌∷◌, ◌++◌, map, append_assoc}
use native.Mathlib.Omega.{arith}
use lib.IntN.{ℤ}
use lib.ListN.{length, take}
use lib.Seq.{take_all}
use Rattle.text.specs.Parts.{led, join}
use Rattle.text.specs.Decimal.{int_text}
use Rattle.text.proofs.PutLaws.{Left, left_all, left_none, left_more}
use Rattle.line.proofs.put_line.Goals as goal

pub returns : goal.returns
returns c =
    let Rest : List ℕ → ℕ → List ℕ → Type 0 = Left c.args.at (join 9 (c.args.word.now ∷ map int_text c.args.numbers.now) ++ (10 ∷ [])) c.args.out.now in
    let numbers : List ℕ = led 9 (map int_text (take (length c.args.numbers.now) c.args.numbers.now)) in
    let left₀ : Rest (c.args.word.now ++ (numbers ++ (10 ∷ []))) c.args.at c.args.out.now =
    let w = c.args.word.now in let zs = c.args.numbers.now in
    let e : take (length zs) zs ≡ zs = take_all (length zs) zs (omega arith) in
    left_all c.args.at _ c.args.out.now _
    (append_assoc w (led 9 (map int_text zs)) (10 ∷ []) ∙ ap (λ (ys : List ℤ). w ++ (led 9 (map int_text ys) ++ (10 ∷ []))) (sym e)) c.requires in
    let left₁ : Rest (numbers ++ (10 ∷ [])) c.put_bytes-p.result c.put_bytes-p.new.out = left_more c.args.word.now (numbers ++ (10 ∷ [])) left₀ c.put_bytes-p.ensures in
    let left₂ : Rest (10 ∷ []) c.put_numbers-q.result c.put_numbers-q.new.out = left_more numbers (10 ∷ []) left₁ c.put_numbers-q.ensures in
    left_none (left_more (10 ∷ []) [] left₂ c.put_byte.ensures)
