-- `judge_nodes` meets its contract: the frames say what the record says of node ranges.
use Prim.Native.Nat.{ℕ}
use mathlib.Core.Path.{◌≡◌, sym, ap, ◌∙◌, subst}
use mathlib.Core.List.{List}
use native.Mathlib.Omega.{arith}
use lib.Dec.{ltb}
use Rattle.numbers.specs.First.{first}
use Rattle.numbers.proofs.FirstLaws.{first_same}
use Rattle.group.specs.declared.Group.{Group}
use Rattle.group.proofs.RefusalLaws.{at_here, at_past}
use Rattle.abi.specs.Abi.{group_of_words}
use Rattle.flat.specs.declared.Frame.{Frame}
use Rattle.flat.specs.Frames.{frame_at, frame_end}
use Rattle.flat.specs.Lists.{Framed}
use Rattle.judge.specs.Judge.{judged}
use Rattle.judge.proofs.Accepted.{accepted_head, accepted_sized}
use Rattle.lookup.specs.Lookup.{ends_early, nodes_judged}
use Rattle.lookup.specs.Flat.{FramesSized}
use Rattle.lookup.proofs.judge_nodes.Goals as goal
use Rattle.std.specs.Prelude.{Ok, Err}

module _ (g : Group) (frames : List ℕ) (f : Framed g g.grids frames) where
  -- the first short range, by the frames
  short : {n np : ℕ} (count : ℕ) → n ≡ g.grids → np ≡ g.parameters
      → first (λ k. ltb count (frame_end np (frame_at frames k))) n ≡ first (ends_early g count) g.grids
  short count en ep =
      (λ i. first (λ k. ltb count (frame_end (ep i) (frame_at frames k))) (en i))
      ∙ first_same _ _ g.grids (λ k l. ap (λ (d : Frame). ltb count (frame_end g.parameters d)) (f k l))

  sized : judged g ≡ Ok tt → FramesSized frames g.grids
  sized e k l = let z = accepted_sized g e k l in rw (f k l) (z.lon.most, z.lat.most, z.first)

pub first_short-short-requires : goal.first_short-short-requires
first_short-short-requires c =
    let g = group_of_words c.args.words.now in let h = accepted_head g c.requires.0 in let e = c.grid_count-n.ensures in (
      omega (arith, h.grids, e, c.requires.2),
      omega (arith, h.parameters, c.parameter_count.ensures),
      subst (FramesSized c.args.frames.now) (sym e) (sized g c.args.frames.now c.requires.1 c.requires.0),
    )

pub overflow_add-result : goal.overflow_add-result
overflow_add-result c =
    omega (arith, c.if-short-n.true, c.grid_count-n.ensures, (accepted_head (group_of_words c.args.words.now) c.requires.0).grids)

pub returns-then-short-n : goal.returns-then-short-n
unfolding nodes_judged
returns-then-short-n c =
    let g = group_of_words c.args.words.now in
    at_here Err (ends_early g c.args.nodes) g.grids 13 1 (Ok tt) c.first_short-short.result
    (c.first_short-short.ensures ∙ short g c.args.frames.now c.requires.1 _ c.grid_count-n.ensures c.parameter_count.ensures)
    (omega (arith, c.if-short-n.true, c.grid_count-n.ensures))

pub returns : goal.returns
unfolding nodes_judged
returns c =
    let g = group_of_words c.args.words.now in
    sym
    (at_past Err (ends_early g c.args.nodes) g.grids 13 1 (Ok tt) c.first_short-short.result
    (c.first_short-short.ensures ∙ short g c.args.frames.now c.requires.1 _ c.grid_count-n.ensures c.parameter_count.ensures)
    (omega (arith, c.if-short-n.false, c.grid_count-n.ensures)))
